use Rattle.std.proofs.Common.{◌≡◌, ◌<◌, ℕ, Some, length, is_some, sym, ap, subst}
use Rattle.pliron_core.specs.Tree.{block_parent_of, layout_of}
use Rattle.pliron_core.specs.WalkSteps.{rest_from}
use Rattle.pliron_laws.proofs.AnswerLemmas.{yes, no, refuted}
use Rattle.pliron_laws.proofs.PassedLemmas.{ArePassed, passed_all, passed_start}
use Rattle.pliron_laws.proofs.EdgeLastLemmas.{layout_first, layout_placed, layout_smaller, layout_passed}
use Rattle.pliron_opt_inline.specs.Copying.{IsBlockCopyableByHead}
use Rattle.pliron_opt_inline.proofs.CalleeLemmas.{IsFitBothWays}
use Rattle.pliron_opt_inline.proofs.callee.may_copy_region.Goals as goal

pub loop-at-init : goal.loop-at-init
loop-at-init g c =
    let t = c.args.ctx.now.tree in
    let D = g.D.InliningDialect in
    let first = c.get_head-at.ensures.first in
    record {
      placed = layout_first t c.well_formed-2.ensures.tree c.args.region c.get_head-at.result first;
      passed = passed_start (IsFitBothWays g.D.HasMeaning.meaning D.returns D.stays D.closes t c.args.results c.args.region) (layout_of t c.args.region) c.get_head-at.result first;
    }

pub may_copy_block-requires : goal.may_copy_block-requires
may_copy_block-requires g c = ap is_some (c.loop-at.invariant.placed c.in-Some.block c.in-Some.is)

pub returns-then-not-may_copy_block-clause-exact : goal.returns-then-not-may_copy_block-clause-exact
returns-then-not-may_copy_block-clause-exact g c =
    let t = c.args.ctx.now.tree in
    let D = g.D.InliningDialect in
    no ((b : ℕ) → block_parent_of t b ≡ Some c.args.region → IsBlockCopyableByHead D.returns D.stays D.closes t c.args.results c.args.region b)
    (λ all. refuted c.may_copy_block.result c.if-not-may_copy_block.true (c.may_copy_block.ensures.exact.1 (all c.in-Some.block (c.loop-at.invariant.placed c.in-Some.block c.in-Some.is))))

pub get_next-at-requires : goal.get_next-at-requires
get_next-at-requires g c = ap is_some (c.loop-at.invariant.placed c.in-Some.block c.in-Some.is)

pub loop-at-smaller : goal.loop-at-smaller
loop-at-smaller g c =
    let t = c.args.ctx.now.tree in
    subst (λ o. length (rest_from c.get_next-at.result (layout_of t c.args.region)) < length (rest_from o (layout_of t c.args.region))) (sym c.in-Some.is)
    (layout_smaller t c.well_formed-2.ensures.tree c.args.region c.in-Some.block c.get_next-at.result (c.loop-at.invariant.placed c.in-Some.block c.in-Some.is) c.get_next-at.ensures.next)

pub loop-at-preserved : goal.loop-at-preserved
loop-at-preserved g c =
    let t = c.args.ctx.now.tree in
    let D = g.D.InliningDialect in
    let P = IsFitBothWays g.D.HasMeaning.meaning D.returns D.stays D.closes t c.args.results c.args.region in
    let here = c.loop-at.invariant.placed c.in-Some.block c.in-Some.is in
    let before = subst (ArePassed P (layout_of t c.args.region)) c.in-Some.is c.loop-at.invariant.passed in
    let fits = c.if-not-may_copy_block.false in
    record {
      placed = layout_placed t c.well_formed-2.ensures.tree c.args.region c.in-Some.block c.get_next-at.result here c.get_next-at.ensures.next;
      passed = layout_passed t c.well_formed-2.ensures.tree P c.args.region c.in-Some.block c.get_next-at.result here c.get_next-at.ensures.next (record { by_head = c.may_copy_block.ensures.exact.0 fits; by_doing = c.may_copy_block.ensures.copyable fits }) before;
    }

pub returns-clause-exact : goal.returns-clause-exact
returns-clause-exact g c =
    let t = c.args.ctx.now.tree in
    let D = g.D.InliningDialect in
    let P = IsFitBothWays g.D.HasMeaning.meaning D.returns D.stays D.closes t c.args.results c.args.region in
    let all = subst (ArePassed P (layout_of t c.args.region)) c.in_default.is c.loop-at.invariant.passed in
    yes ((b : ℕ) → block_parent_of t b ≡ Some c.args.region → IsBlockCopyableByHead D.returns D.stays D.closes t c.args.results c.args.region b)
    (λ b e. (passed_all P (layout_of t c.args.region) all b (c.well_formed-2.ensures.tree.layouts.listed b c.args.region e)).by_head)

pub returns-clause-copyable : goal.returns-clause-copyable
returns-clause-copyable g c = λ yes b e.
    let t = c.args.ctx.now.tree in
    let D = g.D.InliningDialect in
    let P = IsFitBothWays g.D.HasMeaning.meaning D.returns D.stays D.closes t c.args.results c.args.region in
    let all = subst (ArePassed P (layout_of t c.args.region)) c.in_default.is c.loop-at.invariant.passed in
    (passed_all P (layout_of t c.args.region) all b (c.well_formed-2.ensures.tree.layouts.listed b c.args.region e)).by_doing
