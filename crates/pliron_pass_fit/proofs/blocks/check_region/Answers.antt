use Rattle.std.proofs.Common.{◌<◌, length, sym, subst, ◌∙◌, ap, is_some}
use Rattle.pliron_core.specs.Tree.{layout_of}
use Rattle.pliron_core.specs.WalkSteps.{rest_from}
use Rattle.pliron_laws.proofs.PassedLemmas.{ArePassed, passed_all, passed_start}
use Rattle.pliron_laws.proofs.EdgeLastLemmas.{layout_first, layout_placed, layout_smaller, layout_passed}
use Rattle.pliron_pass_fit.specs.Checks.{IsFitBlock}
use Rattle.pliron_pass_fit.proofs.CheckLemmas.{block_held}
use Rattle.pliron_pass_fit.proofs.blocks.check_region.Goals as goal

pub check_block-requires-clause-held : goal.check_block-requires-clause-held
check_block-requires-clause-held g c =
    block_held c.args.ctx.now.tree c.well_formed-2.ensures.tree c.args.root c.args.holder c.args.region c.in-Some.block c.requires.within c.requires.held (c.loop-at.invariant.placed c.in-Some.block c.in-Some.is)

pub loop-at-init : goal.loop-at-init
loop-at-init g c =
    let t = c.args.ctx.now.tree in
    let first = c.get_head-at.ensures.first in
    record {
      placed = layout_first t c.well_formed-2.ensures.tree c.args.region c.get_head-at.result first;
      passed = passed_start (λ b. IsFitBlock t c.args.root b) (layout_of t c.args.region) c.get_head-at.result first;
    }

pub check_block-requires-clause-block : goal.check_block-requires-clause-block
check_block-requires-clause-block g c = ap is_some (c.loop-at.invariant.placed c.in-Some.block c.in-Some.is)

pub get_next-at-requires : goal.get_next-at-requires
get_next-at-requires g c = ap is_some (c.loop-at.invariant.placed c.in-Some.block c.in-Some.is)

pub loop-at-smaller : goal.loop-at-smaller
loop-at-smaller g c =
    let t = c.args.ctx.now.tree in
    subst (λ o. length (rest_from c.get_next-at.result (layout_of t c.args.region)) < length (rest_from o (layout_of t c.args.region))) (sym c.in-Some.is)
    (layout_smaller t c.well_formed-2.ensures.tree c.args.region c.in-Some.block c.get_next-at.result (c.loop-at.invariant.placed c.in-Some.block c.in-Some.is) c.get_next-at.ensures.next)

pub loop-at-preserved : goal.loop-at-preserved
loop-at-preserved g c =
    let t = c.args.ctx.now.tree in
    let here = c.loop-at.invariant.placed c.in-Some.block c.in-Some.is in
    let before = subst (ArePassed (λ b. IsFitBlock t c.args.root b) (layout_of t c.args.region)) c.in-Some.is c.loop-at.invariant.passed in
    record {
      placed = layout_placed t c.well_formed-2.ensures.tree c.args.region c.in-Some.block c.get_next-at.result here c.get_next-at.ensures.next;
      passed = layout_passed t c.well_formed-2.ensures.tree (λ b. IsFitBlock t c.args.root b) c.args.region c.in-Some.block c.get_next-at.result here c.get_next-at.ensures.next c.in_ok-check_block.ensures.ok before;
    }

pub returns-clause-ok : goal.returns-clause-ok
returns-clause-ok g c =
    let t = c.args.ctx.now.tree in
    let all = subst (ArePassed (λ b. IsFitBlock t c.args.root b) (layout_of t c.args.region)) c.in_default.is c.loop-at.invariant.passed in
    record {
      dominance = sym c.has_ssa_dominance.ensures ∙ c.if-not-has_ssa_dominance.false;
      blocks = λ b e. passed_all (λ b. IsFitBlock t c.args.root b) (layout_of t c.args.region) all b (c.well_formed-2.ensures.tree.layouts.listed b c.args.region e);
    }
