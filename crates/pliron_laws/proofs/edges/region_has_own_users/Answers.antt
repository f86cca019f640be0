use Rattle.std.proofs.Common.{◌<◌, length, sym, subst}
use Rattle.pliron_core.specs.Tree.{layout_of}
use Rattle.pliron_core.specs.WalkSteps.{rest_from}
use Rattle.pliron_laws.specs.EdgeChecks.{HasOwnUsers, RegionHasOwnUsers}
use Rattle.pliron_laws.proofs.AnswerLemmas.{yes}
use Rattle.pliron_laws.proofs.PassedLemmas.{ArePassed, passed_all}
use Rattle.pliron_laws.proofs.EdgeLastLemmas.{layout_placed, layout_smaller, layout_passed}
use Rattle.pliron_laws.proofs.edges.region_has_own_users.Goals as goal

pub loop-at-smaller : goal.loop-at-smaller
loop-at-smaller c =
    let t = c.args.ctx.now.tree in
    subst (λ o. length (rest_from c.get_next-at.result (layout_of t c.args.region)) < length (rest_from o (layout_of t c.args.region))) (sym c.in-Some.is)
    (layout_smaller t c.well_formed-2.ensures.tree c.args.region c.in-Some.block c.get_next-at.result (c.loop-at.invariant.placed c.in-Some.block c.in-Some.is) c.get_next-at.ensures.next)

pub loop-at-preserved : goal.loop-at-preserved
loop-at-preserved c =
    let t = c.args.ctx.now.tree in
    let here = c.loop-at.invariant.placed c.in-Some.block c.in-Some.is in
    let own = c.has_own_users.ensures.0 c.if-not-has_own_users.false in
    let before = subst (ArePassed (λ b. HasOwnUsers t b) (layout_of t c.args.region)) c.in-Some.is c.loop-at.invariant.passed in
    record {
      placed = layout_placed t c.well_formed-2.ensures.tree c.args.region c.in-Some.block c.get_next-at.result here c.get_next-at.ensures.next;
      passed = layout_passed t c.well_formed-2.ensures.tree (λ b. HasOwnUsers t b) c.args.region c.in-Some.block c.get_next-at.result here c.get_next-at.ensures.next own before;
    }

pub returns : goal.returns
returns c =
    let t = c.args.ctx.now.tree in
    let all = subst (ArePassed (λ b. HasOwnUsers t b) (layout_of t c.args.region)) c.in_default.is c.loop-at.invariant.passed in
    yes (RegionHasOwnUsers t c.args.region) (λ b e. passed_all (λ b. HasOwnUsers t b) (layout_of t c.args.region) all b (c.well_formed-2.ensures.tree.layouts.listed b c.args.region e))
