use Rattle.std.proofs.Common.{◌<◌, ap, ◌∙◌, sym, subst, length, get_or, [], None}
use Rattle.std.specs.Option.{is_some}
use Rattle.pliron_core.specs.Lists.{first_of}
use Rattle.pliron_core.specs.Tree.{View}
use Rattle.pliron_core.specs.WalkSteps.{blocks_from, first_in_blocks}
use Rattle.pliron_core.proofs.WalkStepLemmas.{IsPassed, passed}
use Rattle.pliron_core.proofs.context.Context.first_from_block.Goals as goal
use Rattle.pliron_core.proofs.context.Context.first_from_block.Goals.{After-next-at}

step : (c : After-next-at) → IsPassed c.args.self.now.tree c.in-Some.block c.next-at.result
step c =
    passed _ c.well_formed-2.ensures.tree c.self.inside.layout (ap (λ (v : View). v.tree.layouts) c.self.view_is) (ap (λ (v : View). v.tree.block_parents) c.self.view_is) _ _ (c.loop-at.invariant.liveness _ c.in-Some.is) (ap (λ (v : View). is_some (first_of (get_or v.tree.bodies c.in-Some.block []) None)) (sym c.self.view_is) ∙ ap is_some (sym c.head-first.ensures.first) ∙ sym c.if-is_some.ensures) c.next-at.ensures.next

pub loop-at-smaller : goal.loop-at-smaller
loop-at-smaller c =
    subst (λ o. length (blocks_from c.args.self.now.tree c.next-at.result) < length (blocks_from c.args.self.now.tree o)) (sym c.in-Some.is) (step c).shorter

pub loop-at-preserved : goal.loop-at-preserved
loop-at-preserved c =
    let s = step (goal.at.loop-at-preserved c).After-next-at in
    record {
      liveness = s.liveness;
      first = c.loop-at.invariant.first ∙ ap (λ o. first_in_blocks c.args.self.now.tree o) c.in-Some.is ∙ s.first;
    }
