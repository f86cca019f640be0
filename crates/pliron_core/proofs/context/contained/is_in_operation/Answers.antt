use Rattle.std.proofs.Common.{◌≡◌, ◌≢◌, ◌<◌, ◌-◌, ◌∙◌, sym, subst, length, suc, Some, inr}
use Rattle.std.specs.Option.{option_map_or}
use Rattle.std.proofs.lemmas.Option.{same_Some, none-some}
use Rattle.pliron_core.specs.Tree.{parent_of}
use Rattle.pliron_core.specs.Erased.{IsInOperation}
use Rattle.pliron_core.specs.Walks.{contents}
use Rattle.pliron_core.proofs.WalkLemmas.{holder_live}
use Rattle.pliron_core.proofs.NextLemmas.{keys_differ}
use Rattle.pliron_core.proofs.WalkStepLemmas.{up_smaller}
use Rattle.pliron_core.proofs.ContainedLemmas.{within_up, stands_up}
use Rattle.pliron_core.proofs.context.contained.is_in_operation.Goals as goal
use Rattle.pliron_core.proofs.context.contained.is_in_operation.Goals.{After-get_parent_op-at, in-Some-get_parent_block+else-eq, in_default-get_parent_block}

-- the operation at hand stands directly in another block, or in none
elsewhere : (c : After-get_parent_op-at) → parent_of c.args.ctx.now.tree c.in-Some.here ≢ Some c.args.block
elsewhere c e =
    elim c.match-get_parent_block.branch [
      | in-Some-get_parent_block+else-eq w ↦
          let same : w.in-Some-get_parent_block.parent ≡ c.args.block = same_Some w.in-Some-get_parent_block.parent c.args.block (w.in-Some-get_parent_block.ensures.block ∙ e) in
          keys_differ w.in-Some-get_parent_block.parent c.args.block w.if-eq.ensures same
      | in_default-get_parent_block w ↦ none-some c.args.block (sym w.in_default-get_parent_block.is ∙ c.get_parent_block.ensures.block ∙ e)
    ]

pub loop-at-smaller : goal.loop-at-smaller
loop-at-smaller c =
    let t = c.args.ctx.now.tree in
    subst (λ o. option_map_or (λ z. suc (length t.operations - length (contents t z))) c.get_parent_op-at.result 0 < option_map_or (λ z. suc (length t.operations - length (contents t z))) o 0) (sym c.in-Some.is) (up_smaller t c.well_formed-2.ensures.tree c.in-Some.here c.get_parent_op-at.result c.get_parent_op-at.ensures.holder)

pub loop-at-preserved : goal.loop-at-preserved
loop-at-preserved c =
    let t = c.args.ctx.now.tree in
    let up = c.get_parent_op-at.ensures.holder in
    record {
      live = λ k e. holder_live t c.well_formed-2.ensures.tree c.in-Some.here k (sym up ∙ e);
      within = λ k e. inr (within_up t c.in-Some.here k c.args.op (sym up ∙ e) (c.loop-at.invariant.within c.in-Some.here c.in-Some.is));
      reached = λ s.
          let r = c.loop-at.invariant.reached s in
          let here : r.0 ≡ c.in-Some.here = same_Some r.0 c.in-Some.here (sym r.1 ∙ c.in-Some.is) in
          let further = stands_up t c.args.block c.in-Some.here (elsewhere c) (subst (IsInOperation t c.args.block) here r.2) in
          (further.0, up ∙ further.1, further.2);
    }
