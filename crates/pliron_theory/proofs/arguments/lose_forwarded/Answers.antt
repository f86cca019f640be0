use Rattle.std.proofs.Common.{◌≡◌, ◌<◌, true, false, length, Some, slice_get, sym, ap, ◌∙◌, subst, arith, take, ◌+◌}
use Rattle.std.proofs.lemmas.Option.{slice_get-get_or}
use Rattle.pliron_core.specs.declared.uses.Use.{Use}
use Rattle.pliron_core.specs.Tree.{uses_of}
use Rattle.pliron_theory.specs.Dropping.{EdgesLose, Loses}
use Rattle.pliron_theory.proofs.EdgesLost.{uses_are_edges, turn_block, turn_edge, turn_next, turn_branch, turn_place, turn_lacks}
use Rattle.pliron_theory.proofs.arguments.lose_forwarded.Goals as goal
use Rattle.pliron_theory.proofs.arguments.lose_forwarded.Goals.{then-forwards-i, else-forwards-i}

pub get_use-op-requires-clause-live : goal.get_use-op-requires-clause-live
get_use-op-requires-clause-live g c = turn_block _ _ _ _ g.met.D.Dialect.forwards_operands (λ h h' s. s.branch) c.args.ctx.now.tree c.well_formed-2.ensures.tree c.args.block c.args.j (uses_of c.args.ctx.now.block_uses c.args.block) (uses_are_edges c.args.ctx.now.tree c.args.ctx.now.block_uses c.args.block c.well_formed-2.ensures.uses.block_uses) c.loop-i.ctx.tree c.loop-i.i c.loop-i.invariant.lost c.requires.block

pub remove_successor_operand-requires-clause-branch : goal.remove_successor_operand-requires-clause-branch
remove_successor_operand-requires-clause-branch g c = turn_branch _ _ _ _ g.met.D.Dialect.forwards_operands (λ h h' s. s.branch) c.args.ctx.now.tree c.well_formed-2.ensures.tree c.args.block c.args.j (uses_of c.args.ctx.now.block_uses c.args.block) (uses_are_edges c.args.ctx.now.tree c.args.ctx.now.block_uses c.args.block c.well_formed-2.ensures.uses.block_uses) c.loop-i.ctx.tree c.loop-i.i c.loop-i.invariant.lost _ (ap (λ z. slice_get (uses_of z c.args.block) c.loop-i.i) (sym c.loop-i.invariant.same) ∙ c.get_use-op.ensures.listed) c.requires.branches

pub remove_successor_operand-requires-clause-edge : goal.remove_successor_operand-requires-clause-edge
remove_successor_operand-requires-clause-edge g c = turn_edge _ _ _ _ g.met.D.Dialect.forwards_operands (λ h h' s. s.branch) c.args.ctx.now.tree c.well_formed-2.ensures.tree c.args.block c.args.j (uses_of c.args.ctx.now.block_uses c.args.block) (uses_are_edges c.args.ctx.now.tree c.args.ctx.now.block_uses c.args.block c.well_formed-2.ensures.uses.block_uses) c.loop-i.ctx.tree c.loop-i.i c.loop-i.invariant.lost _ (ap (λ z. slice_get (uses_of z c.args.block) c.loop-i.i) (sym c.loop-i.invariant.same) ∙ c.get_use-op.ensures.listed)

pub remove_successor_operand-requires-clause-place : goal.remove_successor_operand-requires-clause-place
remove_successor_operand-requires-clause-place g c =
    let yes : slice_get c.args.forwards.now c.loop-i.i ≡ Some true = slice_get-get_or c.args.forwards.now c.loop-i.i false c.loop-i-test.true ∙ ap Some c.if-forwards-i.true in
    turn_place _ _ _ _ g.met.D.Dialect.forwards_operands (λ h h' s. s.branch) c.args.ctx.now.tree c.well_formed-2.ensures.tree c.args.block c.args.j (uses_of c.args.ctx.now.block_uses c.args.block) (uses_are_edges c.args.ctx.now.tree c.args.ctx.now.block_uses c.args.block c.well_formed-2.ensures.uses.block_uses) c.loop-i.ctx.tree c.loop-i.i c.loop-i.invariant.lost _ (ap (λ z. slice_get (uses_of z c.args.block) c.loop-i.i) (sym c.loop-i.invariant.same) ∙ c.get_use-op.ensures.listed) c.requires.branches c.args.forwards.now c.requires.places yes

pub loop-i-preserved : goal.loop-i-preserved
loop-i-preserved g c = elim c.if-forwards-i.branch [
  | then-forwards-i w ↦
      let yes : slice_get c.args.forwards.now c.loop-i.i ≡ Some true = slice_get-get_or c.args.forwards.now c.loop-i.i false c.loop-i-test.true ∙ ap Some w.if-forwards-i.true in
      let e : Use = record { user = w.get_use-op.result.0; place = w.get_use-op.result.1 } in
      let at : slice_get (uses_of c.args.ctx.now.block_uses c.args.block) c.loop-i.i ≡ Some e = ap (λ z. slice_get (uses_of z c.args.block) c.loop-i.i) (sym c.loop-i.invariant.same) ∙ w.get_use-op.ensures.listed in
      let has = turn_place _ _ _ _ g.met.D.Dialect.forwards_operands (λ h h' s. s.branch) c.args.ctx.now.tree c.well_formed-2.ensures.tree c.args.block c.args.j (uses_of c.args.ctx.now.block_uses c.args.block) (uses_are_edges c.args.ctx.now.tree c.args.ctx.now.block_uses c.args.block c.well_formed-2.ensures.uses.block_uses) c.loop-i.ctx.tree c.loop-i.i c.loop-i.invariant.lost e at c.requires.branches c.args.forwards.now c.requires.places yes in
      record {
        lost = subst (λ z. EdgesLose g.D.HasMeaning.meaning g.D.Dialect.shortened c.args.j (take (c.loop-i.i + 1) (uses_of c.args.ctx.now.block_uses c.args.block)) c.args.ctx.now.tree z.tree) (sym w.ctx-is) (turn_next _ _ _ _ g.met.D.Dialect.forwards_operands (λ h h' s. s.branch) c.args.ctx.now.tree c.well_formed-2.ensures.tree c.args.block c.args.j (uses_of c.args.ctx.now.block_uses c.args.block) (uses_are_edges c.args.ctx.now.tree c.args.ctx.now.block_uses c.args.block c.well_formed-2.ensures.uses.block_uses) c.loop-i.ctx.tree c.loop-i.i c.loop-i.invariant.lost e at w.remove_successor_operand.new.ctx.tree (Loses w.remove_successor_operand.result has w.remove_successor_operand.ensures.lost));
        same = ap (λ z. z.block_uses) w.ctx-is ∙ w.remove_successor_operand.ensures.block_uses ∙ c.loop-i.invariant.same;
      }
  | else-forwards-i w ↦
      let none : slice_get c.args.forwards.now c.loop-i.i ≡ Some false = slice_get-get_or c.args.forwards.now c.loop-i.i false c.loop-i-test.true ∙ ap Some w.if-forwards-i.false in
      let count = c.requires.count in
      let test = c.loop-i-test.true in
      let within : c.loop-i.i < length (uses_of c.args.ctx.now.block_uses c.args.block) = omega (arith, count, test) in
      let no_use : Use = record { user = 0; place = 0 } in
      let at = slice_get-get_or (uses_of c.args.ctx.now.block_uses c.args.block) c.loop-i.i no_use within in
      record {
        lost = subst (λ z. EdgesLose g.D.HasMeaning.meaning g.D.Dialect.shortened c.args.j (take (c.loop-i.i + 1) (uses_of c.args.ctx.now.block_uses c.args.block)) c.args.ctx.now.tree z.tree) (sym w.ctx-is) (turn_next _ _ _ _ g.met.D.Dialect.forwards_operands (λ h h' s. s.branch) c.args.ctx.now.tree c.well_formed-2.ensures.tree c.args.block c.args.j (uses_of c.args.ctx.now.block_uses c.args.block) (uses_are_edges c.args.ctx.now.tree c.args.ctx.now.block_uses c.args.block c.well_formed-2.ensures.uses.block_uses) c.loop-i.ctx.tree c.loop-i.i c.loop-i.invariant.lost _ at c.loop-i.ctx.tree (turn_lacks _ _ _ _ g.met.D.Dialect.forwards_operands (λ h h' s. s.branch) c.args.ctx.now.tree c.well_formed-2.ensures.tree c.args.block c.args.j (uses_of c.args.ctx.now.block_uses c.args.block) (uses_are_edges c.args.ctx.now.tree c.args.ctx.now.block_uses c.args.block c.well_formed-2.ensures.uses.block_uses) c.loop-i.ctx.tree c.loop-i.i c.loop-i.invariant.lost _ at c.requires.branches c.args.forwards.now c.requires.places none));
        same = ap (λ z. z.block_uses) w.ctx-is ∙ c.loop-i.invariant.same;
      }
]
