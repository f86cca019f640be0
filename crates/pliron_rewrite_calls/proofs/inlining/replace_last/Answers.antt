use Rattle.std.proofs.Common.{◌≡◌, length, [], ◌∷◌, ap, sym, ◌∙◌, subst}
use Rattle.pliron_core.specs.Tree.{In, operands_of}
use Rattle.pliron_dialect_calls.specs.Inlinable.{IsJumpHead}
use Rattle.pliron_laws.proofs.FoldLemmas.{on_err}
use Rattle.pliron_core.proofs.LastLemmas.{last_in}
use Rattle.pliron_rewrite_calls.proofs.InliningCalls.{made_live, made_block, made_outside, old_stands, old_contained, replaced_last}
use Rattle.pliron_rewrite_calls.proofs.JumpsMade.{nothing_done}
use Rattle.pliron_rewrite_calls.proofs.inlining.replace_last.Goals as goal

pub all_operands-requires : goal.all_operands-requires
all_operands-requires g c =
    let w = c.well_formed-2.ensures.tree in
    (w.joined.all_in_place c.args.last c.args.block (w.bodies.owned c.args.last c.args.block (last_in _ c.args.last c.requires.last))).0

pub returns-in_err-values-clause-refused : goal.returns-in_err-values-clause-refused
returns-in_err-values-clause-refused g c = on_err _ c.from_residual.result (nothing_done c.args.ctx.now.tree)

pub returns-in_err-head-clause-refused : goal.returns-in_err-head-clause-refused
returns-in_err-head-clause-refused g c = on_err _ c.from_residual-in_err-head.result (nothing_done c.args.ctx.now.tree)

pub make_jump-requires-clause-values : goal.make_jump-requires-clause-values
make_jump-requires-clause-values g c = λ v i.
    c.well_formed-2.ensures.tree.joined.operands c.args.last v (subst (In v) (c.as_slice.ensures.value ∙ c.in_ok-values.ensures) i)

pub move_operation_to_end-requires-clause-live : goal.move_operation_to_end-requires-clause-live
move_operation_to_end-requires-clause-live g c =
    made_live c.args.ctx.now.tree c.make_jump.new.ctx.tree c.args.block c.in_ok-jump.jump c.in_ok-head.head c.as_slice.result.now (c.args.after ∷ []) c.well_formed-2.ensures.tree c.well_formed-3.ensures.tree c.requires.block c.in_ok-jump.ensures.made

pub move_operation_to_end-requires-clause-block : goal.move_operation_to_end-requires-clause-block
move_operation_to_end-requires-clause-block g c =
    made_block c.args.ctx.now.tree c.make_jump.new.ctx.tree c.args.block c.in_ok-jump.jump c.in_ok-head.head c.as_slice.result.now (c.args.after ∷ []) c.well_formed-2.ensures.tree c.well_formed-3.ensures.tree c.requires.block c.in_ok-jump.ensures.made

pub move_operation_to_end-requires-clause-outside : goal.move_operation_to_end-requires-clause-outside
move_operation_to_end-requires-clause-outside g c =
    made_outside c.args.ctx.now.tree c.make_jump.new.ctx.tree c.args.block c.in_ok-jump.jump c.in_ok-head.head c.as_slice.result.now (c.args.after ∷ []) c.well_formed-2.ensures.tree c.well_formed-3.ensures.tree c.requires.block c.in_ok-jump.ensures.made

pub erase_operation-requires-clause-live : goal.erase_operation-requires-clause-live
erase_operation-requires-clause-live g c =
    old_stands c.args.ctx.now.tree c.make_jump.new.ctx.tree c.args.block c.in_ok-jump.jump c.in_ok-head.head c.as_slice.result.now (c.args.after ∷ []) c.well_formed-2.ensures.tree c.well_formed-3.ensures.tree c.requires.block c.in_ok-jump.ensures.made c.move_operation_to_end.new.ctx.tree c.well_formed-4.ensures.tree (ap (λ z. z.tree) c.move_operation_to_end.ensures.moved) c.args.last c.requires.last c.requires.no_results c.requires.no_regions

pub erase_operation-requires-clause-contained : goal.erase_operation-requires-clause-contained
erase_operation-requires-clause-contained g c =
    old_contained c.args.ctx.now.tree c.make_jump.new.ctx.tree c.args.block c.in_ok-jump.jump c.in_ok-head.head c.as_slice.result.now (c.args.after ∷ []) c.well_formed-2.ensures.tree c.well_formed-3.ensures.tree c.requires.block c.in_ok-jump.ensures.made c.move_operation_to_end.new.ctx.tree c.well_formed-4.ensures.tree (ap (λ z. z.tree) c.move_operation_to_end.ensures.moved) c.args.last c.requires.last c.requires.no_results c.requires.no_regions

pub returns-clause-ok : goal.returns-clause-ok
returns-clause-ok g c =
    let many : c.len.result ≡ length (operands_of c.args.ctx.now.tree c.args.last) = c.len.ensures ∙ sym c.as_slice.ensures.len ∙ ap length (c.as_slice.ensures.value ∙ c.in_ok-values.ensures) in (
      c.in_ok-head.head,
      subst (λ n. IsJumpHead g.D.HasMeaning.meaning n c.in_ok-head.head) many c.in_ok-head.ensures.jump,
      replaced_last c.args.ctx.now.tree c.make_jump.new.ctx.tree c.move_operation_to_end.new.ctx.tree c.erase_operation.new.ctx.tree c.args.block c.args.last c.in_ok-jump.jump c.args.after c.in_ok-head.head c.as_slice.result.now c.well_formed-2.ensures.tree c.well_formed-3.ensures.tree c.well_formed-4.ensures.tree c.requires.block c.requires.last c.requires.no_results c.requires.no_regions (c.as_slice.ensures.value ∙ c.in_ok-values.ensures) c.in_ok-jump.ensures.made (ap (λ z. z.tree) c.move_operation_to_end.ensures.moved) c.erase_operation.ensures.erased,
    )
