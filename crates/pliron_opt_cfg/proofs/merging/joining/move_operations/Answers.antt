use Rattle.std.proofs.Common.{◌≡◌, ◌∷◌, ℕ, List, sym, subst, ap, ◌∙◌, inl, refl, IsSome}
use Rattle.pliron_core.specs.Tree.{Tree, In, body_of, IsBlock, block_parent_of}
use Rattle.pliron_rewrite_blocks.specs.Pairs.{all_moved_last}
use Rattle.pliron_opt_cfg.proofs.JoinLemmas.{head_rest, no_head, moves_on, holds_none_beside, IsMovedOn, one_less}
use Rattle.pliron_core.specs.Writes.{moved_last}
use Rattle.pliron_opt_cfg.proofs.merging.joining.move_operations.Given.{Over}
use Rattle.pliron_opt_cfg.proofs.merging.joining.move_operations.Goals as goal
use Rattle.pliron_opt_cfg.proofs.merging.joining.move_operations.Goals.{After-move_operation_to_end}

next : (g : Over) (c : After-move_operation_to_end g) → (rest : List ℕ) × (body_of c.loop-op.ctx.tree c.args.second ≡ c.in-Some.op ∷ rest) × IsMovedOn c.loop-op.ctx.tree (moved_last c.loop-op.ctx.tree c.in-Some.op c.args.first) c.args.second rest
next g c =
    let u = c.loop-op.ctx.tree in
    let r = head_rest (body_of u c.args.second) c.in-Some.op c.in-Some.ensures.first in
    (r.0, r.1, moves_on u c.well_formed-in-Some.ensures.tree c.args.first c.args.second c.in-Some.op r.0 (λ e. c.requires.apart (sym e)) c.loop-op.invariant.block (subst IsSome (sym c.loop-op.invariant.beside) c.loop-op.invariant.block) r.1)

pub move_operation_to_end-requires-clause-outside : goal.move_operation_to_end-requires-clause-outside
move_operation_to_end-requires-clause-outside g c =
    let u = c.loop-op.ctx.tree in
    let w = c.well_formed-in-Some.ensures.tree in
    let r = head_rest (body_of u c.args.second) c.in-Some.op c.in-Some.ensures.first in
    holds_none_beside u w c.args.first c.args.second c.in-Some.op (w.bodies.owned c.in-Some.op c.args.second (subst (In c.in-Some.op) (sym r.1) (inl refl))) c.loop-op.invariant.beside

pub loop-op-smaller : goal.loop-op-smaller
loop-op-smaller g c =
    let x = next g c in
    one_less _ _ c.in-Some.op x.0 x.1 (ap (λ z. body_of z.tree c.args.second) c.move_operation_to_end.ensures.moved ∙ x.2.body)

pub loop-op-preserved : goal.loop-op-preserved
loop-op-preserved g c =
    let x = next g c in
    let u = c.loop-op.ctx.tree in
    let moved = ap (λ z. z.tree) c.move_operation_to_end.ensures.moved in
    let here = x.2.block_parents c.args.first in
    record {
      whole = ap (λ (z : Tree). all_moved_last z (body_of z c.args.second) c.args.first) moved ∙ ap (λ l. all_moved_last (moved_last u c.in-Some.op c.args.first) l c.args.first) x.2.body ∙ ap (λ l. all_moved_last u l c.args.first) (sym x.1) ∙ c.loop-op.invariant.whole;
      block = subst (λ (z : Tree). IsBlock z c.args.first) (sym moved) (subst IsSome (sym here) c.loop-op.invariant.block);
      beside = ap (λ (z : Tree). block_parent_of z c.args.second) moved ∙ x.2.block_parents c.args.second ∙ c.loop-op.invariant.beside ∙ sym here ∙ ap (λ (z : Tree). block_parent_of z c.args.first) (sym moved);
    }

pub returns : goal.returns
returns g c = ap (λ l. all_moved_last c.loop-op.ctx.tree l c.args.first) (sym (no_head (body_of c.loop-op.ctx.tree c.args.second) (sym c.in_default.is ∙ c.get_head.ensures.first))) ∙ c.loop-op.invariant.whole
