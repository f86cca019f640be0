use Rattle.std.proofs.Common.{[], ◌∷◌, ap, sym, subst}
use Rattle.pliron_core.specs.Tree.{Tree}
use Rattle.pliron_laws.proofs.FoldLemmas.{on_err}
use Rattle.pliron_rewrite_calls.specs.InliningSteps.{IsTakenBack}
use Rattle.pliron_rewrite_calls.proofs.InliningCalls.{created_is, named_live, named_contained, named_undone}
use Rattle.pliron_rewrite_calls.proofs.JumpsMade.{jump_made_at, nothing_done}
use Rattle.pliron_rewrite_calls.proofs.inlining.make_jump.Goals as goal

pub returns-in_err-jump-clause-refused : goal.returns-in_err-jump-clause-refused
returns-in_err-jump-clause-refused g c =
    on_err _ c.from_residual.result (subst (λ (z : Tree). IsTakenBack c.args.ctx.now.tree z) (sym (ap (λ z. z.tree) c.in_err-jump.ensures.err)) (nothing_done c.args.ctx.now.tree))

pub add_edge-requires : goal.add_edge-requires
add_edge-requires g c =
    let s = created_is c.args.ctx.now.tree c.args.head c.well_formed-2.ensures.tree c.create.new.ctx.tree c.in_ok-jump.jump c.in_ok-jump.ensures.ok c.in_ok-jump.ensures.key in
    record { live = s.live; no_operands = s.operands; no_successors = s.successors; values = λ v i. s.defined v (c.requires.values v i); target = s.blocks c.args.target c.requires.target }

pub returns-in-Ok-clause-made : goal.returns-in-Ok-clause-made
returns-in-Ok-clause-made g c =
    jump_made_at c.args.ctx.now.tree c.create.new.ctx.tree c.add_edge.new.ctx.tree c.in_ok-jump.jump c.args.head c.args.values.now (c.args.target ∷ []) c.well_formed-2.ensures.tree c.in_ok-jump.ensures.ok c.in_ok-jump.ensures.key c.in-Ok.ensures.ok

pub erase_operation-requires-clause-live : goal.erase_operation-requires-clause-live
erase_operation-requires-clause-live g c =
    let n = c.in-Err.ensures.named in
    named_live c.args.ctx.now.tree c.create.new.ctx.tree c.add_edge.new.ctx.tree c.in_ok-jump.jump c.args.head n.0 n.1 c.well_formed-2.ensures.tree c.well_formed-in-Err.ensures.tree c.in_ok-jump.ensures.ok c.in_ok-jump.ensures.key n.2

pub erase_operation-requires-clause-contained : goal.erase_operation-requires-clause-contained
erase_operation-requires-clause-contained g c =
    let n = c.in-Err.ensures.named in
    named_contained c.args.ctx.now.tree c.create.new.ctx.tree c.add_edge.new.ctx.tree c.in_ok-jump.jump c.args.head n.0 n.1 c.well_formed-2.ensures.tree c.well_formed-in-Err.ensures.tree c.in_ok-jump.ensures.ok c.in_ok-jump.ensures.key n.2

pub returns-in-Err-clause-refused : goal.returns-in-Err-clause-refused
returns-in-Err-clause-refused g c =
    let n = c.in-Err.ensures.named in
    named_undone c.args.ctx.now.tree c.create.new.ctx.tree c.add_edge.new.ctx.tree c.in_ok-jump.jump c.args.head n.0 n.1 c.well_formed-2.ensures.tree c.well_formed-in-Err.ensures.tree c.in_ok-jump.ensures.ok c.in_ok-jump.ensures.key n.2 c.erase_operation.new.ctx.tree c.erase_operation.ensures.erased
