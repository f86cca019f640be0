use Rattle.std.proofs.Common.{◌∙◌, ap₂, subst}
use Rattle.pliron_laws.specs.Replacing.{branch_replaced}
use Rattle.pliron_core.specs.Tree.{In}
use Rattle.pliron_dialect.proofs.JumpLemmas.{operand_defined, jump_point, new_contained, jump_undone, jump_long, undone_jump_long}
use Rattle.pliron_dialect_edges.proofs.BranchLemmas.{block_made, old_apart, branch_done}
use Rattle.pliron_dialect_edges.proofs.replace.replace_branch.Goals as goal

pub put_branch-requires-clause-values : goal.put_branch-requires-clause-values
put_branch-requires-clause-values g c = λ v i.
    operand_defined c.args.ctx.now.tree c.create.new.ctx.tree c.args.op c.args.head v c.well_formed-2.ensures.tree c.in_ok-branch.ensures.ok (c.requires.values v (subst (In v) c.as_slice.ensures.value i))

pub put_branch-requires-clause-targets : goal.put_branch-requires-clause-targets
put_branch-requires-clause-targets g c = λ b i.
    block_made c.args.ctx.now.tree c.create.new.ctx.tree b c.args.head c.in_ok-branch.ensures.ok (c.requires.targets b (subst (In b) c.as_slice-2.ensures.value i))

pub put_branch-requires-clause-point : goal.put_branch-requires-clause-point
put_branch-requires-clause-point g c =
    jump_point c.args.ctx.now.tree c.create.new.ctx.tree c.args.op c.in_ok-branch.branch c.args.head _ c.well_formed-3.ensures.tree c.in_ok-branch.ensures.ok c.in_ok-branch.ensures.key c.requires.point c.requires.live c.requires.placed

pub erase_operation-requires-clause-contained : goal.erase_operation-requires-clause-contained
erase_operation-requires-clause-contained g c =
    old_apart c.args.ctx.now.tree c.create.new.ctx.tree c.put_branch.new.ctx.tree c.args.op c.in_ok-branch.branch c.args.head _ c.as_slice.result.now c.as_slice-2.result.now c.well_formed-in-Ok.ensures.tree c.in_ok-branch.ensures.ok c.requires.live c.requires.no_regions c.requires.no_results c.in-Ok.ensures.ok

pub returns-in-Ok-clause-ok : goal.returns-in-Ok-clause-ok
returns-in-Ok-clause-ok g c =
    let t = c.args.ctx.now.tree in
    branch_done t c.create.new.ctx.tree c.put_branch.new.ctx.tree c.erase_operation.new.ctx.tree c.args.op c.in_ok-branch.branch c.args.head _ c.as_slice.result.now c.as_slice-2.result.now c.in_ok-branch.ensures.ok c.in_ok-branch.ensures.key c.requires.point c.in-Ok.ensures.ok c.erase_operation.ensures.erased
    ∙ ap₂ (λ y z. branch_replaced t c.args.op c.args.head y z) c.as_slice.ensures.value c.as_slice-2.ensures.value

pub erase_operation-requires-in-Err-clause-contained : goal.erase_operation-requires-in-Err-clause-contained
erase_operation-requires-in-Err-clause-contained g c =
    let put = c.in-Err.ensures.err in
    new_contained c.args.ctx.now.tree c.create.new.ctx.tree c.put_branch.new.ctx.tree c.in_ok-branch.branch c.args.head put.0 put.1 c.well_formed-in-Err.ensures.tree c.in_ok-branch.ensures.ok c.in_ok-branch.ensures.key put.2

pub returns-in-Err-clause-refused : goal.returns-in-Err-clause-refused
returns-in-Err-clause-refused g c =
    let put = c.in-Err.ensures.err in
    jump_undone c.args.ctx.now.tree c.create.new.ctx.tree c.put_branch.new.ctx.tree c.erase_operation-in-Err.new.ctx.tree c.in_ok-branch.branch c.args.head put.0 put.1 c.well_formed-2.ensures.tree c.in_ok-branch.ensures.ok c.in_ok-branch.ensures.key put.2 c.erase_operation-in-Err.ensures.erased

pub returns-in-Ok-clause-longer : goal.returns-in-Ok-clause-longer
returns-in-Ok-clause-longer g c =
    jump_long c.args.ctx.now.tree c.create.new.ctx.tree c.put_branch.new.ctx.tree c.erase_operation.new.ctx.tree c.args.op c.in_ok-branch.branch c.args.head _ _ _ c.in_ok-branch.ensures.ok c.in-Ok.ensures.ok c.erase_operation.ensures.erased

pub returns-in-Err-clause-longer : goal.returns-in-Err-clause-longer
returns-in-Err-clause-longer g c =
    let put = c.in-Err.ensures.err in
    undone_jump_long c.args.ctx.now.tree c.create.new.ctx.tree c.put_branch.new.ctx.tree c.erase_operation-in-Err.new.ctx.tree c.in_ok-branch.branch c.args.head put.0 put.1 c.in_ok-branch.ensures.ok put.2 c.erase_operation-in-Err.ensures.erased
