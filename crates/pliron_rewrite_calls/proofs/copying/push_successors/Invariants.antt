use Rattle.std.proofs.Common.{take, map}
use Rattle.pliron_core.specs.Tree.{operands_of, successors_of}
use Rattle.pliron_rewrite_calls.specs.CopyTables.{block_or_copy_in}
use Rattle.pliron_rewrite_calls.specs.CopySteps.{HasNames}
use Rattle.pliron_rewrite_calls.proofs.copying.push_successors.Given as goal

abbrev pub invariant-loop-j : goal.invariant-loop-j
invariant-loop-j l = HasNames l.fn.ctx.tree l.ctx.tree l.copy (operands_of l.fn.ctx.tree l.copy) (map (block_or_copy_in l.copies) (take l.j (successors_of l.fn.ctx.tree l.op)))
