use Rattle.std.proofs.Common.{length}
use Rattle.pliron_core.specs.Tree.{body_of}
use Rattle.pliron_core.proofs.EmptyingLemmas.{IsEmptying}
use Rattle.pliron_core.proofs.context.erase.empty_block.Given as goal

abbrev pub invariant-loop-last : goal.invariant-loop-last
invariant-loop-last l = IsEmptying l.fn.ctx.tree l.block l.ctx.tree

abbrev pub decreases-loop-last : goal.decreases-loop-last
decreases-loop-last l = length (body_of l.ctx.tree l.block)
