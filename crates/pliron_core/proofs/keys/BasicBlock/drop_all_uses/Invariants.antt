use Rattle.std.proofs.Common.{length}
use Rattle.pliron_core.specs.Tree.{body_of}
use Rattle.pliron_core.specs.WalkSteps.{rest_from}
use Rattle.pliron_core.proofs.DropLemmas.{IsBlockPass}
use Rattle.pliron_core.proofs.keys.BasicBlock.drop_all_uses.Given as goal

abbrev pub invariant-loop-at : goal.invariant-loop-at
invariant-loop-at l = IsBlockPass l.fn.ctx.tree l.fn.block l.at l.ctx.tree

abbrev pub decreases-loop-at : goal.decreases-loop-at
decreases-loop-at l = length (rest_from l.at (body_of l.fn.ctx.tree l.fn.block))
