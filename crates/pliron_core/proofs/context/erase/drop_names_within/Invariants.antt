use Rattle.std.proofs.Common.{length}
use Rattle.pliron_core.specs.Walks.{preorder}
use Rattle.pliron_core.specs.WalkSteps.{rest_from}
use Rattle.pliron_core.proofs.DropLemmas.{IsDropWalk}
use Rattle.pliron_core.proofs.context.erase.drop_names_within.Given as goal

abbrev pub invariant-loop-at : goal.invariant-loop-at
invariant-loop-at l = IsDropWalk l.fn.ctx.tree l.root l.at l.ctx.tree

abbrev pub decreases-loop-at : goal.decreases-loop-at
decreases-loop-at l = length (rest_from l.at (preorder l.fn.ctx.tree l.root))
