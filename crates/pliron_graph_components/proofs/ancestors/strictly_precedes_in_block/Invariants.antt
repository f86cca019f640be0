use Rattle.std.proofs.Common.{length}
use Rattle.pliron_core.specs.WalkSteps.{rest_from}
use Rattle.pliron_graph_components.proofs.PrecedesLemmas.{IsPassing, row_around}
use Rattle.pliron_graph_components.proofs.ancestors.strictly_precedes_in_block.Given as goal

abbrev pub invariant-loop-at : goal.invariant-loop-at
invariant-loop-at l = IsPassing l.ctx.tree l.fn.a l.b l.at

abbrev pub decreases-loop-at : goal.decreases-loop-at
decreases-loop-at l = length (rest_from l.at (row_around l.ctx.tree l.fn.a))
