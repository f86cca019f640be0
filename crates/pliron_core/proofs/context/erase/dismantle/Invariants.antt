use Rattle.pliron_core.proofs.DescentLemmas.{IsDescent}
use Rattle.pliron_core.proofs.MeasureLemmas.{left_over}
use Rattle.pliron_core.proofs.context.erase.dismantle.Given as goal

abbrev pub invariant-loop-at : goal.invariant-loop-at
invariant-loop-at l = IsDescent l.fn.ctx.tree l.fn.op l.at l.ctx.tree

abbrev pub decreases-loop-at : goal.decreases-loop-at
decreases-loop-at l = left_over l.fn.ctx.tree l.at l.ctx.tree
