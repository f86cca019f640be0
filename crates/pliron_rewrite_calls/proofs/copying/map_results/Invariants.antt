use Rattle.pliron_core.specs.Tree.{results_of}
use Rattle.pliron_rewrite_calls.specs.CopySteps.{AreValuesAdded}
use Rattle.pliron_rewrite_calls.proofs.copying.map_results.Given as goal

abbrev pub invariant-loop-j : goal.invariant-loop-j
invariant-loop-j l = AreValuesAdded (results_of l.ctx.tree l.op) (results_of l.ctx.tree l.copy) l.j l.fn.copies l.copies
