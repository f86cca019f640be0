use Rattle.pliron_core.specs.Tree.{arguments_of}
use Rattle.pliron_rewrite_calls.specs.CopySteps.{AreValuesAdded}
use Rattle.pliron_rewrite_calls.proofs.copying.map_arguments.Given as goal

abbrev pub invariant-loop-j : goal.invariant-loop-j
invariant-loop-j l = AreValuesAdded (arguments_of l.ctx.tree l.block) (arguments_of l.ctx.tree l.copy) l.j l.fn.copies l.copies
