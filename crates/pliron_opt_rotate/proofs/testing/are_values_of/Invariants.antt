use Rattle.pliron_core.proofs.ContainedLemmas.{ArePassed}
use Rattle.pliron_opt_rotate.specs.Tested.{IsValueOf}
use Rattle.pliron_opt_rotate.proofs.testing.are_values_of.Given as goal

abbrev pub invariant-loop-i : goal.invariant-loop-i
invariant-loop-i l = ArePassed (λ v. IsValueOf l.ctx.tree l.header v) l.values l.i
