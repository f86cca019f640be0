use Rattle.std.proofs.Common.{◌<◌, ℕ}
use Rattle.pliron_pass_fit.specs.Violation.{ForwardsAt}
use Rattle.pliron_pass_fit.proofs.operations.check_forwarded.Given as goal

abbrev pub invariant-loop-i : goal.invariant-loop-i
invariant-loop-i g l = (j : ℕ) → j < l.i → ForwardsAt g.D.HasMeaning.meaning l.ctx.tree l.op j
