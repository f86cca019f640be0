use Rattle.std.proofs.Common.{◌≡◌, ◌<◌, ℕ, Some, slice_get}
use Rattle.pliron_core.specs.Tree.{In, results_of, operands_of}
use Rattle.pliron_pass_fit.proofs.operations.check_unused.Given as goal

abbrev pub invariant-loop-i : goal.invariant-loop-i
invariant-loop-i g l = (j v : ℕ) → j < l.i → slice_get (results_of l.ctx.tree l.op) j ≡ Some v → (user : ℕ) → In v (operands_of l.ctx.tree user) → ⊥
