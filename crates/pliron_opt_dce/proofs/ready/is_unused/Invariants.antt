use Rattle.std.proofs.Common.{◌≡◌, ℕ, ◌<◌, Some, slice_get}
use Rattle.pliron_core.specs.Tree.{In, operands_of, results_of}
use Rattle.pliron_opt_dce.proofs.ready.is_unused.Given as goal

abbrev pub invariant-loop-i : goal.invariant-loop-i
invariant-loop-i l = (j v user : ℕ) → j < l.i → slice_get (results_of l.ctx.tree l.op) j ≡ Some v → In v (operands_of l.ctx.tree user) → ⊥
