use Rattle.std.proofs.Common.{◌≡◌, ◌<◌, ℕ, Some, slice_get}
use Rattle.pliron_core.specs.Tree.{In, operands_of, results_of}
use Rattle.pliron_opt_canonicalize.proofs.sweep.uses_itself.Given as goal

abbrev pub invariant-loop-i : goal.invariant-loop-i
invariant-loop-i l = (p v : ℕ) → p < l.i → slice_get (operands_of l.ctx.tree l.op) p ≡ Some v → In v (results_of l.ctx.tree l.op) → ⊥
