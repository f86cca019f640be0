use Rattle.std.proofs.Common.{◌≡◌, ◌<◌, ℕ, Some, slice_get}
use Rattle.pliron_core.specs.Tree.{operands_of}
use Rattle.pliron_core.specs.Changes.{IsDefinedInside}
use Rattle.pliron_pass_fit.proofs.operations.check_operands.Given as goal

abbrev pub invariant-loop-i : goal.invariant-loop-i
invariant-loop-i g l = (j v : ℕ) → j < l.i → slice_get (operands_of l.ctx.tree l.op) j ≡ Some v → IsDefinedInside l.ctx.tree l.root v
