use Rattle.std.proofs.Common.{◌≡◌, ℕ, ◌<◌, Some, slice_get}
use Rattle.pliron_core.specs.Tree.{In, operands_of}
use Rattle.pliron_rewrite_loops.specs.Passing.{UsesArgument}
use Rattle.pliron_rewrite_loops.proofs.passing.use_arguments.Given as goal

abbrev pub invariant-loop-i : goal.invariant-loop-i
invariant-loop-i l = record {
  used : UsesArgument l.fn.ctx.tree l.ctx.tree l.users l.value l.argument;
  done : (j k : ℕ) → j < l.i → slice_get l.users j ≡ Some k → In l.value (operands_of l.ctx.tree k) → ⊥;
}
