use Rattle.std.proofs.Common.{◌≡◌, ◌⊎◌, ◌<◌, ℕ, Some, slice_get}
use Rattle.pliron_core.specs.Tree.{In, operands_of}
use Rattle.pliron_opt_dce.proofs.erase.push_operands.Given as goal

abbrev pub invariant-loop-i : goal.invariant-loop-i
invariant-loop-i l = record {
  kept : (v : ℕ) → In v l.initial.values.items → In v l.values.items;
  added : (j v : ℕ) → j < l.i → slice_get (operands_of l.ctx.tree l.op) j ≡ Some v → In v l.values.items;
  only : (v : ℕ) → In v l.values.items → In v l.initial.values.items ⊎ In v (operands_of l.ctx.tree l.op);
}
