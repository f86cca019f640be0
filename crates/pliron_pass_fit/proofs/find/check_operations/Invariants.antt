use Rattle.std.proofs.Common.{◌≡◌, ◌<◌, ℕ, Some, slice_get}
use Rattle.pliron_pass_fit.specs.Checks.{IsSoundAt}
use Rattle.pliron_pass_fit.proofs.find.check_operations.Given as goal

abbrev pub invariant-loop-op : goal.invariant-loop-op
invariant-loop-op g l = (j x : ℕ) → j < l.op-index → slice_get l.ops j ≡ Some x → IsSoundAt g.D.HasMeaning.meaning l.ctx.tree l.root x
