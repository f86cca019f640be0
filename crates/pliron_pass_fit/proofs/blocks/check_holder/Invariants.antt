use Rattle.std.proofs.Common.{◌≡◌, ◌<◌, ℕ, Some, slice_get}
use Rattle.pliron_core.specs.Tree.{regions_of}
use Rattle.pliron_pass_fit.specs.Checks.{IsFitRegion}
use Rattle.pliron_pass_fit.proofs.blocks.check_holder.Given as goal

abbrev pub invariant-loop-i : goal.invariant-loop-i
invariant-loop-i g l = (j r : ℕ) → j < l.i → slice_get (regions_of l.ctx.tree l.op) j ≡ Some r → IsFitRegion l.ctx.tree l.root r
