use Rattle.std.proofs.Common.{◌≡◌, ◌<◌, ℕ, Some, slice_get}
use Rattle.pliron_core.specs.Tree.{arguments_of}
use Rattle.pliron_pass_fit.specs.Checks.{IsUsedInside}
use Rattle.pliron_pass_fit.proofs.blocks.check_block.Given as goal

abbrev pub invariant-loop-i : goal.invariant-loop-i
invariant-loop-i g l = (j v : ℕ) → j < l.i → slice_get (arguments_of l.ctx.tree l.block) j ≡ Some v → IsUsedInside l.ctx.tree l.root v
