use Rattle.std.proofs.Common.{◌≡◌, ◌<◌, ℕ, Some, slice_get}
use Rattle.pliron_core.specs.declared.uses.Use.{Use}
use Rattle.pliron_core.specs.Tree.{IsInside, uses_of}
use Rattle.pliron_pass_fit.proofs.blocks.check_uses.Given as goal

abbrev pub invariant-loop-i : goal.invariant-loop-i
invariant-loop-i g l = (j : ℕ) (u : Use) → j < l.i → slice_get (uses_of l.ctx.value_uses l.value) j ≡ Some u → IsInside l.ctx.tree l.root u.user
