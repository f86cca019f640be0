use Rattle.std.proofs.Common.{◌≡◌, ◌<◌, ℕ, Some, slice_get}
use Rattle.pliron_core.specs.declared.uses.Use.{Use}
use Rattle.pliron_core.specs.Tree.{uses_of}
use Rattle.pliron_laws.specs.EdgeChecks.{region_around}
use Rattle.pliron_pass_fit.proofs.blocks.check_edges_to.Given as goal

abbrev pub invariant-loop-i : goal.invariant-loop-i
invariant-loop-i g l = (j : ℕ) (u : Use) → j < l.i → slice_get (uses_of l.ctx.block_uses l.block) j ≡ Some u → region_around l.ctx.tree u.user ≡ Some l.region
