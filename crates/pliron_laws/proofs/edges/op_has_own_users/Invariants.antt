use Rattle.std.proofs.Common.{◌≡◌, ◌<◌, ℕ, Some, slice_get}
use Rattle.pliron_core.specs.Tree.{regions_of}
use Rattle.pliron_laws.specs.EdgeChecks.{RegionHasOwnUsers}
use Rattle.pliron_laws.proofs.edges.op_has_own_users.Given as goal

abbrev pub invariant-loop-i : goal.invariant-loop-i
invariant-loop-i l = (j r : ℕ) → j < l.i → slice_get (regions_of l.ctx.tree l.op) j ≡ Some r → RegionHasOwnUsers l.ctx.tree r
