use Rattle.std.proofs.Common.{◌≡◌, ◌<◌, ℕ, Some, slice_get}
use Rattle.pliron_core.specs.Tree.{successors_of, block_parent_of}
use Rattle.pliron_laws.proofs.edges.has_own_successors.Given as goal

abbrev pub invariant-loop-i : goal.invariant-loop-i
invariant-loop-i l = (j s : ℕ) → j < l.i → slice_get (successors_of l.ctx.tree l.op) j ≡ Some s → block_parent_of l.ctx.tree s ≡ Some l.region
