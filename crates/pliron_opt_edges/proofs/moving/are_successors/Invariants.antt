use Rattle.std.proofs.Common.{◌≡◌, ◌<◌, ℕ, Some, slice_get}
use Rattle.pliron_core.specs.Tree.{successors_of}
use Rattle.pliron_opt_edges.proofs.moving.are_successors.Given as goal

abbrev pub invariant-loop-j : goal.invariant-loop-j
invariant-loop-j l = (i x y : ℕ) → i < l.j → slice_get l.targets i ≡ Some x → slice_get (successors_of l.ctx.tree l.op) i ≡ Some y → x ≡ y
