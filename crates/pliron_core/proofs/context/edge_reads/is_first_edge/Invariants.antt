use Rattle.std.proofs.Common.{◌≡◌, ◌≢◌, ℕ, ◌+◌, ◌<◌, ◌≤◌, slice_get, Some}
use Rattle.pliron_core.specs.declared.uses.Use.{Use}
use Rattle.pliron_core.specs.Tree.{successors_of, uses_of}
use Rattle.pliron_core.proofs.context.edge_reads.is_first_edge.Given as goal

abbrev pub invariant-loop-k : goal.invariant-loop-k
invariant-loop-k l = record {
  back : (p : ℕ) → l.place ≤ p + l.k → p < l.place → slice_get (successors_of l.ctx.tree l.user) p ≢ Some l.block;
  forth : (j : ℕ) (one : Use) → j < l.k → slice_get (uses_of l.ctx.block_uses l.block) j ≡ Some one → one.user ≡ l.user → one.place < l.place → ⊥;
}
