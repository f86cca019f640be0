use Rattle.std.proofs.Common.{◌≡◌, ℕ, ◌≤◌, length, drop}
use Rattle.pliron_core.specs.Tree.{Tree, uses_of}
use Rattle.pliron_rewrite_loops.specs.Lengthening.{EdgesLengthened}
use Rattle.pliron_rewrite_loops.proofs.adding.shorten_edges.Given as goal

abbrev pub invariant-loop-i : goal.invariant-loop-i
invariant-loop-i g l = record {
  some : (value : ℕ) × (t : Tree) × EdgesLengthened g.D.HasMeaning.meaning g.D.Dialect.shortened l.count value (drop l.i (uses_of l.fn.ctx.block_uses l.block)) t l.ctx.tree;
  longer : (value : ℕ) (t : Tree) → EdgesLengthened g.D.HasMeaning.meaning g.D.Dialect.shortened l.count value (drop l.from (uses_of l.fn.ctx.block_uses l.block)) t l.fn.ctx.tree → EdgesLengthened g.D.HasMeaning.meaning g.D.Dialect.shortened l.count value (drop l.i (uses_of l.fn.ctx.block_uses l.block)) t l.ctx.tree;
  same : l.ctx.block_uses ≡ l.fn.ctx.block_uses;
  parents : l.ctx.tree.block_parents ≡ l.fn.ctx.tree.block_parents;
  within : l.i ≤ length (uses_of l.fn.ctx.block_uses l.block);
}
