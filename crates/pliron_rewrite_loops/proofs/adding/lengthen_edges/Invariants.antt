use Rattle.std.proofs.Common.{◌≡◌, ◌≤◌, length, drop}
use Rattle.pliron_core.specs.Tree.{uses_of}
use Rattle.pliron_rewrite_loops.specs.Lengthening.{EdgesLengthened}
use Rattle.pliron_rewrite_loops.proofs.adding.lengthen_edges.Given as goal

abbrev pub invariant-loop-i : goal.invariant-loop-i
invariant-loop-i g l = record {
  longer : EdgesLengthened g.D.HasMeaning.meaning g.D.Dialect.shortened l.count l.value (drop l.i (uses_of l.fn.ctx.block_uses l.block)) l.fn.ctx.tree l.ctx.tree;
  same : l.ctx.block_uses ≡ l.fn.ctx.block_uses;
  within : l.i ≤ length (uses_of l.fn.ctx.block_uses l.block);
}

abbrev pub decreases-loop-i : goal.decreases-loop-i
decreases-loop-i g l = l.i
