use Rattle.std.proofs.Common.{◌≡◌, take}
use Rattle.pliron_core.specs.Tree.{uses_of}
use Rattle.pliron_theory.specs.Dropping.{EdgesLose}
use Rattle.pliron_theory.proofs.arguments.lose_forwarded.Given as goal

abbrev pub invariant-loop-i : goal.invariant-loop-i
invariant-loop-i g l = record {
  lost : EdgesLose g.D.HasMeaning.meaning g.D.Dialect.shortened l.j (take l.i (uses_of l.fn.ctx.block_uses l.block)) l.fn.ctx.tree l.ctx.tree;
  same : l.ctx.block_uses ≡ l.fn.ctx.block_uses;
}
