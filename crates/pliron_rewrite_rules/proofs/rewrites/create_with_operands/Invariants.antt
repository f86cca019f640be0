use Rattle.std.proofs.Common.{◌≡◌, take}
use Rattle.pliron_rewrite_rules.specs.Insertions.{IsMadeOperation}
use Rattle.pliron_rewrite_rules.proofs.rewrites.create_with_operands.Given as goal

abbrev pub invariant-loop-value : goal.invariant-loop-value
invariant-loop-value g l = record {
  made : IsMadeOperation l.fn.ctx.tree l.ctx.tree l.op l.fn.head (take l.value-index l.operands);
  point : g.R.Rewriter.point l.rewriter ≡ g.R.Rewriter.point l.fn.rewriter;
}
