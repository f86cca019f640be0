use Rattle.std.proofs.Common.{◌≡◌, length, take}
use Rattle.std.specs.List.{range_with_len}
use Rattle.pliron_rewrite_calls.specs.CopySteps.{IsCopying, AreBare}
use Rattle.pliron_rewrite_calls.proofs.copying.make_operations.Given as goal

abbrev pub ghost-make_operation : goal.ghost-make_operation
ghost-make_operation g a = g.x

abbrev pub invariant-loop-i : goal.invariant-loop-i
invariant-loop-i g l = record {
  copying : IsCopying g.x l.ctx.tree g.x.blocks (take l.i l.operations) l.copies;
  bare : AreBare g.x.tree l.ctx.tree;
  made : l.made.items ≡ range_with_len (length g.x.tree.operations) l.i;
  point : g.R.Rewriter.point l.rewriter ≡ g.R.Rewriter.point l.fn.rewriter;
}
