use Rattle.std.proofs.Common.{◌≡◌}
use Rattle.pliron_core.specs.Tree.{row_of, parent_of}
use Rattle.pliron_core.specs.declared.rewriter.OpInsertionPoint.TheVariants.{BeforeOperation}
use Rattle.pliron_laws.proofs.FoldSteps.{IsFolding}
use Rattle.pliron_laws.proofs.dialect.ConstFoldInterface.materialise_constants.Given as goal

abbrev pub invariant-loop-i : goal.invariant-loop-i
invariant-loop-i g l = record {
  folding : IsFolding g.Self.ConstFoldInterface.accepts g.Self.ConstFoldInterface.constant_head l.op l.answers l.fn.ctx.tree l.i l.made.items l.ctx.tree;
  row : row_of l.ctx.tree l.op ≡ row_of l.fn.ctx.tree l.op;
  parent : parent_of l.ctx.tree l.op ≡ parent_of l.fn.ctx.tree l.op;
  point : g.R.Rewriter.point l.rewriter ≡ BeforeOperation l.op;
}
