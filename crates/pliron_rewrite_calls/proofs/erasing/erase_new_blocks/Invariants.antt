use Rattle.std.proofs.Common.{◌≡◌, length}
use Rattle.pliron_core.specs.Tree.{layout_of}
use Rattle.pliron_rewrite_calls.specs.CopySteps.{IsGrownIn, AreBare}
use Rattle.pliron_rewrite_calls.proofs.erasing.erase_new_blocks.Given as goal

abbrev pub ghost-drop_new_uses : goal.ghost-drop_new_uses
ghost-drop_new_uses g a = g.t

abbrev pub invariant-loop-block : goal.invariant-loop-block
invariant-loop-block g l = record {
  grown : IsGrownIn g.t l.ctx.tree l.fn.region;
  bare : AreBare g.t l.ctx.tree;
  point : g.R.Rewriter.point l.rewriter ≡ g.R.Rewriter.point l.fn.rewriter;
}

abbrev pub decreases-loop-block : goal.decreases-loop-block
decreases-loop-block g l = length (layout_of l.ctx.tree l.fn.region)
