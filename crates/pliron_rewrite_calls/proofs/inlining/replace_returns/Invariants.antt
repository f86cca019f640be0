use Rattle.std.proofs.Common.{◌≡◌, ℕ, List, take, map}
use Rattle.pliron_rewrite_calls.specs.CopyTables.{block_or_copy_in}
use Rattle.pliron_rewrite_calls.specs.CopySteps.{IsGrownIn}
use Rattle.pliron_rewrite_calls.specs.InliningSteps.{AreReturnsLed}
use Rattle.pliron_rewrite_calls.proofs.inlining.replace_returns.Given as goal

abbrev pub invariant-loop-i : goal.invariant-loop-i
invariant-loop-i g l = record {
  led : (olds : List ℕ) × AreReturnsLed g.D.HasMeaning.meaning g.D.InliningDialect.returns l.fn.ctx.tree l.ctx.tree l.after (map (block_or_copy_in l.copies) (take l.i l.blocks)) olds;
  grown : IsGrownIn g.x.tree l.ctx.tree g.x.region;
  point : g.R.Rewriter.point l.rewriter ≡ g.R.Rewriter.point l.fn.rewriter;
}
