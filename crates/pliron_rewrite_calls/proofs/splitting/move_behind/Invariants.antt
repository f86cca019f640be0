use Rattle.std.proofs.Common.{◌≡◌, ℕ, List, length}
use Rattle.pliron_core.specs.Tree.{body_of}
use Rattle.pliron_rewrite_calls.specs.Splitting.{AreMoving}
use Rattle.pliron_rewrite_calls.proofs.splitting.move_behind.Given as goal

abbrev pub invariant-loop-behind : goal.invariant-loop-behind
invariant-loop-behind g l = record {
  moving : (rest : List ℕ) × AreMoving l.fn.ctx.tree l.ctx.tree l.fn.op l.fn.block l.fn.new rest;
  point : g.R.Rewriter.point l.rewriter ≡ g.R.Rewriter.point l.fn.rewriter;
}

abbrev pub decreases-loop-behind : goal.decreases-loop-behind
decreases-loop-behind g l = length (body_of l.ctx.tree l.fn.block)
