use Rattle.std.proofs.Common.{◌≡◌, ◌≤◌, ℕ, Some, slice_get, take}
use Rattle.pliron_core.specs.Tree.{In, operands_of}
use Rattle.pliron_rewrite_blocks.specs.Pairs.{forwarded_uses}
use Rattle.pliron_rewrite_calls.proofs.preparing.hand_over_all.Given as goal

abbrev pub invariant-loop-i : goal.invariant-loop-i
invariant-loop-i g l = record {
  tree : l.ctx.tree ≡ forwarded_uses l.fn.ctx.tree (take l.i l.olds) l.news;
  unused : (n v k : ℕ) → l.i ≤ n → slice_get l.news n ≡ Some v → In v (operands_of l.ctx.tree k) → ⊥;
  point : g.R.Rewriter.point l.rewriter ≡ g.R.Rewriter.point l.fn.rewriter;
}
