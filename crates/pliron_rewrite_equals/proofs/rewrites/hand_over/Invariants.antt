use Rattle.std.proofs.Common.{◌≡◌}
use Rattle.pliron_rewrite_equals.specs.Merging.{partly_merged}
use Rattle.pliron_rewrite_equals.proofs.rewrites.hand_over.Given as goal

abbrev pub invariant-loop-i : goal.invariant-loop-i
invariant-loop-i g l = record { tree : l.ctx.tree ≡ partly_merged l.fn.ctx.tree l.leader l.redundant l.i; point : g.R.Rewriter.point l.rewriter ≡ g.R.Rewriter.point l.fn.rewriter }
