use Rattle.std.proofs.Common.{◌<◌, ◌≤◌, ◌-◌, length, nat_lt}
use Rattle.std.specs.List.{filter}
use Rattle.pliron_core.specs.Edges.{preds_of}
use Rattle.pliron_core.proofs.context.edge_reads.Ptr+BasicBlock.get_pred.Given as goal

abbrev pub invariant-loop-high : goal.invariant-loop-high
invariant-loop-high l = record {
  order : l.low < l.high;
  within : l.high ≤ length l.ctx.tree.arguments;
  below : length (filter (λ a. nat_lt a l.low) (preds_of l.ctx.tree l.self)) ≤ l.i;
  above : l.i < length (filter (λ a. nat_lt a l.high) (preds_of l.ctx.tree l.self));
}

abbrev pub decreases-loop-high : goal.decreases-loop-high
decreases-loop-high l = l.high - l.low
