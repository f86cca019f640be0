use Rattle.std.proofs.Common.{◌≡◌, ◌++◌}
use Rattle.pliron_opt_cfg.proofs.visits.in_visiting_order.Given as goal

abbrev pub invariant-loop-node : goal.invariant-loop-node
invariant-loop-node l = l.order.items ++ l.node-iterator ≡ l.fn.search.pre
