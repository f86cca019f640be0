use Rattle.std.proofs.Common.{◌≡◌, ◌++◌, take, drop, map, reverse}
use Rattle.pliron_graph_traversal.proofs.orders.reverse_each.Given as goal

abbrev pub invariant-loop-list : goal.invariant-loop-list
invariant-loop-list g l = map (λ w. w.items) l.list-items ≡ map reverse (take l.list-index (map (λ w. w.items) l.initial.list-items)) ++ drop l.list-index (map (λ w. w.items) l.initial.list-items)
