use Rattle.std.proofs.Common.{◌≡◌, take, map}
use Rattle.pliron_graph_traversal.specs.Walks.{concatenation}
use Rattle.pliron_graph_traversal.proofs.orders.join.Given as goal

abbrev pub invariant-loop-list : goal.invariant-loop-list
invariant-loop-list g l = l.all.items ≡ concatenation (map (λ w. w.items) (take l.list-index l.lists))
