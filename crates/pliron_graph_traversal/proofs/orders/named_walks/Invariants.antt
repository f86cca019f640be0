use Rattle.std.proofs.Common.{◌≡◌, Some, map, slice_get, take}
use Rattle.pliron_graph_traversal.proofs.orders.named_walks.Given as goal

abbrev pub invariant-loop-walk : goal.invariant-loop-walk
invariant-loop-walk g l = map (map Some) (map (λ w. w.items) l.all.items) ≡ map (map (λ k. slice_get l.nodes k)) (map (λ w. w.items) (take l.walk-index l.walks))
