use Rattle.std.proofs.Common.{◌≡◌, Some, map, slice_get, take}
use Rattle.pliron_graph_traversal.proofs.traversal.nodes_by_number.Given as goal

abbrev pub invariant-loop-number : goal.invariant-loop-number
invariant-loop-number g l = map Some l.named.items ≡ map (λ k. slice_get l.nodes k) (take l.number-index l.numbers)
