use Rattle.std.proofs.Common.{map, take}
use Rattle.pliron_graph_traversal.specs.Internal.AddedEdges.{AddsEdges}
use Rattle.pliron_graph_traversal.proofs.adjacency.add_edges.Given as goal

abbrev pub invariant-loop-target : goal.invariant-loop-target
invariant-loop-target l = AddsEdges (map (λ r. r.items) l.initial.predecessors) (map (λ r. r.items) l.predecessors) l.source (take l.target-index l.targets)
