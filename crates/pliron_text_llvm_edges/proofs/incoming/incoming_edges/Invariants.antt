-- The lists of the edges up to here.
use Rattle.std.proofs.Common.{map, take}
use Rattle.pliron_text_llvm_edges.specs.Successors.{AreIncomingEdges}
use Rattle.pliron_text_llvm_edges.proofs.incoming.incoming_edges.Given as goal

abbrev pub invariant-loop-edge : goal.invariant-loop-edge
invariant-loop-edge l = AreIncomingEdges l.count (take l.edge-index l.edges) (map (λ list. list.items) l.lists.items)
