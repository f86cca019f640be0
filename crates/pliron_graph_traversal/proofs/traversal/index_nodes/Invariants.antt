use Rattle.std.proofs.Common.{◌≡◌, take}
use Rattle.pliron_graph_traversal.proofs.traversal.index_nodes.Given as goal

abbrev pub invariant-loop-node : goal.invariant-loop-node
invariant-loop-node g l = l.places.keys ≡ take l.node-index l.order
