use Rattle.std.proofs.Common.{zero-add}
use Rattle.pliron_graph_traversal.proofs.AdjacencyLemmas.{count_push}
use Rattle.pliron_graph_traversal.proofs.adjacency.AdjacencyListControlFlowGraphUnit.nodes.Goals as goal

pub loop-node-preserved : goal.loop-node-preserved
loop-node-preserved c = rw (count_push 0 c.loop-node.node, zero-add, ← c.loop-node.invariant) c.in_ok-push.ensures.items
