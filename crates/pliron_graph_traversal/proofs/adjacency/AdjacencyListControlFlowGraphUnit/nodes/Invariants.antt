use Rattle.std.proofs.Common.{◌≡◌}
use Rattle.pliron_graph_traversal.specs.Adjacency.{count_from}
use Rattle.pliron_graph_traversal.proofs.adjacency.AdjacencyListControlFlowGraphUnit.nodes.Given as goal

abbrev pub invariant-loop-node : goal.invariant-loop-node
invariant-loop-node l = l.all.items ≡ count_from 0 l.node
