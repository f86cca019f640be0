use Rattle.std.proofs.Common.{◌≡◌, ◌∷◌, map, take}
use Rattle.pliron_graph_components.specs.declared.reverse_node.ReverseNode.TheVariants.{Sentinel, Real}
use Rattle.pliron_graph_components.proofs.reverse_graph.ReverseGraphControlFlowGraph.nodes.Given as goal

abbrev pub invariant-loop-node : goal.invariant-loop-node
invariant-loop-node g l =
    record {
      nodes : l.node-items ≡ (g.G.ControlFlowGraph.graph l.self.original l.ctx).nodes;
      all : l.all.items ≡ Sentinel ∷ map Real (take l.node-index l.node-items);
    }
