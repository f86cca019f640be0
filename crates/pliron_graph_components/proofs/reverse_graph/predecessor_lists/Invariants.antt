use Rattle.std.proofs.Common.{◌≡◌, map, take}
use Rattle.pliron_graph_components.specs.Reverse.{reverse_pred}
use Rattle.pliron_graph_components.specs.declared.reverse_node.ReverseNode.TheVariants.{Real}
use Rattle.pliron_graph_components.proofs.reverse_graph.predecessor_lists.Given as goal

abbrev pub invariant-loop-node : goal.invariant-loop-node
invariant-loop-node g l =
    map (λ list. list.items) l.lists.items ≡ map (λ v. reverse_pred g.G.Node.PartialEq.eq (g.G.ControlFlowGraph.graph l.graph l.ctx) l.pre_sentinels.keys (Real v)) (take l.node-index l.nodes)
