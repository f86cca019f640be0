use Rattle.std.proofs.Common.{◌≡◌, map, take}
use Rattle.pliron_graph_components.specs.declared.reverse_node.ReverseNode.TheVariants.{Real}
use Rattle.pliron_graph_components.proofs.reverse_graph.predecessor_list.Given as goal

abbrev pub invariant-loop-i : goal.invariant-loop-i
invariant-loop-i g l = l.list.items ≡ map Real (take l.i ((g.G.ControlFlowGraph.graph l.graph l.ctx).succ l.node))
