use Rattle.std.proofs.Common.{◌≡◌, take}
use Rattle.pliron_graph_traversal.proofs.graph.ControlFlowGraph.predecessors.Given as goal

abbrev pub invariant-loop-i : goal.invariant-loop-i
invariant-loop-i g l = l.all.items ≡ take l.i ((g.Self.ControlFlowGraph.graph l.self l.ctx).pred l.node)
