use Rattle.std.proofs.Common.{take}
use Rattle.pliron_graph_components.specs.Internal.Collecting.{TakesIn}
use Rattle.pliron_graph_components.proofs.components.hold_predecessors.Given as goal

abbrev pub invariant-loop-i : goal.invariant-loop-i
invariant-loop-i g l = TakesIn g.G.Node.PartialEq.eq (take l.i ((g.G.ControlFlowGraph.graph l.graph l.ctx).pred l.node)) (g.S.ListedSet.listed l.fn.held) (g.S.ListedSet.listed l.held)
