use Rattle.std.proofs.Common.{◌+◌, ◌-◌, length}
use Rattle.pliron_graph_components.proofs.CollectLemmas.{IsCollecting}
use Rattle.pliron_graph_components.proofs.components.collect.Given as goal

abbrev pub invariant-loop-next : goal.invariant-loop-next
invariant-loop-next g l = IsCollecting g.G.Node.PartialEq.eq (g.G.ControlFlowGraph.graph l.graph l.ctx) l.fn.root (g.S.ListedSet.listed l.fn.held) (g.S.ListedSet.listed l.held) l.next

abbrev pub decreases-loop-next : goal.decreases-loop-next
decreases-loop-next g l = length (g.S.ListedSet.listed l.fn.held) + length (g.G.ControlFlowGraph.graph l.graph l.ctx).nodes - l.next
