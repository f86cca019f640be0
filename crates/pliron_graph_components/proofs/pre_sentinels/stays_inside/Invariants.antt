use Rattle.std.proofs.Common.{take}
use Rattle.std.specs.List.{All}
use Rattle.pliron_graph_components.specs.Internal.Picking.{IsListedFrom}
use Rattle.pliron_graph_components.proofs.pre_sentinels.stays_inside.Given as goal

abbrev pub invariant-loop-i : goal.invariant-loop-i
invariant-loop-i g l = All (IsListedFrom g.G.Node.PartialEq.eq (g.S.ListedSet.listed l.held) l.first) (take l.i ((g.G.ControlFlowGraph.graph l.graph l.ctx).succ l.node))
