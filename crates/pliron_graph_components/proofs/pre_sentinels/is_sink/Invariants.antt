use Rattle.std.proofs.Common.{take}
use Rattle.std.specs.List.{All}
use Rattle.pliron_graph_components.specs.Internal.Picking.{IsListedFrom}
use Rattle.pliron_graph_components.proofs.pre_sentinels.is_sink.Given as goal

abbrev pub invariant-loop-node : goal.invariant-loop-node
invariant-loop-node g l =
    All (λ u. All (IsListedFrom g.G.Node.PartialEq.eq (g.S.ListedSet.listed l.held) l.first) ((g.G.ControlFlowGraph.graph l.graph l.ctx).succ u)) (take l.node-index l.members)
