use Rattle.std.proofs.Common.{◌≡◌, [], take, map}
use Rattle.pliron_graph_traversal.specs.Internal.Walked.{Walked}
use Rattle.pliron_graph_traversal.proofs.orders.find_walks.Given as goal

abbrev pub invariant-loop-node : goal.invariant-loop-node
invariant-loop-node g l =
    let graph = g.G.ControlFlowGraph.graph l.graph l.ctx in
    record {
      nodes : l.node-items ≡ graph.nodes;
      empty : l.stack.items ≡ [];
      walked : Walked g.G.Node.PartialEq.eq graph (take l.node-index graph.nodes) (g.S.ListedSet.listed l.seen) (map (λ w. w.items) l.walks.items);
    }
