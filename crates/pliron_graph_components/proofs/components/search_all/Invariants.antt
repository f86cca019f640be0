use Rattle.std.proofs.Common.{◌≡◌, [], take}
use Rattle.pliron_graph_components.specs.Components.{entry_then_nodes}
use Rattle.pliron_graph_traversal.specs.Internal.Forest.{Grew}
use Rattle.pliron_graph_components.proofs.components.search_all.Given as goal

abbrev pub invariant-loop-root : goal.invariant-loop-root
invariant-loop-root g l =
    let graph = g.G.ControlFlowGraph.graph l.graph l.ctx in
    record {
      roots : l.root-items ≡ entry_then_nodes graph;
      empty : l.stack.items ≡ [];
      grew : Grew g.G.Node.PartialEq.eq graph (take l.root-index (entry_then_nodes graph)) [] [] (g.S.ListedSet.listed l.pre) l.post.items;
    }
