use Rattle.std.proofs.Common.{◌≡◌, ◌++◌, length, List}
use Rattle.pliron_graph_components.specs.declared.components.Scc.{Scc}
use Rattle.pliron_graph_components.specs.Reverse.{AreLastOfSinks}
use Rattle.pliron_graph_components.specs.Components.{entry_then_nodes}
use Rattle.pliron_graph_traversal.specs.Search.{number_in}
use Rattle.pliron_graph_components.proofs.ComponentLemmas.{AreTaken}
use Rattle.pliron_graph_components.proofs.pre_sentinels.take_sinks.Given as goal

abbrev pub invariant-loop-root : goal.invariant-loop-root
invariant-loop-root g l =
    let graph = g.G.ControlFlowGraph.graph l.graph l.ctx in
    let eq = g.G.Node.PartialEq.eq in
    record {
      deleted : List g.row.G-Node.Denot;
      components : List (Scc g.row.G-Node.Denot);
      left : l.initial.post.items ≡ l.post.items ++ deleted;
      taken : AreTaken graph (entry_then_nodes graph) (number_in eq (g.S.ListedSet.listed l.pre)) (number_in eq l.initial.post.items) (g.S.ListedSet.listed l.held) components (length l.post.items);
      last : AreLastOfSinks eq graph components l.found.items;
    }

abbrev pub decreases-loop-root : goal.decreases-loop-root
decreases-loop-root g l = length l.post.items
