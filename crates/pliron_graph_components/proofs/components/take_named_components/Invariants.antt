use Rattle.std.proofs.Common.{◌≡◌, ℕ, ◌++◌, length, List, nat_eq}
use Rattle.pliron_graph_traversal.specs.Adjacency.{graph_of}
use Rattle.pliron_graph_components.specs.declared.components.Scc.{Scc}
use Rattle.pliron_graph_components.specs.Internal.Named.{AreNamed}
use Rattle.pliron_graph_components.specs.Components.{entry_then_nodes}
use Rattle.pliron_graph_traversal.specs.Search.{number_in}
use Rattle.pliron_graph_components.proofs.ComponentLemmas.{AreTaken}
use Rattle.pliron_graph_components.proofs.components.take_named_components.Given as goal

abbrev pub invariant-loop-root : goal.invariant-loop-root
invariant-loop-root g l =
    let graph = graph_of l.graph in
    record {
      deleted : List ℕ;
      numbered : List (Scc ℕ);
      left : l.initial.post.items ≡ l.post.items ++ deleted;
      taken : AreTaken graph (entry_then_nodes graph) (number_in nat_eq l.pre) (number_in nat_eq l.initial.post.items) l.held numbered (length l.post.items);
      named : AreNamed l.nodes numbered l.all.items;
    }

abbrev pub decreases-loop-root : goal.decreases-loop-root
decreases-loop-root g l = length l.post.items
