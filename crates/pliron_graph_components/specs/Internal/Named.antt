-- Components of nodes and those of their numbers, which contracts inside the crate cite.
use Rattle.std.specs.Prelude.{◌≡◌, ℕ, List, Some, length, map, slice_get}
use Rattle.std.specs.Prelude.{nat_eq}
use Rattle.pliron_graph_traversal.specs.Adjacency.{Adjacency, graph_of}
use Rattle.pliron_graph_components.specs.Internal.Collecting.{AreNumberedComponents}
use Rattle.pliron_graph_components.specs.declared.components.Scc.{Scc}

-- d has the nodes whose numbers c has
pub record IsNamedComponent {N : Type 0} (nodes : List N) (c : Scc ℕ) (d : Scc N) : Type 0 where
  pub members : map Some d.nodes.items ≡ map (λ k. slice_get nodes k) c.nodes.items
  pub cyclic : d.is_cyclic ≡ c.is_cyclic

-- and so has each of ds what its counterpart has
pub record AreNamed {N : Type 0} (nodes : List N) (cs : List (Scc ℕ)) (ds : List (Scc N)) : Type 0 where
  pub same_count : length ds ≡ length cs
  pub each : (i : ℕ) (c : Scc ℕ) (d : Scc N) → slice_get cs i ≡ Some c → slice_get ds i ≡ Some d → IsNamedComponent nodes c d

-- the components of a graph by adjacency lists, by nodes that have its numbers
pub record AreNamedComponents {N : Type 0} (lists : Adjacency) (nodes : List N) (ds : List (Scc N)) : Type 0 where
  pub numbered : List (Scc ℕ)
  pub found : AreNumberedComponents nat_eq (graph_of lists) numbered
  pub named : AreNamed nodes numbered ds
