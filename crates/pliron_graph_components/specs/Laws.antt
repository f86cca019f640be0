-- Laws of every list of walks, every search and every list of components, which users rely on.
use Rattle.std.specs.Prelude.{◌≡◌, ℕ, ◌<◌, ◌≤◌, ◌⊎◌, ◌↔◌, Bool, List, Contains, slice_get, Some, take, reverse}
use Rattle.pliron_core.specs.Tree.{Tree, layout_of}
use Rattle.pliron_laws.specs.Paths.{Path}
use Rattle.pliron_graph_traversal.specs.Digraph.{Digraph, IsLawful, Reaches, HasCycle}
use Rattle.pliron_graph_traversal.specs.Search.{Orders, IsSearch, ComesBefore}
use Rattle.pliron_graph_traversal.specs.Walks.{concatenation, AreWalks}
use Rattle.pliron_graph_traversal.specs.EdgeKinds.{HasBackEdge}
use Rattle.pliron_graph_traversal.specs.Regions.{graph_of_region, IsLawfulRegion}
use Rattle.pliron_graph_components.specs.Components.{AreComponents}
use Rattle.pliron_graph_components.specs.declared.components.Scc.{Scc}

module _ {N : Type 0} (eq : N → N → Bool) where
  -- in post-order the target of an edge is before its source, or reaches it
  abbrev pub EdgeInPostOrder : Type 0
  EdgeInPostOrder = (g : Digraph N) (walks : List (List N)) → IsLawful eq g → AreWalks eq g walks
      → (u v : N) → Contains g.nodes u → Contains (g.succ u) v → ComesBefore eq (concatenation walks) v u ⊎ Reaches g v u

  -- in a reversed walk the source of an edge is before its target, or the target reaches it
  abbrev pub EdgeInTopologicalOrder : Type 0
  EdgeInTopologicalOrder = (g : Digraph N) (walks : List (List N)) → IsLawful eq g → AreWalks eq g walks
      → (walk : List N) → Contains walks walk
      → (u v : N) → Contains walk u → Contains walk v → Contains (g.succ u) v → ComesBefore eq (reverse walk) u v ⊎ Reaches g v u

  -- an edge between two walks goes from the later to the earlier
  abbrev pub EdgeBetweenWalks : Type 0
  EdgeBetweenWalks = (g : Digraph N) (walks : List (List N)) → IsLawful eq g → AreWalks eq g walks
      → (i j : ℕ) (a b : List N) → slice_get walks i ≡ Some a → slice_get walks j ≡ Some b
      → (u v : N) → Contains a u → Contains b v → Contains (g.succ u) v → j ≤ i

  -- the first node of xs that is outside ys
  abbrev pub IsFirstOutside : List N → List N → N → Type 0
  IsFirstOutside xs ys v = (k : ℕ) × (slice_get xs k ≡ Some v) × (Contains ys v → ⊥) × ((j : ℕ) (w : N) → j < k → slice_get xs j ≡ Some w → Contains ys w)

  -- a walk whose first node in topological order is v: what v reaches and no earlier walk holds
  pub record IsWalkFrom (g : Digraph N) (earlier walk : List N) (v : N) : Type 0 where
    pub first : slice_get (reverse walk) 0 ≡ Some v
    pub listed : IsFirstOutside g.nodes earlier v
    pub holds : (w : N) → Contains walk w ↔ (Reaches g v w × (Contains earlier w → ⊥))

  -- each walk starts from the first listed node that no earlier walk holds
  abbrev pub WalkFromFirstNode : Type 0
  WalkFromFirstNode = (g : Digraph N) (walks : List (List N)) → IsLawful eq g → AreWalks eq g walks
      → (i : ℕ) (walk : List N) → slice_get walks i ≡ Some walk → (v : N) × IsWalkFrom g (concatenation (take i walks)) walk v

  -- some edge of what the roots reach is a back edge exactly if that part has a cycle
  abbrev pub BackEdgeOnCycle : Type 0
  BackEdgeOnCycle = (g : Digraph N) (roots : List N) (o : Orders N) → IsLawful eq g → IsSearch eq g roots o
      → (HasBackEdge eq g roots o ↔ HasCycle g roots)

  -- an edge between two components goes from the earlier to the later
  abbrev pub EdgeBetweenComponents : Type 0
  EdgeBetweenComponents = (g : Digraph N) (components : List (Scc N)) → IsLawful eq g → AreComponents eq g components
      → (i j : ℕ) (c d : Scc N) → slice_get components i ≡ Some c → slice_get components j ≡ Some d
      → (u v : N) → Contains c.nodes.items u → Contains d.nodes.items v → Contains (g.succ u) v → i ≤ j

-- from a block of a region, the paths of the meaning lead where those of the graph lead
abbrev pub PathsOfRegion : Type 0
PathsOfRegion = (t : Tree) (region : ℕ) → IsLawfulRegion t region → (a b : ℕ) → Contains (layout_of t region) a
    → (((before : List ℕ) × Path t a b before) ↔ Reaches (graph_of_region t region) a b)
