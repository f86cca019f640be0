-- The components of a graph, and their order.
use Rattle.std.specs.Prelude.{◌≡◌, ℕ, ◌<◌, ◌⊎◌, ◌↔◌, ◌++◌, Bool, IsTrue, List, Contains, slice_get, Some, length}
use Rattle.std.specs.Option.{option_to_list}
use Rattle.pliron_graph_traversal.specs.Digraph.{Digraph, Reaches}
use Rattle.pliron_graph_traversal.specs.Search.{Orders, IsSearch, number_in}
use Rattle.pliron_graph_components.specs.declared.components.Scc.{Scc}

-- the entry, if there is one, and then all nodes
abbrev pub entry_then_nodes : {N : Type 0} → Digraph N → List N
entry_then_nodes g = option_to_list g.entry ++ g.nodes

-- each of u and v reaches the other
abbrev pub ReachEachOther : {N : Type 0} → Digraph N → N → N → Type 0
ReachEachOther g u v = Reaches g u v × Reaches g v u

-- the nodes lie on a cycle: they are more than one, or a node has an edge to itself
abbrev pub IsCyclic : {N : Type 0} → Digraph N → List N → Type 0
IsCyclic {N} g nodes = (1 < length nodes) ⊎ ((v : N) × Contains nodes v × Contains (g.succ v) v)

-- the nodes are in descending order of their numbers
abbrev pub Descends : {N : Type 0} → (N → ℕ) → List N → Type 0
Descends {N} number nodes = (i j : ℕ) (u v : N) → i < j → slice_get nodes i ≡ Some u → slice_get nodes j ≡ Some v → number v < number u

-- a node of the first list has a greater number than each of the second
abbrev pub HasGreatest : {N : Type 0} → (N → ℕ) → List N → List N → Type 0
HasGreatest {N} number nodes others = (u : N) × Contains nodes u × ((v : N) → Contains others v → number v < number u)

-- The nodes in lists: two nodes share one exactly if each reaches the other. The numbers are those of the
-- search from the entry and then all nodes; the lists are by descending greatest post-order number, the nodes of
-- each by descending pre-order number.
pub record AreComponents {N : Type 0} (eq : N → N → Bool) (g : Digraph N) (components : List (Scc N)) : Type 0 where
  pub orders : Orders N
  pub search : IsSearch eq g (entry_then_nodes g) orders
  pub not_empty : (c : Scc N) → Contains components c → 0 < length c.nodes.items
  pub covers : (v : N) → (Contains g.nodes v ↔ ((c : Scc N) × Contains components c × Contains c.nodes.items v))
  pub shares : (c : Scc N) (u v : N) → Contains components c → Contains c.nodes.items u → (Contains c.nodes.items v ↔ ReachEachOther g u v)
  pub ordered : (i j : ℕ) (c d : Scc N) → i < j → slice_get components i ≡ Some c → slice_get components j ≡ Some d → HasGreatest (number_in eq orders.post) c.nodes.items d.nodes.items
  pub members : (c : Scc N) → Contains components c → Descends (number_in eq orders.pre) c.nodes.items
  pub cyclic : (c : Scc N) → Contains components c → (IsTrue c.is_cyclic ↔ IsCyclic g c.nodes.items)
