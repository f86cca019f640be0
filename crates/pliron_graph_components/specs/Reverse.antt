-- The reverse of a graph, with a sentinel in front of its pre-sentinels.
use Rattle.std.specs.Prelude.{◌≡◌, ℕ, ◌<◌, ◌≤◌, ◌↔◌, slice_get, Bool, List, [], ◌∷◌, ◌++◌, Some, Contains, map, if◌then◌else◌}
use Rattle.std.specs.List.{All, list_any}
use Rattle.pliron_graph_traversal.specs.Digraph.{Digraph}
use Rattle.pliron_graph_traversal.specs.Search.{number_in}
use Rattle.pliron_graph_components.specs.Components.{AreComponents}
use Rattle.pliron_graph_components.specs.declared.components.Scc.{Scc}
use Rattle.pliron_graph_components.specs.declared.reverse_node.ReverseNode.{ReverseNode}
use Rattle.pliron_graph_components.specs.declared.reverse_node.ReverseNode.TheVariants.{Sentinel, Real}

-- the successors of the sentinel are the pre-sentinels, and those of a node what were its predecessors
abbrev pub reverse_succ : {N : Type 0} → Digraph N → List N → ReverseNode N → List (ReverseNode N)
reverse_succ g starts Sentinel = map Real starts
reverse_succ g starts (Real v) = map Real (g.pred v)

-- the predecessors of a node are what were its successors, and then the sentinel if it is a pre-sentinel
abbrev pub reverse_pred : {N : Type 0} → (N → N → Bool) → Digraph N → List N → ReverseNode N → List (ReverseNode N)
reverse_pred eq g starts Sentinel = []
reverse_pred eq g starts (Real v) = map Real (g.succ v) ++ (if list_any (eq v) starts then Sentinel ∷ [] else [])

-- the reverse graph: the sentinel, which is its entry, and then the nodes
abbrev pub reverse_of : {N : Type 0} → (N → N → Bool) → Digraph N → List N → Digraph (ReverseNode N)
reverse_of eq g starts = record {
  nodes = Sentinel ∷ map Real g.nodes;
  entry = Some Sentinel;
  succ = reverse_succ g starts;
  pred = reverse_pred eq g starts;
}

-- each successor of these nodes is one of them
abbrev pub IsSink : {N : Type 0} → Digraph N → List N → Type 0
IsSink g nodes = All (λ u. All (λ v. Contains nodes v) (g.succ u)) nodes

module _ {N : Type 0} (eq : N → N → Bool) (g : Digraph N) where
  -- v is the last of these nodes in listed order
  abbrev pub IsLastListed : List N → N → Type 0
  IsLastListed nodes v = Contains nodes v × ((u : N) → Contains nodes u → number_in eq g.nodes u ≤ number_in eq g.nodes v)

  -- u is in an earlier component than v
  abbrev pub IsInEarlier : List (Scc N) → N → N → Type 0
  IsInEarlier components u v = (i j : ℕ) × (c d : Scc N) × (i < j) × (slice_get components i ≡ Some c) × (slice_get components j ≡ Some d) × Contains c.nodes.items u × Contains d.nodes.items v

  -- the last listed node of each component without an edge to another one, in the order of the components
  pub record AreLastOfSinks (components : List (Scc N)) (starts : List N) : Type 0 where
    pub listed : (v : N) → (Contains starts v ↔ ((c : Scc N) × Contains components c × IsSink g c.nodes.items × IsLastListed c.nodes.items v))
    pub in_order : (i j : ℕ) (u v : N) → i < j → slice_get starts i ≡ Some u → slice_get starts j ≡ Some v → IsInEarlier components u v

  -- the pre-sentinels of a graph
  abbrev pub ArePreSentinels : List N → Type 0
  ArePreSentinels starts = (components : List (Scc N)) × AreComponents eq g components × AreLastOfSinks components starts

-- what is kept of a graph's reverse: the graph, the pre-sentinels, its nodes, and of each its predecessors in
-- the reverse graph
pub record Reversed (G N : Type 0) : Type 0 where
  pub original : G
  pub pre_sentinels : List N
  pub nodes : List N
  pub predecessors : List (List (ReverseNode N))

-- what is kept fits a graph: the nodes and their predecessors are those of its reverse, and the pre-sentinels are nodes
pub record FitsReversal {G N : Type 0} (eq : N → N → Bool) (g : Digraph N) (r : Reversed G N) : Type 0 where
  pub same_nodes : r.nodes ≡ g.nodes
  pub same_predecessors : r.predecessors ≡ map (λ v. reverse_pred eq g r.pre_sentinels (Real v)) g.nodes
  pub starts_in : All (λ v. Contains g.nodes v) r.pre_sentinels
