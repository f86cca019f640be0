-- A graph and the same graph by adjacency lists.
use Rattle.std.specs.Prelude.{◌≡◌, ℕ, Some, length, map, slice_get}
use Rattle.pliron_graph_traversal.specs.Digraph.{Digraph}
use Rattle.pliron_graph_traversal.specs.Adjacency.{Adjacency, AreInverse, row}

-- node k of the lists is the k-th node of the graph, with the same successors in the same order, and the entry
-- is the first node
pub record IsByNumber {N : Type 0} (g : Digraph N) (lists : Adjacency) : Type 0 where
  pub inverse : AreInverse lists
  pub same_count : length lists.succ ≡ length g.nodes
  pub entry : g.entry ≡ slice_get g.nodes 0
  pub edges : (k : ℕ) (v : N) → slice_get g.nodes k ≡ Some v → map Some (g.succ v) ≡ map (λ j. slice_get g.nodes j) (row lists.succ k)
