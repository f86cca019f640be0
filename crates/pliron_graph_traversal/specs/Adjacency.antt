-- Graphs by adjacency lists: node v has list v of two tables.
use Rattle.std.specs.Prelude.{◌≡◌, ℕ, zero, suc, ◌+◌, ◌^◌, ◌<◌, List, [], ◌∷◌, Option, Some, None, length, nat_eq}
use Rattle.std.specs.List.{All, list_any, slice_index_or}
use Rattle.pliron_graph_traversal.specs.Digraph.{Digraph}

-- list v of a table
abbrev pub row : List (List ℕ) → ℕ → List ℕ
row rows v = slice_index_or rows v []

-- the numbers from i on, n of them
abbrev pub count_from : ℕ → ℕ → List ℕ
count_from i zero = []
count_from i (suc n) = i ∷ count_from (i + 1) n

abbrev pub first_listed : List ℕ → Option ℕ
first_listed [] = None
first_listed (x ∷ xs) = Some x

-- each number of the table is below n
abbrev pub AreBelow : ℕ → List (List ℕ) → Type 0
AreBelow n rows = All (λ r. All (λ v. v < n) r) rows

-- the successors of each node, and its predecessors
pub record Adjacency : Type 0 where
  pub succ : List (List ℕ)
  pub pred : List (List ℕ)

-- two tables of the same nodes, the second the inverse of the first
pub record AreInverse (g : Adjacency) : Type 0 where
  pub few : length g.succ < 2 ^ 32
  pub paired : length g.pred ≡ length g.succ
  pub succ_below : AreBelow (length g.succ) g.succ
  pub pred_below : AreBelow (length g.succ) g.pred
  pub inverse : (u v : ℕ) → u < length g.succ → v < length g.succ → list_any (nat_eq u) (row g.pred v) ≡ list_any (nat_eq v) (row g.succ u)

-- its nodes are 0, 1, 2, .., and node 0 is the entry
abbrev pub graph_of : Adjacency → Digraph ℕ
graph_of g = record {
  nodes = count_from 0 (length g.succ);
  entry = first_listed (count_from 0 (length g.succ));
  succ = row g.succ;
  pred = row g.pred;
}
