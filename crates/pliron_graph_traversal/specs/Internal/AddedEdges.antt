-- The table of predecessors of a graph by adjacency lists, while it is filled.
use Rattle.std.specs.Prelude.{◌≡◌, ℕ, ◌+◌, ◌<◌, ◌&&◌, ◌||◌, List, length, nat_eq, nat_lt}
use Rattle.std.specs.List.{All, list_any}
use Rattle.std.specs.List.Sorted.{IsStrictlyIncreasing}
use Rattle.pliron_graph_traversal.specs.Adjacency.{row, AreBelow}

-- each list is ascending, and each number of it is below n
abbrev pub RiseBelow : ℕ → List (List ℕ) → Type 0
RiseBelow n rows = All (λ r. IsStrictlyIncreasing r × All (λ x. x < n) r) rows

-- the second table took in the edges from u to the targets
pub record AddsEdges (old new : List (List ℕ)) (u : ℕ) (targets : List ℕ) : Type 0 where
  pub same_length : length new ≡ length old
  pub listed : (x v : ℕ) → v < length old → list_any (nat_eq x) (row new v) ≡ list_any (nat_eq x) (row old v) || (nat_eq x u && list_any (nat_eq v) targets)
  pub below : (n : ℕ) → u < n → AreBelow n old → AreBelow n new
  pub rising : RiseBelow (u + 1) old → RiseBelow (u + 1) new

-- the second table took in the edges of the first i lists
pub record AddsRows (succ pred : List (List ℕ)) (i : ℕ) : Type 0 where
  pub paired : length pred ≡ length succ
  pub listed : (x v : ℕ) → v < length succ → list_any (nat_eq x) (row pred v) ≡ nat_lt x i && list_any (nat_eq v) (row succ x)
  pub below : AreBelow (length succ) pred
  pub rising : RiseBelow i pred
