-- The blocks that lead to a block, by its uses.
use Rattle.std.specs.Prelude.{◌≡◌, ◌↔◌, ℕ, ◌<◌, List, Some, slice_get}
use Rattle.pliron_core.specs.declared.uses.Use.{Use}
use Rattle.pliron_core.specs.Tree.{Tree, View, In, uses_of, successors_of, parent_of}

-- an operation directly in block a has b as a successor
abbrev pub HasEdgeTo : Tree → (a b : ℕ) → Type 0
HasEdgeTo t a b = (k : ℕ) × (parent_of t k ≡ Some a) × In b (successors_of t k)

-- these are the blocks with such an operation
abbrev pub AreSources : Tree → ℕ → List ℕ → Type 0
AreSources t b xs = (a : ℕ) → In a xs ↔ HasEdgeTo t a b

-- these are such blocks, and each that the first i uses show is among them
pub record AreSourcesSoFar (v : View) (b i : ℕ) (xs : List ℕ) : Type 0 where
  pub lead : (a : ℕ) → In a xs → HasEdgeTo v.tree a b
  pub all : (k a : ℕ) (one : Use) → k < i → slice_get (uses_of v.block_uses b) k ≡ Some one → parent_of v.tree one.user ≡ Some a → In a xs
