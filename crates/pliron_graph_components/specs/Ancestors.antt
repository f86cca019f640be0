-- What the searches for ancestors answer.
use Rattle.std.specs.Prelude.{◌≡◌, ℕ, ◌<◌, Option, Some, None, slice_get}
use Rattle.pliron_core.specs.Tree.{Tree, IsInside, IsWithin, parent_of, body_of, block_parent_of, block_parent_operation_of}
use Rattle.pliron_core.specs.Erased.{IsInOperation}

-- k is op or an ancestor of it
abbrev pub IsAtOrAbove : Tree → (op k : ℕ) → Type 0
IsAtOrAbove t op k = IsWithin t k op

-- k is an ancestor of op
abbrev pub IsAncestor : Tree → (op k : ℕ) → Type 0
IsAncestor t op k = IsInside t k op

-- the operation is directly in the block
abbrev pub IsDirectlyInBlock : Tree → (block op : ℕ) → Type 0
IsDirectlyInBlock t block op = parent_of t op ≡ Some block

-- the block is directly in the region
abbrev pub IsDirectlyIn : Tree → (region block : ℕ) → Type 0
IsDirectlyIn t region block = block_parent_of t block ≡ Some region

-- the operation is in a block that is directly in the region
abbrev pub IsDirectlyInRegion : Tree → (region op : ℕ) → Type 0
IsDirectlyInRegion t region op = (block : ℕ) × IsDirectlyInBlock t block op × IsDirectlyIn t region block

-- block c is inside block b, at any depth
abbrev pub IsBlockInside : Tree → (b c : ℕ) → Type 0
IsBlockInside t b c = (k : ℕ) × (block_parent_operation_of t c ≡ Some k) × IsInOperation t b k

-- a is one of these and meets the test, and nothing nearer does: none that is inside a
pub record IsNearestAncestor (Inside : ℕ → ℕ → Type 0) (Among Meets : ℕ → Type 0) (a : ℕ) : Type 0 where
  pub among : Among a
  pub meets : Meets a
  pub nearest : (k : ℕ) → Inside a k → Among k → Meets k → ⊥

-- the nearest of these that meets the test, or nothing if none of them does
abbrev pub FindsNearest : (Inside : ℕ → ℕ → Type 0) (Among Meets : ℕ → Type 0) → Option ℕ → Type 0
FindsNearest Inside Among Meets None = (k : ℕ) → Among k → Meets k → ⊥
FindsNearest Inside Among Meets (Some a) = IsNearestAncestor Inside Among Meets a

-- both are in one block, a before b
pub record StrictlyPrecedes (t : Tree) (a b : ℕ) : Type 0 where
  pub block : ℕ
  pub first : ℕ
  pub second : ℕ
  pub before : first < second
  pub at_first : slice_get (body_of t block) first ≡ Some a
  pub at_second : slice_get (body_of t block) second ≡ Some b
