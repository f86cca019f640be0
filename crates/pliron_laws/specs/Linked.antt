-- Well-linked trees, at a root.
use Rattle.std.specs.Prelude.{◌≡◌, ℕ, Some, None, ◌⊎◌, length, IsTrue}
use Rattle.pliron_core.specs.Tree.{Tree, In, IsInside, IsWithin, HoldsBlock, head_of, operands_of, successors_of, results_of, regions_of, parent_of, body_of, block_parent_of, last_of}
use Rattle.pliron_laws.specs.Datum.{Head, Meaning}

-- the operation is the last of its block, and its successors are blocks of the region of that block
pub record EndsBlock (t : Tree) (k : ℕ) : Type 0 where
  pub block : ℕ
  pub in_block : parent_of t k ≡ Some block
  pub last : last_of None (body_of t block) ≡ Some k
  pub own_region : (s : ℕ) → In s (successors_of t k) → block_parent_of t s ≡ block_parent_of t block

-- each operation that is inside the root and has successors, or has a block inside the root as successor, ends
-- its block
abbrev pub EdgesLast : Tree → ℕ → Type 0
EdgesLast t root = (k s : ℕ) → In s (successors_of t k) → IsInside t root k ⊎ HoldsBlock t root s → EndsBlock t k

-- the dialect admits the operation
abbrev pub IsAdmitted : Meaning → Tree → ℕ → Type 0
IsAdmitted m t k = (h : Head) → head_of t k ≡ Some h → IsTrue (m.admits h (length (operands_of t k)) (length (results_of t k)) (length (successors_of t k)) (length (regions_of t k)))

-- the dialect admits the root and all operations inside it
abbrev pub AllAdmitted : Meaning → Tree → ℕ → Type 0
AllAdmitted m t root = (k : ℕ) → IsWithin t root k → IsAdmitted m t k

-- edges are last in their blocks, and the dialect admits the root and all operations inside it
pub record IsWellLinked (m : Meaning) (t : Tree) (root : ℕ) : Type 0 where
  pub edges : EdgesLast t root
  pub admitted : AllAdmitted m t root
