-- The way from a root to an operation inside it.
use Rattle.std.specs.Prelude.{◌≡◌, ℕ, List, [], ◌∷◌, Some}
use Rattle.pliron_core.specs.Tree.{Tree, IsWithin, parent_operation_of, parent_of, block_parent_of}

-- the operation, and each of the others, is held by the one before, from `top` on
abbrev pub AreHeldInTurn : Tree → ℕ → List ℕ → ℕ → Type 0
AreHeldInTurn t top [] op = op ≡ top
AreHeldInTurn t top (k ∷ ks) op = (parent_operation_of t k ≡ Some top) × AreHeldInTurn t k ks op

-- the root, and all that holds the operation inside it, each before what it holds, the operation last
pub record IsWay (t : Tree) (root op : ℕ) (keys : List ℕ) : Type 0 where
  pub below : List ℕ
  pub split : keys ≡ root ∷ below
  pub held : AreHeldInTurn t root below op

-- the operation is in this block of the region, and is the user or holds it
pub record IsAround (t : Tree) (user region around block : ℕ) : Type 0 where
  pub holds : IsWithin t around user
  pub in_block : parent_of t around ≡ Some block
  pub in_region : block_parent_of t block ≡ Some region
