-- How the uses of a block show its predecessors.
use Rattle.std.specs.Prelude.{◌≡◌, ℕ, ◌<◌, Some, None, slice_get, ◌≢◌}
use Rattle.pliron_core.specs.declared.uses.Use.{Use}
use Rattle.pliron_core.specs.Lists.{last_of}
use Rattle.pliron_core.specs.Tree.{Tree, View, successors_of, parent_of, body_of, block_parent_of, uses_of}

-- `a` is in the block's region and ends with the operation
pub record IsSource (t : Tree) (block user a : ℕ) : Type 0 where
  pub parent : parent_of t user ≡ Some a
  pub last : last_of None (body_of t a) ≡ Some user
  pub beside : block_parent_of t a ≡ block_parent_of t block

-- no earlier successor of the user is the block
abbrev pub IsFirstPlace : Tree → ℕ → ℕ → ℕ → Type 0
IsFirstPlace t block user place = (p : ℕ) → p < place → slice_get (successors_of t user) p ≢ Some block

-- the i-th use of the block is an edge from `a`
pub record IsEdge (v : View) (block i a : ℕ) : Type 0 where
  pub one : Use
  pub listed : slice_get (uses_of v.block_uses block) i ≡ Some one
  pub source : IsSource v.tree block one.user a

-- and no edge from `a` has a place before it
pub record IsFirstEdge (v : View) (block i a : ℕ) : Type 0 where
  pub one : Use
  pub listed : slice_get (uses_of v.block_uses block) i ≡ Some one
  pub source : IsSource v.tree block one.user a
  pub first : IsFirstPlace v.tree block one.user one.place
