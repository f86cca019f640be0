-- Invariants of the search: which blocks are executable, and what is determined there.
use Rattle.std.specs.Prelude.{◌≡◌, ◌≢◌, ◌⊎◌, ℕ, Bool, List, Some, None, IsTrue}
use Rattle.pliron_core.specs.Tree.{Tree, In, parent_of, results_of, arguments_of, block_parent_of, block_parent_operation_of, layout_of, first_of}
use Rattle.pliron_laws.specs.Paths.{Path}
use Rattle.pliron_theory.specs.LatticeValues.{Undetermined, LatticeValues}

-- a path from the entry of the block's region to it, along blocks that were visited
pub record HasWay (t : Tree) (visited : ℕ → Bool) (b : ℕ) : Type 0 where
  pub region : ℕ
  pub in_region : block_parent_of t b ≡ Some region
  pub entry : ℕ
  pub entry_first : first_of (layout_of t region) None ≡ Some entry
  pub before : List ℕ
  pub path : Path t entry b before
  pub all_visited : (d : ℕ) → In d before → IsTrue (visited d)

-- each executable block has such a path, and its parent operation is the root or is in a block that was visited
pub record IsGrounded (t : Tree) (root : ℕ) (f : LatticeValues) (visited : ℕ → Bool) : Type 0 where
  pub ways : (b : ℕ) → IsTrue (f.is_executable b) → HasWay t visited b
  pub held : (b k : ℕ) → IsTrue (f.is_executable b) → block_parent_operation_of t b ≡ Some k → (k ≡ root) ⊎ ((c : ℕ) × (parent_of t k ≡ Some c) × IsTrue (visited c))
  pub reached : (b : ℕ) → IsTrue (visited b) → IsTrue (f.is_executable b)

-- arguments of executable blocks, and results in blocks that were visited, are determined
pub record AreDetermined (t : Tree) (f : LatticeValues) (visited : ℕ → Bool) : Type 0 where
  pub arguments : (b v : ℕ) → IsTrue (f.is_executable b) → In v (arguments_of t b) → f.lattice_value v ≢ Undetermined
  pub results : (b k v : ℕ) → IsTrue (visited b) → parent_of t k ≡ Some b → In v (results_of t k) → f.lattice_value v ≢ Undetermined
