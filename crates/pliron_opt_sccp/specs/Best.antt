-- During the search the lattice values are at or above every closed set of them.
use Rattle.std.specs.Prelude.{ℕ, Bool, false, if◌then◌else◌, IsTrue}
use Rattle.pliron_core.specs.Tree.{Tree, In}
use Rattle.pliron_theory.specs.LatticeValues.{AtMost, LatticeValues, Says, AreClosed}
use Rattle.pliron_opt_sccp.specs.declared.lattice_tables.Tables.{Tables}
use Rattle.pliron_opt_sccp.specs.LatticeTables.{is_executable, is_block_on_worklist, lattice_values_of}
use Rattle.pliron_opt_sccp.specs.Inside.{values_inside}
use Rattle.pliron_opt_sccp.specs.Visiting.{IsGrounded, AreDetermined}

-- the block was visited: it is executable and not on the worklist
abbrev pub is_visited : Tables → ℕ → Bool
is_visited s b = if is_block_on_worklist s b then false else is_executable s b

-- g has all executable blocks of f, and says of each value inside the root as much as f, or less
pub record IsHigher (t : Tree) (root : ℕ) (f g : LatticeValues) : Type 0 where
  pub blocks : (b : ℕ) → IsTrue (f.is_executable b) → IsTrue (g.is_executable b)
  pub facts : (v : ℕ) → In v (values_inside t root) → AtMost (g.lattice_value v) (f.lattice_value v)

-- blocks became executable along blocks that were visited, what is defined in those is determined, and the
-- lattice values so far are above every closed set of lattice values
pub record IsBest (x : Says) (t : Tree) (root : ℕ) (s : Tables) : Type 0 where
  pub grounded : IsGrounded t root (lattice_values_of s) (is_visited s)
  pub ready : AreDetermined t (lattice_values_of s) (is_visited s)
  pub above : (g : LatticeValues) → AreClosed x t root g → IsHigher t root (lattice_values_of s) g
