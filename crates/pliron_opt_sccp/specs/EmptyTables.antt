-- Tables of the search before it begins.
use Rattle.std.specs.Prelude.{◌≡◌, ◌≤◌, ℕ, false, [], length, replicate, vec_capacity}
use Rattle.pliron_opt_sccp.specs.declared.lattice_tables.BlockState.TheVariants.{NotExecutable}
use Rattle.pliron_opt_sccp.specs.declared.lattice_tables.LatticeCell.TheVariants.{Undetermined}
use Rattle.pliron_opt_sccp.specs.declared.lattice_tables.EmptyTables.{EmptyTables}

-- for so many blocks and values: no block is executable, nothing is known of a value, none was visited, the
-- worklists are empty, and there is room for all
pub record AreEmpty (blocks values : ℕ) (t : EmptyTables) : Type 0 where
  pub marks : t.marks.items ≡ replicate blocks NotExecutable
  pub block_worklist : t.block_numbers.worklist.items ≡ []
  pub block_room : blocks ≤ vec_capacity t.block_numbers.worklist
  pub value_worklist : t.value_numbers.worklist.items ≡ []
  pub value_room : values ≤ vec_capacity t.value_numbers.worklist
  pub cells : t.lattice.cells.items ≡ replicate values Undetermined
  pub none_waits : t.lattice.on_worklist.items ≡ replicate values false
  pub constants : t.lattice.constants.items ≡ []
  pub constant_room : values ≤ vec_capacity t.lattice.constants
  pub visits : t.stamps.visits.items ≡ replicate values 0
  pub lowered : t.stamps.lowered.items ≡ replicate values 0
