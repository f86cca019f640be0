-- What is in the tables at a number, and when the tables are sound.
use Rattle.std.specs.Prelude.{◌≡◌, ℕ, Bool, true, false, List, Option, Some, None, slice_get, slice_index_or, length, filter}
use Rattle.pliron_core.specs.declared.attrs.AttrObj.{AttrObj}
use Rattle.pliron_theory.specs.LatticeValues.{LatticeValue, Undetermined, Constant, NotAConstant}
use Rattle.pliron_opt_sccp.specs.declared.lattice_tables.BlockState.{BlockState}
use Rattle.pliron_opt_sccp.specs.declared.lattice_tables.BlockState.TheVariants.{NotExecutable, Waiting, Visited}
use Rattle.pliron_opt_sccp.specs.declared.lattice_tables.LatticeCell.{LatticeCell}
use Rattle.pliron_opt_sccp.specs.declared.lattice_tables.LatticeCell.TheVariants.{Undetermined as Unknown, Constant as Known, NotAConstant as Varying}

abbrev pub is_marked_executable : BlockState → Bool
is_marked_executable NotExecutable = false
is_marked_executable Waiting = true
is_marked_executable Visited = true

abbrev pub is_waiting : BlockState → Bool
is_waiting NotExecutable = false
is_waiting Waiting = true
is_waiting Visited = false

abbrev pub is_unknown : LatticeCell → Bool
is_unknown Unknown = true
is_unknown (Known k) = false
is_unknown Varying = false

-- what the table has at a number, and `d` where there is no number
abbrev pub table_at : {A : Type 0} → A → List A → Option ℕ → A
table_at d table None = d
table_at d table (Some n) = slice_index_or table n d

-- a block without a number is not executable, a value without one is not a constant and on no worklist
abbrev pub mark_at : List BlockState → Option ℕ → BlockState
mark_at marks o = table_at NotExecutable marks o

abbrev pub cell_at : List LatticeCell → Option ℕ → LatticeCell
cell_at cells o = table_at Varying cells o

abbrev pub is_lowered_at : List Bool → Option ℕ → Bool
is_lowered_at lowered o = table_at false lowered o

-- what has no number has no stamp
abbrev pub stamp_at : List ℕ → Option ℕ → ℕ
stamp_at stamps o = table_at 0 stamps o

abbrev pub constant_or : Option AttrObj → LatticeValue
constant_or None = NotAConstant
constant_or (Some c) = Constant c

-- what a cell says, with the attributes by number
abbrev pub value_of_cell : List AttrObj → LatticeCell → LatticeValue
value_of_cell constants Unknown = Undetermined
value_of_cell constants (Known k) = constant_or (slice_get constants k)
value_of_cell constants Varying = NotAConstant

-- no number is in the list twice
abbrev pub AreOnce : List ℕ → Type 0
AreOnce ns = (i j n : ℕ) → slice_get ns i ≡ Some n → slice_get ns j ≡ Some n → i ≡ j

-- how many cells may still take an attribute
abbrev pub unknown_count : List LatticeCell → ℕ
unknown_count cells = length (filter is_unknown cells)

-- the cell means this lattice value, by this list of constants
abbrev pub Means : List AttrObj → LatticeCell → LatticeValue → Type 0
Means constants Unknown f = f ≡ Undetermined
Means constants (Known k) f = (c : AttrObj) × (slice_get constants k ≡ Some c) × (f ≡ Constant c)
Means constants Varying f = f ≡ NotAConstant

-- each number keeps its constant
abbrev pub KeepsConstants : List AttrObj → List AttrObj → Type 0
KeepsConstants old new = (k : ℕ) (c : AttrObj) → slice_get old k ≡ Some c → slice_get new k ≡ Some c
