-- What the tables of the search say, and what each call does to them.
use Rattle.std.specs.Prelude.{◌≡◌, ◌≢◌, ◌⊎◌, ◌+◌, ◌<◌, ◌≤◌, ◌^◌, ℕ, Bool, true, false, nat_eq, if◌then◌else◌, List, Some, length}
use Rattle.std.specs.List.{list_any}
use Rattle.indexmap.specs.IndexSet.{contains, index_of}
use Rattle.pliron_core.specs.declared.attrs.AttrObj.{AttrObj}
use Rattle.pliron_opt_sccp.specs.declared.lattice_tables.Tables.{Tables}
use Rattle.pliron_opt_sccp.specs.LatticeCells.{is_marked_executable, is_waiting, mark_at, cell_at, is_lowered_at, stamp_at, value_of_cell, KeepsConstants}
use Rattle.pliron_theory.specs.LatticeValues.{LatticeValue, Undetermined, NotAConstant, AtMost, LatticeValues}

-- whether the block has a number
abbrev pub is_numbered : Tables → ℕ → Bool
is_numbered s b = contains nat_eq s.blocks b

-- the constants, in the order of their numbers
abbrev pub known_constants : Tables → List AttrObj
known_constants s = s.constants.items

abbrev pub lattice_value_in : Tables → ℕ → LatticeValue
lattice_value_in s v = value_of_cell s.constants.items (cell_at s.cells.items (index_of nat_eq s.values v))

abbrev pub is_executable : Tables → ℕ → Bool
is_executable s b = is_marked_executable (mark_at s.marks.items (index_of nat_eq s.blocks b))

abbrev pub is_block_on_worklist : Tables → ℕ → Bool
is_block_on_worklist s b = is_waiting (mark_at s.marks.items (index_of nat_eq s.blocks b))

abbrev pub is_value_on_worklist : Tables → ℕ → Bool
is_value_on_worklist s v = is_lowered_at s.values_on_worklist.items (index_of nat_eq s.values v)

-- the stamp of the last visit of the operation whose first result this is
abbrev pub visit_stamp : Tables → ℕ → ℕ
visit_stamp s first = stamp_at s.visit_stamps.items (index_of nat_eq s.values first)

-- the stamp of the value's last lowering
abbrev pub lowered_stamp : Tables → ℕ → ℕ
lowered_stamp s v = stamp_at s.lowered_stamps.items (index_of nat_eq s.values v)

-- how many values are on the worklist
abbrev pub value_worklist_len : Tables → ℕ
value_worklist_len s = length s.value_worklist.items

abbrev pub lattice_values_of : Tables → LatticeValues
lattice_values_of s = record { is_executable = λ b. is_executable s b; lattice_value = λ v. lattice_value_in s v }

-- the lowest lattice values that these tables can have: each block with a number is executable, and nothing is
-- a constant
abbrev pub lowest_lattice_values : Tables → LatticeValues
lowest_lattice_values s = record { is_executable = λ b. is_numbered s b; lattice_value = λ v. NotAConstant }

-- m is the meet of f and g: the greatest lattice value at or below both
pub record IsMeet (f g m : LatticeValue) : Type 0 where
  pub first : AtMost m f
  pub second : AtMost m g
  pub greatest : (l : LatticeValue) → AtMost l f → AtMost l g → AtMost l m

-- it is another one than f
abbrev pub LowersTo : LatticeValue → LatticeValue → LatticeValue → Type 0
LowersTo f g m = IsMeet f g m × (m ≢ f)

-- all stamps stay
pub record KeepsStamps (s s' : Tables) : Type 0 where
  pub visit_stamps : (first : ℕ) → visit_stamp s' first ≡ visit_stamp s first
  pub lowered : (v : ℕ) → lowered_stamp s' v ≡ lowered_stamp s v

-- a value keeps its lattice value and its stamp, or is stamped no earlier than any visit
abbrev pub StampsLowered : (s s' : Tables) → Type 0
StampsLowered s s' = (v : ℕ) → ((lattice_value_in s' v ≡ lattice_value_in s v) × (lowered_stamp s' v ≡ lowered_stamp s v)) ⊎ ((first : ℕ) → visit_stamp s' first ≤ lowered_stamp s' v)

-- it is so for each value, and the stamps of visits stay
pub record StampsEachLowered (s s' : Tables) : Type 0 where
  pub visit_stamps : (first : ℕ) → visit_stamp s' first ≡ visit_stamp s first
  pub lowered : StampsLowered s s'

-- over these blocks and values: no block is executable, nothing is known of a value, and the worklists are
-- empty
pub record AreNew (blocks values : List ℕ) (s : Tables) : Type 0 where
  pub numbers : (b : ℕ) → is_numbered s b ≡ list_any (nat_eq b) blocks
  pub reached : (b : ℕ) → is_executable s b ≡ false
  pub facts : (v : ℕ) → lattice_value_in s v ≡ (if list_any (nat_eq v) values then Undetermined else NotAConstant)
  pub blocks_wait : (b : ℕ) → is_block_on_worklist s b ≡ false
  pub values_wait : (v : ℕ) → is_value_on_worklist s v ≡ false

-- the block is executable, and on the worklist if it was not
pub record Enters (block : ℕ) (s s' : Tables) : Type 0 where
  pub reached : (b : ℕ) → is_executable s' b ≡ (if nat_eq block b then true else is_executable s b)
  pub blocks : (b : ℕ) → is_block_on_worklist s' b ≡ (if nat_eq block b then (if is_executable s block then is_block_on_worklist s block else true) else is_block_on_worklist s b)
  pub facts : (v : ℕ) → lattice_value_in s' v ≡ lattice_value_in s v
  pub values : (v : ℕ) → is_value_on_worklist s' v ≡ is_value_on_worklist s v
  pub numbers : (b : ℕ) → is_numbered s' b ≡ is_numbered s b
  pub keeps : KeepsConstants (known_constants s) (known_constants s')
  pub stamps : KeepsStamps s s'

-- the value is lowered to the meet of both, and is put on the worklist and stamped if that is another one
pub record Lowers (value : ℕ) (to : LatticeValue) (s s' : Tables) : Type 0 where
  pub met : IsMeet (lattice_value_in s value) to (lattice_value_in s' value)
  pub waits_if_lowered : ((lattice_value_in s' value ≡ lattice_value_in s value) × (is_value_on_worklist s' value ≡ is_value_on_worklist s value)) ⊎ ((lattice_value_in s' value ≢ lattice_value_in s value) × (is_value_on_worklist s' value ≡ true))
  pub others : (v : ℕ) → nat_eq value v ≡ false → (lattice_value_in s' v ≡ lattice_value_in s v) × (is_value_on_worklist s' v ≡ is_value_on_worklist s v)
  pub reached : (b : ℕ) → is_executable s' b ≡ is_executable s b
  pub blocks : (b : ℕ) → is_block_on_worklist s' b ≡ is_block_on_worklist s b
  pub numbers : (b : ℕ) → is_numbered s' b ≡ is_numbered s b
  pub keeps : KeepsConstants (known_constants s) (known_constants s')
  pub stamps : StampsEachLowered s s'

-- the value with this number is on the worklist, stamped no earlier than any visit, and nothing else changed
pub record JoinsWorklist (n : ℕ) (s s' : Tables) : Type 0 where
  pub waits : (v : ℕ) → index_of nat_eq s.values v ≡ Some n → is_value_on_worklist s' v ≡ true
  pub others : (v : ℕ) → (index_of nat_eq s.values v ≡ Some n → ⊥) → is_value_on_worklist s' v ≡ is_value_on_worklist s v
  pub facts : (v : ℕ) → lattice_value_in s' v ≡ lattice_value_in s v
  pub reached : (b : ℕ) → is_executable s' b ≡ is_executable s b
  pub blocks : (b : ℕ) → is_block_on_worklist s' b ≡ is_block_on_worklist s b
  pub numbers : (b : ℕ) → is_numbered s' b ≡ is_numbered s b
  pub keeps : KeepsConstants (known_constants s) (known_constants s')
  pub visit_stamps : (first : ℕ) → visit_stamp s' first ≡ visit_stamp s first
  pub stamped : (v first : ℕ) → index_of nat_eq s.values v ≡ Some n → visit_stamp s' first ≤ lowered_stamp s' v
  pub unstamped : (v : ℕ) → (index_of nat_eq s.values v ≡ Some n → ⊥) → lowered_stamp s' v ≡ lowered_stamp s v

-- the block is popped off the worklist
pub record PopsBlock (block : ℕ) (s s' : Tables) : Type 0 where
  pub waited : is_block_on_worklist s block ≡ true
  pub blocks : (b : ℕ) → is_block_on_worklist s' b ≡ (if nat_eq block b then false else is_block_on_worklist s b)
  pub reached : (b : ℕ) → is_executable s' b ≡ is_executable s b
  pub facts : (v : ℕ) → lattice_value_in s' v ≡ lattice_value_in s v
  pub values : (v : ℕ) → is_value_on_worklist s' v ≡ is_value_on_worklist s v
  pub numbers : (b : ℕ) → is_numbered s' b ≡ is_numbered s b
  pub stamps : KeepsStamps s s'

-- the value is popped off the worklist
pub record PopsValue (value : ℕ) (s s' : Tables) : Type 0 where
  pub waited : is_value_on_worklist s value ≡ true
  pub values : (v : ℕ) → is_value_on_worklist s' v ≡ (if nat_eq value v then false else is_value_on_worklist s v)
  pub facts : (v : ℕ) → lattice_value_in s' v ≡ lattice_value_in s v
  pub reached : (b : ℕ) → is_executable s' b ≡ is_executable s b
  pub blocks : (b : ℕ) → is_block_on_worklist s' b ≡ is_block_on_worklist s b
  pub numbers : (b : ℕ) → is_numbered s' b ≡ is_numbered s b
  pub constants : known_constants s' ≡ known_constants s
  pub fewer : value_worklist_len s ≡ value_worklist_len s' + 1
  pub few : value_worklist_len s < 2 ^ 64
  pub stamps : KeepsStamps s s'

-- nothing of what is said changed
pub record SaysSame (s s' : Tables) : Type 0 where
  pub facts : (v : ℕ) → lattice_value_in s' v ≡ lattice_value_in s v
  pub reached : (b : ℕ) → is_executable s' b ≡ is_executable s b
  pub blocks : (b : ℕ) → is_block_on_worklist s' b ≡ is_block_on_worklist s b
  pub values : (v : ℕ) → is_value_on_worklist s' v ≡ is_value_on_worklist s v
  pub numbers : (b : ℕ) → is_numbered s' b ≡ is_numbered s b
  pub constants : known_constants s' ≡ known_constants s
  pub stamps : KeepsStamps s s'

-- a visit of the operation with this first result may have got another stamp, and nothing else changed
pub record StampsVisit (first : ℕ) (s s' : Tables) : Type 0 where
  pub facts : (v : ℕ) → lattice_value_in s' v ≡ lattice_value_in s v
  pub reached : (b : ℕ) → is_executable s' b ≡ is_executable s b
  pub blocks : (b : ℕ) → is_block_on_worklist s' b ≡ is_block_on_worklist s b
  pub values : (v : ℕ) → is_value_on_worklist s' v ≡ is_value_on_worklist s v
  pub numbers : (b : ℕ) → is_numbered s' b ≡ is_numbered s b
  pub constants : known_constants s' ≡ known_constants s
  pub visit_stamps : (other : ℕ) → nat_eq first other ≡ false → visit_stamp s' other ≡ visit_stamp s other
  pub lowered : (v : ℕ) → lowered_stamp s' v ≡ lowered_stamp s v

abbrev pub IsBlockWorklistEmpty : Tables → Tables → Type 0
IsBlockWorklistEmpty s s' = SaysSame s s' × ((b : ℕ) → is_block_on_worklist s b ≡ false)

abbrev pub IsValueWorklistEmpty : Tables → Tables → Type 0
IsValueWorklistEmpty s s' = SaysSame s s' × ((v : ℕ) → is_value_on_worklist s v ≡ false)
