-- How often something was popped off a worklist, against what is executable and known.
use Rattle.std.specs.Prelude.{◌≡◌, ◌≢◌, ◌≤◌, ◌+◌, ◌*◌, ℕ, Bool, true, false, List, filter, length, IsTrue}
use Rattle.pliron_core.specs.Tree.{Tree, In}
use Rattle.pliron_theory.specs.LatticeValues.{Undetermined, NotAConstant}
use Rattle.pliron_opt_sccp.specs.declared.lattice_tables.Tables.{Tables}
use Rattle.pliron_opt_sccp.specs.LatticeTables.{is_numbered, lattice_value_in, is_executable, is_block_on_worklist, is_value_on_worklist}
use Rattle.pliron_opt_sccp.specs.Chain.{blocks_inside, is_constant_value, varies}
use Rattle.pliron_opt_sccp.specs.Inside.{block_values, values_inside}

-- how many of these are so
abbrev pub count : (ℕ → Bool) → List ℕ → ℕ
count p xs = length (filter p xs)

-- of the blocks inside the root, how many are executable; of the values that these list, how many are
-- constants, and how many are not constant; and how many of both are still on worklists
abbrev pub executable_count : Tree → ℕ → Tables → ℕ
executable_count t root s = count (λ b. is_executable s b) (blocks_inside t root)

abbrev pub constant_count : Tree → ℕ → Tables → ℕ
constant_count t root s = count (λ v. is_constant_value (lattice_value_in s v)) (values_inside t root)

abbrev pub varying_count : Tree → ℕ → Tables → ℕ
varying_count t root s = count (λ v. varies (lattice_value_in s v)) (values_inside t root)

abbrev pub worklist_count : Tree → ℕ → Tables → ℕ
worklist_count t root s = count (λ b. is_block_on_worklist s b) (blocks_inside t root) + count (λ v. is_value_on_worklist s v) (values_inside t root)

-- what was popped and what is still on worklists are together at least as many as the executable blocks and the
-- values that are known, and at most one more for each value that is not constant, since such a one may have
-- been lowered twice
pub record IsAccounted (t : Tree) (root : ℕ) (s : Tables) (pops : ℕ) : Type 0 where
  pub least : executable_count t root s + constant_count t root s + varying_count t root s ≤ pops + worklist_count t root s
  pub most : pops + worklist_count t root s ≤ executable_count t root s + constant_count t root s + 2 * varying_count t root s

-- a block on the worklist is inside the root and executable, a value on the worklist is listed there and known,
-- and other values are not constant
pub record AreWorklistsInside (t : Tree) (root : ℕ) (s : Tables) : Type 0 where
  pub blocks : (b : ℕ) → is_block_on_worklist s b ≡ true → In b (blocks_inside t root) × IsTrue (is_executable s b)
  pub values : (v : ℕ) → is_value_on_worklist s v ≡ true → In v (values_inside t root) × (lattice_value_in s v ≢ Undetermined)
  pub outside : (v : ℕ) → (In v (values_inside t root) → ⊥) → lattice_value_in s v ≡ NotAConstant

-- before the search: no block is executable, nothing is known inside the root, the worklists are empty, and the
-- blocks have numbers
pub record IsUnsearched (t : Tree) (root : ℕ) (s : Tables) : Type 0 where
  pub reached : (b : ℕ) → is_executable s b ≡ false
  pub inside : (v : ℕ) → In v (values_inside t root) → lattice_value_in s v ≡ Undetermined
  pub outside : (v : ℕ) → (In v (values_inside t root) → ⊥) → lattice_value_in s v ≡ NotAConstant
  pub blocks : (b : ℕ) → is_block_on_worklist s b ≡ false
  pub values : (v : ℕ) → is_value_on_worklist s v ≡ false
  pub numbered : (b : ℕ) → In b (blocks_inside t root) → is_numbered s b ≡ true

-- a value inside the root of which something is known is defined in an executable block
abbrev pub AreKnownThere : Tree → ℕ → Tables → Type 0
AreKnownThere t root s = (b v : ℕ) → In b (blocks_inside t root) → In v (block_values t b) → is_executable s b ≡ false → lattice_value_in s v ≡ Undetermined

-- the worklists are empty
pub record AreWorklistsEmpty (s : Tables) : Type 0 where
  pub blocks : (b : ℕ) → is_block_on_worklist s b ≡ false
  pub values : (v : ℕ) → is_value_on_worklist s v ≡ false
