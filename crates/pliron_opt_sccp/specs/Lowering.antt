-- How the tables change while values are lowered.
use Rattle.std.specs.Prelude.{◌≡◌, ◌≢◌, ◌⊎◌, ℕ, true, false, List}
use Rattle.pliron_theory.specs.LatticeValues.{LatticeValues}
use Rattle.pliron_opt_sccp.specs.declared.lattice_tables.Tables.{Tables}
use Rattle.pliron_opt_sccp.specs.declared.constraints.Constraint.{Constraint}
use Rattle.pliron_core.specs.declared.attrs.AttrObj.{AttrObj}
use Rattle.pliron_opt_sccp.specs.LatticeCells.{KeepsConstants}
use Rattle.pliron_opt_sccp.specs.LatticeTables.{known_constants, lattice_value_in, is_numbered, is_executable, is_block_on_worklist, is_value_on_worklist, lattice_values_of}
use Rattle.pliron_opt_sccp.specs.Constraints.{SatisfiesAll}
use Rattle.pliron_opt_sccp.specs.Settling.{AreAtMost}

-- values are lowered and blocks become executable, and each that does is put on its worklist; what was there
-- stays there, and nothing else is
pub record ValuesAreLowered (s s' : Tables) : Type 0 where
  pub below : AreAtMost (lattice_values_of s') (lattice_values_of s)
  pub waits_if_lowered : (v : ℕ) → (lattice_value_in s' v ≡ lattice_value_in s v) ⊎ (is_value_on_worklist s' v ≡ true)
  pub entered : (b : ℕ) → is_executable s' b ≡ true → (is_executable s b ≡ true) ⊎ (is_block_on_worklist s' b ≡ true)
  pub values : (v : ℕ) → is_value_on_worklist s v ≡ true → is_value_on_worklist s' v ≡ true
  pub blocks : (b : ℕ) → is_block_on_worklist s b ≡ true → is_block_on_worklist s' b ≡ true
  pub lowered_stamps : (v : ℕ) → is_value_on_worklist s' v ≡ true → (is_value_on_worklist s v ≡ true) ⊎ (lattice_value_in s' v ≢ lattice_value_in s v)
  pub numbers : (b : ℕ) → is_numbered s' b ≡ is_numbered s b
  pub keeps : KeepsConstants (known_constants s) (known_constants s')
  pub came : (b : ℕ) → is_block_on_worklist s' b ≡ true → (is_block_on_worklist s b ≡ true) ⊎ ((is_executable s b ≡ false) × (is_executable s' b ≡ true))

-- all constraints by these constants are satisfied, and nothing else was done: lattice values at or below the
-- old ones that satisfy them are at or below the new ones
pub record IsApplied (constants : List AttrObj) (constraints : List Constraint) (s s' : Tables) : Type 0 where
  pub lowered : ValuesAreLowered s s'
  pub met : SatisfiesAll constants (lattice_values_of s') constraints
  pub least : (g : LatticeValues) → AreAtMost g (lattice_values_of s) → SatisfiesAll constants g constraints → AreAtMost g (lattice_values_of s')
