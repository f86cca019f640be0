-- How the search starts.
use Rattle.std.specs.Prelude.{◌≡◌, ◌↔◌, ◌++◌, ℕ, nat_eq, List, [], ◌∷◌, if◌then◌else◌}
use Rattle.std.specs.List.{list_any}
use Rattle.pliron_core.specs.Tree.{Tree}
use Rattle.pliron_theory.specs.LatticeValues.{LatticeValues}
use Rattle.pliron_opt_sccp.specs.declared.constraints.Constraint.{Constraint}
use Rattle.pliron_opt_sccp.specs.declared.lattice_tables.Tables.{Tables}
use Rattle.pliron_opt_sccp.specs.LatticeTables.{known_constants}
use Rattle.pliron_opt_sccp.specs.Constraints.{SatisfiesAll, ConstrainsEntries}
use Rattle.pliron_opt_sccp.specs.Lowering.{IsApplied}
use Rattle.pliron_opt_sccp.specs.WorklistCounts.{IsUnsearched}

-- these keys in turn, each put behind those from before where it is none of them
abbrev pub keys_added : List ℕ → List ℕ → List ℕ
keys_added [] old = old
keys_added (k ∷ keys) old = keys_added keys (if list_any (nat_eq k) old then old else old ++ k ∷ [])

abbrev pub AddsKeys : List ℕ → (old new : List ℕ) → Type 0
AddsKeys keys old new = new ≡ keys_added keys old

-- the entries of the root's regions are entered, and nothing else was done
pub record IsStarted (t : Tree) (root : ℕ) (s : Tables) : Type 0 where
  pub before : Tables
  pub unsearched : IsUnsearched t root before
  pub constraints : List Constraint
  pub asks : (now : LatticeValues) → SatisfiesAll (known_constants before) now constraints ↔ ConstrainsEntries t root now
  pub applied : IsApplied (known_constants before) constraints before s
