-- What is deferred during the search.
use Rattle.std.specs.Prelude.{◌≡◌, ◌↔◌, ◌⊎◌, ◌<◌, ◌≤◌, ◌+◌, ℕ, List, Some, length, map, slice_get}
use Rattle.std.specs.List.{flat_map}
use Rattle.pliron_core.specs.Tree.{Tree, In}
use Rattle.pliron_laws.specs.Tree.{Operation, op_at}
use Rattle.pliron_theory.specs.LatticeValues.{LatticeValues, Says}
use Rattle.pliron_opt_sccp.specs.declared.deferred.DeferredOperations.{DeferredOperations}
use Rattle.pliron_opt_sccp.specs.declared.lattice_tables.Tables.{Tables}
use Rattle.pliron_opt_sccp.specs.LatticeTables.{lattice_values_of}
use Rattle.pliron_opt_sccp.specs.Settling.{IsSatisfied}
use Rattle.pliron_opt_sccp.specs.OperationVisits.{WasVisited}

-- the operations that are deferred
abbrev pub deferred_operations : DeferredOperations → List ℕ
deferred_operations d = flat_map (λ s. s.keys) d.sets.items

-- the set with this number isn't empty
pub record HasFirst (d : DeferredOperations) (i : ℕ) : Type 0 where
  pub keys : List ℕ
  pub at : slice_get (map (λ s. s.keys) d.sets.items) i ≡ Some keys
  pub some : 0 < length keys

-- one more is deferred, if it was not
pub record Defers (op : ℕ) (old new : List ℕ) : Type 0 where
  pub members : (k : ℕ) → In k new ↔ (In k old ⊎ (k ≡ op))
  pub grows : length new ≤ length old + 1

-- one that was deferred is popped, and no other
pub record PopsDeferred (op : ℕ) (old new : List ℕ) : Type 0 where
  pub was : In op old
  pub others : (k : ℕ) → In k old → In k new ⊎ (k ≡ op)
  pub only : (k : ℕ) → In k new → In k old
  pub fewer : length old ≡ length new + 1

-- what is deferred is in a block that was visited, and its constraints of that visit are still satisfied
pub record IsDeferred (x : Says) (t : Tree) (s : Tables) (k : ℕ) : Type 0 where
  pub was_visited : WasVisited t s k
  pub met : (o : Operation) → op_at t k ≡ Some o → (f : LatticeValues) × IsSatisfied x t f (lattice_values_of s) k o
