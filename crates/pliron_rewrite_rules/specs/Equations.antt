-- Values that are equal wherever a run reads one of them, since the operations that compute them say so.
use Rattle.std.specs.Prelude.{◌≡◌, ◌⊎◌, ℕ, Bool, [], Option, Some}
use Rattle.pliron_core.specs.declared.context.Def.TheVariants.{Result}
use Rattle.pliron_core.specs.Tree.{Tree, In, operands_of, successors_of, definition_of}
use Rattle.pliron_core.specs.Invariant.{IsTree}
use Rattle.pliron_core.specs.Writes.{after_replacing}
use Rattle.pliron_laws.specs.Datum.{Head, Meaning}
use Rattle.pliron_laws.specs.Linked.{IsAdmitted}
use Rattle.pliron_laws.specs.States.{Environment}
use Rattle.pliron_theory.specs.Keeps.{IsFit, KeepsRuns}
use Rattle.pliron_theory.specs.Renaming.{MayUse}
use Rattle.pliron_theory.specs.Rewrites.{HasNoSideEffects}
use Rattle.pliron_theory.specs.Sweeping.{GivesNow}
use Rattle.pliron_rewrite_equals.specs.Current.{IsCurrent}

-- the operation is in the backward slice of the value: it makes the value, or an operand of an operation of the slice
pub data IsInSlice (t : Tree) (v : ℕ) : ℕ → Type 0 where
  Makes : {k : ℕ} (i : ℕ) → definition_of t v ≡ Some (Result k i) → IsInSlice t v k
  MakesOperand : {k : ℕ} (i j x : ℕ) → IsInSlice t v j → In x (operands_of t j) → definition_of t x ≡ Some (Result k i) → IsInSlice t v k

-- an operation of the pattern of two values: it is in the slice of one of them, and gives at once
pub record IsInPattern (m : Meaning) (side_effects : Head → Option Bool) (t : Tree) (old new k : ℕ) : Type 0 where
  pub slice : IsInSlice t old k ⊎ IsInSlice t new k
  pub no_successors : successors_of t k ≡ []
  pub at_once : HasNoSideEffects side_effects t k ⊎ GivesNow m t k

-- the equation of two values: whatever data the values of the tree have, if the dialect admits each operation of the
-- pattern, and its results are what it gives on the data of its operands, the two are equal
abbrev pub AreEqual : Meaning → (Head → Option Bool) → Tree → (old new : ℕ) → Type 0
AreEqual m side_effects t old new = (env : Environment) → ((k : ℕ) → IsInPattern m side_effects t old new k → IsAdmitted m t k × IsCurrent m t env k) → env old ≡ env new

-- uses of a value may become uses of one that is equal, if it may be used there
abbrev pub EquationLaw : Meaning → (Head → Option Bool) → Type 0
EquationLaw m side_effects = (t : Tree) (old new : ℕ) → IsTree t → AreEqual m side_effects t old new → ((root : ℕ) → IsFit m t root → (user : ℕ) → In old (operands_of t user) → MayUse t root user new) → KeepsRuns m t (after_replacing t old new)
