-- The values that a rule may put in the place of a result, and those that what it puts before may use.
use Rattle.std.specs.Prelude.{◌≡◌, ℕ, Bool, List, [], ◌∷◌, ◌++◌, Option, Some, slice_get}
use Rattle.pliron_core.specs.Tree.{Tree, In, operands_of, successors_of, results_of, parent_of, body_of}
use Rattle.pliron_core.specs.Invariant.{IsTree}
use Rattle.pliron_core.specs.Writes.{after_replacing}
use Rattle.pliron_laws.specs.Datum.{Head, Meaning}
use Rattle.pliron_theory.specs.Keeps.{KeepsAllRuns}
use Rattle.pliron_rewrite_rules.specs.Equations.{IsInSlice, AreEqual}

-- the new value is an operand of an operation in the slice of the old one
pub record IsLeaf (t : Tree) (old new : ℕ) : Type 0 where
  pub reader : ℕ
  pub slice : IsInSlice t old reader
  pub reads : In new (operands_of t reader)

-- the value is a result of an operation without successors that is before `at` in its block
pub record IsMadeBefore (t : Tree) (at v : ℕ) : Type 0 where
  pub maker : ℕ
  pub place : ℕ
  pub makes : slice_get (results_of t maker) place ≡ Some v
  pub successors : successors_of t maker ≡ []
  pub block : ℕ
  pub in_block : parent_of t maker ≡ Some block
  pub beside : parent_of t at ≡ Some block
  pub earlier : (done rest : List ℕ) → body_of t block ≡ done ++ at ∷ rest → In maker done

-- what is put just before `at` may use the value: a leaf of the pattern of a result of `at`, or what is made before
pub data IsAvailable (t : Tree) (at v : ℕ) : Type 0 where
  AtLeaf : (old i : ℕ) → slice_get (results_of t at) i ≡ Some old → IsLeaf t old v → IsAvailable t at v
  MadeBefore : IsMadeBefore t at v → IsAvailable t at v

-- uses of a result may become uses of a leaf of its pattern that is equal
abbrev pub LeafLaw : Meaning → (Head → Option Bool) → Type 0
LeafLaw m side_effects = (t : Tree) (old new : ℕ) → IsTree t → IsLeaf t old new → AreEqual m side_effects t old new → KeepsAllRuns m t (after_replacing t old new)

-- uses of a result may become uses of an equal result of what is before the operation in its block
abbrev pub ResultBeforeLaw : Meaning → (Head → Option Bool) → Type 0
ResultBeforeLaw m side_effects = (t : Tree) (at i old new : ℕ) → IsTree t → slice_get (results_of t at) i ≡ Some old → IsMadeBefore t at new → AreEqual m side_effects t old new → KeepsAllRuns m t (after_replacing t old new)
