-- Constants that folding answers where no operand is known.
use Rattle.std.specs.Prelude.{◌≡◌, ℕ, Bool, Some, None, IsTrue, slice_get, length, replicate}
use Rattle.pliron_core.specs.declared.attrs.AttrObj.{AttrObj}
use Rattle.pliron_core.specs.Tree.{Tree}
use Rattle.pliron_core.specs.Invariant.{IsTree}
use Rattle.pliron_laws.specs.Datum.{datum_of, Head, Meaning}
use Rattle.pliron_laws.specs.Tree.{Operation, op_at, shape_of}
use Rattle.pliron_laws.specs.Folding.{Constants}
use Rattle.pliron_theory.specs.Keeps.{IsFit}
use Rattle.pliron_theory.specs.Renaming.{IsReadAs}

-- an operation folds, and answers the constant for its result v although nothing is known of its operands
pub record IsAnswered (m : Meaning) (can_fold : Head → Bool) (constants : Constants) (t : Tree) (v : ℕ) (c : AttrObj) : Type 0 where
  pub maker : ℕ
  pub index : ℕ
  pub operation : Operation
  pub liveness : op_at t maker ≡ Some operation
  pub result : slice_get operation.results index ≡ Some v
  pub folds : IsTrue (can_fold operation.head)
  pub answers : slice_get (constants (shape_of m t operation) (replicate (length operation.operands) None)) index ≡ Some (Some c)

-- such a value is read as that constant by every run of a root that is fit to run
abbrev pub AnsweredLaw : Meaning → (Head → Bool) → Constants → Type 0
AnsweredLaw m can_fold constants = (t : Tree) (root v : ℕ) (c : AttrObj) → IsTree t → IsFit m t root → IsAnswered m can_fold constants t v c → IsReadAs m t v (datum_of c) root
