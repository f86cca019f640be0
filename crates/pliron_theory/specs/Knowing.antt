-- Constants that are known of values.
use Rattle.std.specs.Prelude.{◌≡◌, ℕ, Bool, Option, Some, None, map, slice_get, IsTrue}
use Rattle.pliron_core.specs.declared.attrs.AttrObj.{AttrObj}
use Rattle.pliron_core.specs.Tree.{Tree, In, IsInside, HoldsBlock, arguments_of}
use Rattle.pliron_core.specs.Invariant.{IsTree}
use Rattle.pliron_laws.specs.Datum.{datum_of, Head, Meaning}
use Rattle.pliron_laws.specs.Tree.{Operation, op_at, shape_of}
use Rattle.pliron_laws.specs.Folding.{Constants}
use Rattle.pliron_theory.specs.Keeps.{IsFit}
use Rattle.pliron_theory.specs.Renaming.{IsReadAs}

-- inside the root nothing is known of arguments, and a constant that is known of a result is what
-- folding its operation answers for it, if the operands have the constants that are known of them
pub record AreClosedUnderFolding (m : Meaning) (can_fold : Head → Bool) (constants : Constants) (t : Tree) (root : ℕ) (facts : ℕ → Option AttrObj) : Type 0 where
  pub arguments : (b v : ℕ) → HoldsBlock t root b → In v (arguments_of t b) → facts v ≡ None
  pub results : (k i v : ℕ) (c : AttrObj) (o : Operation) → IsInside t root k → op_at t k ≡ Some o → slice_get o.results i ≡ Some v → facts v ≡ Some c → IsTrue (can_fold o.head) × (slice_get (constants (shape_of m t o) (map facts o.operands)) i ≡ Some (Some c))

-- what closed lattice values say is what every run of a root that is fit to run reads
abbrev pub FactsLaw : Meaning → (Head → Bool) → Constants → Type 0
FactsLaw m can_fold constants = (t : Tree) (root : ℕ) (facts : ℕ → Option AttrObj) → IsTree t → IsFit m t root → AreClosedUnderFolding m can_fold constants t root facts → (v : ℕ) (c : AttrObj) → facts v ≡ Some c → IsReadAs m t v (datum_of c) root
