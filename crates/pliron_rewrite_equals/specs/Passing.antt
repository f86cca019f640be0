-- Operations that give one of their operands.
use Rattle.std.specs.Prelude.{◌≡◌, ℕ, Bool, List, [], Option, Some, length, slice_get}
use Rattle.pliron_core.specs.declared.attrs.AttrObj.{AttrObj}
use Rattle.pliron_core.specs.Tree.{Tree, operands_of, successors_of, results_of}
use Rattle.pliron_core.specs.Invariant.{IsTree}
use Rattle.pliron_core.specs.Writes.{after_replacing}
use Rattle.pliron_laws.specs.Datum.{Datum, datum_of, Shape, Meaning, Give}
use Rattle.pliron_laws.specs.Tree.{Operation, op_at, shape_of}
use Rattle.pliron_laws.specs.Acting.{Comes, AgreeWithKnown}
use Rattle.pliron_theory.specs.Keeps.{KeepsRuns}
use Rattle.pliron_theory.specs.Renaming.{GivesConstant}

-- where its operands are these constants and it gives, its result at i is its operand at p
abbrev pub PassesOperand : Meaning → Shape → List (Option AttrObj) → (i p : ℕ) → Type 0
PassesOperand m s known i p = (first : List Datum) → length first ≡ s.operands → AgreeWithKnown known first → (later : Bool) (memo : Datum) (input ds : List Datum) → Comes m.act s first later memo input → m.act s memo input ≡ Give ds → slice_get ds i ≡ slice_get first p

-- what is known of the operands is what operations define that give constants
abbrev pub KnownByMakers : Meaning → Tree → List (Option AttrObj) → List ℕ → Type 0
KnownByMakers m t known operands = (p v : ℕ) (c : AttrObj) → slice_get operands p ≡ Some v → slice_get known p ≡ Some (Some c) → (n : ℕ) × GivesConstant m t n v (datum_of c)

-- the uses of such a result may become uses of the operand
abbrev pub PassingLaw : Type 0
PassingLaw = (m : Meaning) (t : Tree) (k i p old v : ℕ) (known : List (Option AttrObj)) → IsTree t → successors_of t k ≡ [] → slice_get (results_of t k) i ≡ Some old → slice_get (operands_of t k) p ≡ Some v → length known ≡ length (operands_of t k) → KnownByMakers m t known (operands_of t k) → ((o : Operation) → op_at t k ≡ Some o → PassesOperand m (shape_of m t o) known i p) → KeepsRuns m t (after_replacing t old v)
