-- The laws of a dialect on what folding answers, and on constants.
use Rattle.std.specs.Prelude.{◌≡◌, ℕ, Bool, false, List, [], ◌∷◌, Option, Some, None, length, slice_get, IsTrue}
use Rattle.pliron_core.specs.declared.attrs.AttrObj.{AttrObj}
use Rattle.pliron_core.specs.Tree.{In}
use Rattle.pliron_laws.specs.Datum.{Datum, Empty, datum_of, Head, Shape, Give, Goto, Meaning}
use Rattle.pliron_laws.specs.Acting.{Comes, AgreeWithKnown}
use Rattle.pliron_laws.specs.Laws.{Admitted}

-- for the shape of an operation and the constants that are known of its operands, the constant that
-- is known of each result
abbrev pub Constants : Type 0
Constants = Shape → List (Option AttrObj) → List (Option AttrObj)

-- for the shape of a branch, its successors and the constants that are known of its operands, the
-- blocks that it may go to
abbrev pub Feasible : Type 0
Feasible = Shape → List ℕ → List (Option AttrObj) → List ℕ

-- folding answers once for each result, and where the operation gives results each answered constant
-- is the datum of its result
pub record AnswersTrue (m : Meaning) (can_fold : Head → Bool) (constants : Constants) : Type 0 where
  pub counts : (s : Shape) → Admitted m s → IsTrue (can_fold s.head) → (known : List (Option AttrObj)) → length known ≡ s.operands → length (constants s known) ≡ s.results
  pub gives : (s : Shape) → Admitted m s → IsTrue (can_fold s.head) → (known : List (Option AttrObj)) (first : List Datum) → length first ≡ s.operands → AgreeWithKnown known first → (later : Bool) (memo : Datum) (input ds : List Datum) → Comes m.act s first later memo input → m.act s memo input ≡ Give ds → AgreeWithKnown (constants s known) ds

-- only branches fold as branches, and each jump goes to one of the successors that folding answers
pub record AnswersJumps (m : Meaning) (can_fold_branch : Head → Bool) (feasible : Feasible) : Type 0 where
  pub branches : (s : Shape) → Admitted m s → IsTrue (can_fold_branch s.head) → IsTrue (m.is_branch s.head)
  pub successors : (s : Shape) (targets : List ℕ) → Admitted m s → IsTrue (can_fold_branch s.head) → length targets ≡ s.successors → (known : List (Option AttrObj)) → length known ≡ s.operands → (b : ℕ) → In b (feasible s targets known) → In b targets
  pub goes : (s : Shape) (targets : List ℕ) → Admitted m s → IsTrue (can_fold_branch s.head) → length targets ≡ s.successors → (known : List (Option AttrObj)) (first : List Datum) → length first ≡ s.operands → AgreeWithKnown known first → (later : Bool) (memo : Datum) (input : List Datum) (i b : ℕ) (ds : List Datum) → Comes m.act s first later memo input → m.act s memo input ≡ Goto i ds → slice_get targets i ≡ Some b → In b (feasible s targets known)

-- the shape of an operation that makes a constant
abbrev pub constant_shape : Head → Shape
constant_shape head = record { head = head; operands = 0; results = 1; successors = 0; entry_arguments = []; target_arguments = Some [] }

-- an operation with this head, without operands, regions and successors and with one result, is
-- admitted, is no terminator, and gives the attribute's datum at once
pub record MakesConstant (m : Meaning) (attr : AttrObj) (head : Head) : Type 0 where
  pub admitted : Admitted m (constant_shape head)
  pub no_terminator : m.is_terminator head ≡ false
  pub gives : m.act (constant_shape head) Empty [] ≡ Give (datum_of attr ∷ [])

-- what a dialect makes for each attribute that it accepts makes that constant
abbrev pub MakesConstants : Meaning → (AttrObj → Bool) → (AttrObj → Head) → Type 0
MakesConstants m accepts head = (attr : AttrObj) → IsTrue (accepts attr) → MakesConstant m attr (head attr)

-- more of the operands are known, and the others as before
abbrev pub KnowsMore : List (Option AttrObj) → List (Option AttrObj) → Type 0
KnowsMore [] [] = Unit {0}
KnowsMore [] (b ∷ more) = ⊥
KnowsMore (a ∷ known) [] = ⊥
KnowsMore (None ∷ known) (b ∷ more) = KnowsMore known more
KnowsMore (Some a ∷ known) (b ∷ more) = (b ≡ Some a) × KnowsMore known more

-- knowing more operands keeps each answered constant and adds no block that a branch may go to; no law of a
-- dialect, but what the most precise lattice values rest on
pub record FoldsMonotonely (m : Meaning) (can_fold can_fold_branch : Head → Bool) (constants : Constants) (feasible : Feasible) : Type 0 where
  pub answers : (s : Shape) → Admitted m s → IsTrue (can_fold s.head) → (known more : List (Option AttrObj)) → length known ≡ s.operands → KnowsMore known more → KnowsMore (constants s known) (constants s more)
  pub jumps : (s : Shape) (targets : List ℕ) → Admitted m s → IsTrue (can_fold_branch s.head) → length targets ≡ s.successors → (known more : List (Option AttrObj)) → length known ≡ s.operands → KnowsMore known more → (b : ℕ) → In b (feasible s targets more) → In b (feasible s targets known)
