-- The law of a dialect on folding in place, and the tests that a branch keeps passing.
use Rattle.std.specs.Prelude.{◌≡◌, ℕ, Bool, List, Option, Some, None}
use Rattle.pliron_core.specs.declared.attrs.AttrObj.{AttrObj}
use Rattle.pliron_core.specs.declared.attrs.IRStatus.{IRStatus}
use Rattle.pliron_core.specs.declared.attrs.IRStatus.TheVariants.{Changed, Unchanged}
use Rattle.pliron_core.specs.Tree.{Tree}
use Rattle.pliron_core.specs.Changes.{IsSameTree}
use Rattle.pliron_laws.specs.declared.dialect.Interface.{Interface}
use Rattle.pliron_laws.specs.Datum.{Head, Meaning}
use Rattle.pliron_laws.specs.Tree.{Operation, op_at, shape_of}
use Rattle.pliron_laws.specs.Folding.{Constants}
use Rattle.pliron_laws.specs.Outcomes.{MaterialisesSome, Materialises}
use Rattle.pliron_laws.specs.Replacing.{FoldsBranch}

-- the outcomes of folding an operation under these known constants: the tree before and after, and the answer,
-- which is none on allocation failure
abbrev pub Outcome : Type 1
Outcome = Tree → Tree → ℕ → List (Option AttrObj) → Option IRStatus → Type 0

-- `Changed` says that the tree changed, `Unchanged` that it is as before, but for erased handles; on allocation
-- failure nothing is reported
abbrev pub ReportsChange : Option IRStatus → Tree → Tree → Type 0
ReportsChange None t t' = Unit {0}
ReportsChange (Some Changed) t t' = IsSameTree t t' → ⊥
ReportsChange (Some Unchanged) t t' = IsSameTree t t'

-- the outcome of folding by constants: one is put for each result that is answered and accepted, or, on
-- allocation failure, for none
abbrev pub materialising_outcome : Meaning → Constants → (AttrObj → Bool) → (AttrObj → Head) → Outcome
materialising_outcome m constants accepts head t t' op known None = IsSameTree t t'
materialising_outcome m constants accepts head t t' op known (Some status) = ((o : Operation) → op_at t op ≡ Some o → Materialises accepts head op o.results (constants (shape_of m t o) known) t t') × ReportsChange (Some status) t t'

-- each outcome of a constant fold materialises some of the answered results, each outcome of a branch fold
-- keeps the branch or replaces it, and the answer reports whether the tree changed; on allocation failure such
-- an outcome is left too: constants for some of them, another branch, or the tree as before
pub record FoldsInPlace (m : Meaning) (constants : Constants) (accepts : AttrObj → Bool) (head : AttrObj → Head) (fold branch_fold : Outcome) : Type 0 where
  pub constant : (t t' : Tree) (op : ℕ) (known : List (Option AttrObj)) (answer : Option IRStatus) (o : Operation) → op_at t op ≡ Some o → fold t t' op known answer → MaterialisesSome accepts head op o.results (constants (shape_of m t o) known) t t' × ReportsChange answer t t'
  pub branch : (t t' : Tree) (op : ℕ) (known : List (Option AttrObj)) (answer : Option IRStatus) → branch_fold t t' op known answer → FoldsBranch m op known t t' × ReportsChange answer t t'

-- without allocation failure, folding in place comes to one tree and one answer
abbrev pub IsSingle : Outcome → Type 0
IsSingle outcome = (t t' t'' : Tree) (op : ℕ) (known : List (Option AttrObj)) (o : Operation) (a b : IRStatus) → op_at t op ≡ Some o → outcome t t' op known (Some a) → outcome t t'' op known (Some b) → (t' ≡ t'') × (a ≡ b)

-- two heads pass the same tests of a dialect
pub record PassSameTests {K : Type 0} (m : Meaning) (can_fold can_fold_branch : Head → Bool) (is_of_kind : Head → K → Bool) (has_interface : Head → Interface → Bool) (h h' : Head) : Type 0 where
  pub terminator : m.is_terminator h' ≡ m.is_terminator h
  pub branch : m.is_branch h' ≡ m.is_branch h
  pub folds : can_fold h' ≡ can_fold h
  pub folds_branch : can_fold_branch h' ≡ can_fold_branch h
  pub kinds : (kind : K) → is_of_kind h' kind ≡ is_of_kind h kind
  pub interfaces : (interface : Interface) → has_interface h' interface ≡ has_interface h interface
