-- Trees in which branches were folded.
pub use Rattle.pliron_laws.specs.Answers.{has_passing_head}
use Rattle.std.specs.Prelude.{ℕ, Bool, true, false, List, [], ◌∷◌, Option, Some, None, filter, map, replicate, slice_get, length}
use Rattle.pliron_core.specs.declared.attrs.AttrObj.{AttrObj}
use Rattle.pliron_core.specs.declared.attrs.IRStatus.{IRStatus}
use Rattle.pliron_core.specs.declared.attrs.IRStatus.TheVariants.{Unchanged}
use Rattle.pliron_core.specs.declared.context.Def.{Def}
use Rattle.pliron_core.specs.declared.context.Def.TheVariants.{Result, Argument}
use Rattle.pliron_core.specs.Status.{changed_by_either}
use Rattle.pliron_core.specs.Tree.{Tree, head_of, operands_of, definition_of}
use Rattle.pliron_core.specs.Walks.{contents}
use Rattle.pliron_laws.specs.Datum.{Head, Meaning}
use Rattle.pliron_laws.specs.Tree.{Operation, op_at, shape_of}
use Rattle.pliron_laws.specs.Folding.{Constants}
use Rattle.pliron_laws.specs.InPlace.{Outcome}

-- the operations inside the root that fold as branches, in pre-order
abbrev pub branches_of : (Head → Bool) → Tree → ℕ → List ℕ
branches_of can_fold_branch t root = filter (λ k. has_passing_head can_fold_branch (head_of t k)) (contents t root)

-- the operation alone, where it folds as a branch
abbrev pub branch_at : (Head → Bool) → Tree → ℕ → List ℕ
branch_at can_fold_branch t op = filter (λ k. has_passing_head can_fold_branch (head_of t k)) (op ∷ [])

-- what is answered for one result, where there is an answer for it
abbrev pub one_answer : Option (Option AttrObj) → Option AttrObj
one_answer None = None
one_answer (Some a) = a

-- what folding the operation answers for its result at this index, where no operand is known
abbrev pub answered_for : Meaning → Constants → Tree → Option Operation → ℕ → Option AttrObj
answered_for m constants t None i = None
answered_for m constants t (Some o) i = one_answer (slice_get (constants (shape_of m t o) (replicate (length o.operands) None)) i)

abbrev pub answered_if : Bool → Meaning → Constants → Tree → Option Operation → ℕ → Option AttrObj
answered_if false m constants t o i = None
answered_if true m constants t o i = answered_for m constants t o i

-- the constant that is known of a value with this definition: what defines it folds, and answers it with no
-- operand known
abbrev pub known_of : Meaning → (Head → Bool) → Constants → Tree → Option Def → Option AttrObj
known_of m can_fold constants t None = None
known_of m can_fold constants t (Some (Argument block i)) = None
known_of m can_fold constants t (Some (Result k i)) = answered_if (has_passing_head can_fold (head_of t k)) m constants t (op_at t k) i

-- the constants that are known of an operation's operands
abbrev pub known_operands : Meaning → (Head → Bool) → Constants → Tree → ℕ → List (Option AttrObj)
known_operands m can_fold constants t op = map (λ v. known_of m can_fold constants t (definition_of t v)) (operands_of t op)

-- these branches were folded one after the other, each by what is known of its operands
pub data FoldsAll (m : Meaning) (can_fold : Head → Bool) (constants : Constants) (outcome : Outcome) : List ℕ → (t t' : Tree) → IRStatus → Type 0 where
  NoMore : {t : Tree} → FoldsAll m can_fold constants outcome [] t t Unchanged
  Next : {t u t' : Tree} {ops : List ℕ} {rest : IRStatus} (op : ℕ) (first : IRStatus) → outcome t u op (known_operands m can_fold constants t op) (Some first) → FoldsAll m can_fold constants outcome ops u t' rest → FoldsAll m can_fold constants outcome (op ∷ ops) t t' (changed_by_either first rest)

-- a first part of them was folded, each wholly, until allocation failed; where that was in a fold, it left what
-- the dialect says that it may leave: another branch in its place, or the tree as before
pub data FoldsSome (m : Meaning) (can_fold : Head → Bool) (constants : Constants) (outcome : Outcome) : List ℕ → (t t' : Tree) → Type 0 where
  Stopped : {t : Tree} {ops : List ℕ} → FoldsSome m can_fold constants outcome ops t t
  Refused : {t t' : Tree} {ops : List ℕ} (op : ℕ) → outcome t t' op (known_operands m can_fold constants t op) None → FoldsSome m can_fold constants outcome (op ∷ ops) t t'
  After : {t u t' : Tree} {ops : List ℕ} (op : ℕ) (first : IRStatus) → outcome t u op (known_operands m can_fold constants t op) (Some first) → FoldsSome m can_fold constants outcome ops u t' → FoldsSome m can_fold constants outcome (op ∷ ops) t t'
