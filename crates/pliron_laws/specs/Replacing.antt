-- What folding a branch in place makes of a tree.
use Rattle.std.specs.Prelude.{◌≡◌, ℕ, List, [], Option, Some, None, length, slice_get, slice_set, map, IsTrue}
use Rattle.pliron_core.specs.declared.attrs.AttrObj.{AttrObj}
use Rattle.pliron_core.specs.Tree.{Tree, parent_of}
use Rattle.pliron_core.specs.Writes.{after_creating, put_next_to}
use Rattle.pliron_core.specs.Erased.{after_erasing}
use Rattle.pliron_core.specs.Changes.{IsSameTree}
use Rattle.pliron_laws.specs.Datum.{Datum, Head, Shape, Meaning}
use Rattle.pliron_laws.specs.Tree.{Operation, op_at, shape_of}
use Rattle.pliron_laws.specs.Acting.{ActAlike, PassesSame, AgreeWithKnown, pick}
use Rattle.pliron_laws.specs.Laws.{Admitted}
use Rattle.pliron_laws.specs.Outcomes.{next_op}

-- the shape of a branch
abbrev pub branch_shape : Head → ℕ → ℕ → Shape
branch_shape head operands successors = record { head = head; operands = operands; results = 0; successors = successors; entry_arguments = []; target_arguments = None }

-- the same jump: to the same block, with the same values
abbrev pub JumpsTo : List ℕ → List ℕ → ℕ → List Datum → ℕ → List Datum → Type 0
JumpsTo targets targets' i ds j es = (slice_get targets' j ≡ slice_get targets i) × (es ≡ ds)

-- the branch s with these targets, under the known constants, and one with this head: its operands are
-- those at `places`, its edges are those at `edges`, and it acts alike
pub record ReplacesBranch (m : Meaning) (s : Shape) (targets targets' : List ℕ) (known : List (Option AttrObj)) (head : Head) (places edges : List ℕ) : Type 0 where
  pub branch : IsTrue (m.is_branch head)
  pub admitted : Admitted m (branch_shape head (length places) (length edges))
  pub targets_kept : map Some targets' ≡ pick edges targets
  pub values_kept : (k e : ℕ) → slice_get edges k ≡ Some e → pick (m.forwarded (branch_shape head (length places) (length edges)) k) places ≡ map Some (m.forwarded s e)
  pub alike : (first first' : List Datum) → length first ≡ s.operands → AgreeWithKnown known first → map Some first' ≡ pick places first → ActAlike m.act PassesSame (JumpsTo targets targets') s (branch_shape head (length places) (length edges)) first first'

-- the operation has these operands and successors
abbrev pub with_edges : Tree → ℕ → List ℕ → List ℕ → Tree
with_edges t op operands successors = record t { operands = slice_set t.operands op operands; successors = slice_set t.successors op successors }

-- a new operation with this head, these operands and these successors is in the place of op
abbrev pub branch_replaced : Tree → ℕ → Head → List ℕ → List ℕ → Tree
branch_replaced t op head operands successors = after_erasing (put_next_to (with_edges (after_creating t head 0 0) (next_op t) operands successors) (next_op t) op (parent_of t op)) op

-- the branch op is as it was, in the same tree but for erased handles, or another one is in its place
pub data FoldsBranch (m : Meaning) (op : ℕ) (known : List (Option AttrObj)) (t : Tree) : Tree → Type 0 where
  Kept : {t' : Tree} → IsSameTree t t' → FoldsBranch m op known t t'
  Replaced : (o : Operation) (head : Head) (operands successors places edges : List ℕ) → op_at t op ≡ Some o → map Some operands ≡ pick places o.operands → ReplacesBranch m (shape_of m t o) o.successors successors known head places edges → FoldsBranch m op known t (branch_replaced t op head operands successors)
