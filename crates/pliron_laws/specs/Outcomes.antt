-- What folding an operation in place as a constant makes of a tree.
use Rattle.std.specs.Prelude.{◌≡◌, ℕ, Bool, false, List, [], ◌∷◌, Option, Some, None, length, slice_get, IsTrue}
use Rattle.pliron_core.specs.declared.attrs.AttrObj.{AttrObj}
use Rattle.pliron_core.specs.declared.rewriter.OpInsertionPoint.{OpInsertionPoint}
use Rattle.pliron_core.specs.Tree.{Tree, IsDefined, parent_of}
use Rattle.pliron_core.specs.Insertion.{after_inserting}
use Rattle.pliron_core.specs.Invariant.{IsTree}
use Rattle.pliron_core.specs.Writes.{after_creating, after_replacing, put_next_to}
use Rattle.pliron_core.specs.Changes.{IsSameTree}
use Rattle.pliron_laws.specs.Datum.{Head}

-- the handle of the next operation, and that of the next value
abbrev pub next_op : Tree → ℕ
next_op t = length t.operations

abbrev pub next_value : Tree → ℕ
next_value t = length t.definitions

-- a new operation with this head and one result is just before op, and has all uses of the value
abbrev pub after_materialising : Tree → ℕ → ℕ → Head → Tree
after_materialising t op v head = after_replacing (put_next_to (after_creating t head 1 0) (next_op t) op (parent_of t op)) v (next_value t)

-- for some of the answered results, a constant for the answer is put just before op and has the uses of
-- the result; `head` is that of a constant for each attribute which the dialect accepts
pub data MaterialisesSome (accepts : AttrObj → Bool) (head : AttrObj → Head) (op : ℕ) (results : List ℕ) (answers : List (Option AttrObj)) : Tree → Tree → Type 0 where
  Rest : {t t' : Tree} → IsSameTree t t' → MaterialisesSome accepts head op results answers t t'
  Then : {t t' : Tree} (i v : ℕ) (attr : AttrObj) → slice_get results i ≡ Some v → slice_get answers i ≡ Some (Some attr) → IsTrue (accepts attr) → MaterialisesSome accepts head op results answers (after_materialising t op v (head attr)) t' → MaterialisesSome accepts head op results answers t t'

-- constants are put just before op for these results in order, for each that is answered by an
-- attribute which the dialect accepts, until there is no result left or no answer
pub data Materialises (accepts : AttrObj → Bool) (head : AttrObj → Head) (op : ℕ) : List ℕ → List (Option AttrObj) → Tree → Tree → Type 0 where
  Finished : {answers : List (Option AttrObj)} {t : Tree} → Materialises accepts head op [] answers t t
  Unanswered : {vs : List ℕ} {t : Tree} → Materialises accepts head op vs [] t t
  Unknown : {v : ℕ} {vs : List ℕ} {answers : List (Option AttrObj)} {t t' : Tree} → Materialises accepts head op vs answers t t' → Materialises accepts head op (v ∷ vs) (None ∷ answers) t t'
  PassedOver : {v : ℕ} {vs : List ℕ} {attr : AttrObj} {answers : List (Option AttrObj)} {t t' : Tree} → accepts attr ≡ false → Materialises accepts head op vs answers t t' → Materialises accepts head op (v ∷ vs) (Some attr ∷ answers) t t'
  Put : {v : ℕ} {vs : List ℕ} {attr : AttrObj} {answers : List (Option AttrObj)} {t t' : Tree} → IsTrue (accepts attr) → Materialises accepts head op vs answers (after_materialising t op v (head attr)) t' → Materialises accepts head op (v ∷ vs) (Some attr ∷ answers) t t'

-- a new operation with this head and one result is at a rewriter's insertion point, and has all uses of the
-- value
abbrev pub materialised_at : Tree → OpInsertionPoint → ℕ → Head → Tree
materialised_at t point v head = after_replacing (after_inserting (after_creating t head 1 0) point (next_op t)) v (next_value t)

-- c was just made in t for a constant
pub record IsMadeConstant (t now : Tree) (c : ℕ) (head : Head) : Type 0 where
  pub tree : IsTree t
  pub made : now ≡ after_creating t head 1 0
  pub key : c ≡ length t.operations

-- c was just made in t for a constant, and the value is live there
pub record IsFreshConstant (t now : Tree) (c v : ℕ) (head : Head) : Type 0 where
  pub tree : IsTree t
  pub made : now ≡ after_creating t head 1 0
  pub key : c ≡ length t.operations
  pub value : IsDefined t v
