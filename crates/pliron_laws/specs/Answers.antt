-- What the answers of a dialect may read.
use Rattle.std.specs.Prelude.{◌≡◌, ◌<◌, ℕ, Bool, nat_eq, false, true, List, Option, Some, None, slice_get, slice_set, length, map, IsTrue}
use Rattle.std.specs.Option.{option_map}
use Rattle.pliron_core.specs.declared.attrs.AttrObj.{AttrObj}
use Rattle.pliron_core.specs.Tree.{Tree, head_of, row_of, operands_of, results_of, successors_of, regions_of, arguments_of, block_parent_of, slot_of, layout_of, first_of}
use Rattle.pliron_core.specs.Writes.{operand_removed, after_creating}
use Rattle.pliron_laws.specs.Datum.{Head, Shape, Meaning}
use Rattle.pliron_laws.specs.Tree.{Operation, op_at, shape_of}
use Rattle.pliron_laws.specs.Acting.{pick}

-- the answer is read off the head of the operation
abbrev pub ReadsHead : {A : Type 0} → (Head → A) → Tree → ℕ → A → Type 0
ReadsHead f t op a = (h : Head) → head_of t op ≡ Some h → a ≡ f h

-- the answer is read off the head of the operation, and how many operands, results, successors and
-- regions it has
abbrev pub ReadsCounts : {A : Type 0} → (Head → ℕ → ℕ → ℕ → ℕ → A) → Tree → ℕ → A → Type 0
ReadsCounts f t op a = (h : Head) → head_of t op ≡ Some h → a ≡ f h (length (operands_of t op)) (length (results_of t op)) (length (successors_of t op)) (length (regions_of t op))

-- the answer is read off the shape of the operation
abbrev pub ReadsShape : {A : Type 0} → Meaning → (Shape → A) → Tree → ℕ → A → Type 0
ReadsShape m f t op a = (o : Operation) → op_at t op ≡ Some o → a ≡ f (shape_of m t o)

-- the answer is read off the shape of the operation and its successors
abbrev pub ReadsEdges : {A : Type 0} → Meaning → (Shape → List ℕ → A) → Tree → ℕ → A → Type 0
ReadsEdges m f t op a = (o : Operation) → op_at t op ≡ Some o → a ≡ f (shape_of m t o) o.successors

abbrev pub is_first : ℕ → Option ℕ → Bool
is_first block None = false
is_first block (Some entry) = nat_eq block entry

-- whether the block is the entry of the region
abbrev pub is_entry : Tree → ℕ → ℕ → Bool
is_entry t region block = is_first block (first_of (layout_of t region) None)

-- the answer is read off the head of the operation, the index of the region that has the block, and
-- whether the block is the entry of that region
abbrev pub ReadsPlace : {A : Type 0} → (Head → ℕ → Bool → A) → Tree → (op block : ℕ) → A → Type 0
ReadsPlace f t op block a = (h : Head) (r i : ℕ) → head_of t op ≡ Some h → block_parent_of t block ≡ Some r → slot_of t r ≡ Some (record { op = op; index = i }) → a ≡ f h i (is_entry t r block)

-- the operation has a region with this index, whose entry has an argument with that one
pub record HasEntryArgument (t : Tree) (op region argument : ℕ) : Type 0 where
  pub key : ℕ
  pub entry : ℕ
  pub in_place : slice_get (regions_of t op) region ≡ Some key
  pub first : first_of (layout_of t key) None ≡ Some entry
  pub there : argument < length (arguments_of t entry)

-- whether there is a head and it passes the test
abbrev pub has_passing_head : (Head → Bool) → Option Head → Bool
has_passing_head test None = false
has_passing_head test (Some h) = test h

-- the head of the operation passes the test
abbrev pub HeadPasses : (Head → Bool) → Tree → ℕ → Type 0
HeadPasses f t op = (h : Head) → head_of t op ≡ Some h → IsTrue (f h)

-- these are the operands that the branch forwards along the edge with this index
abbrev pub AreForwarded : Meaning → Tree → (op i : ℕ) → List ℕ → Type 0
AreForwarded m t op i values = (o : Operation) → op_at t op ≡ Some o → map Some values ≡ pick (m.forwarded (shape_of m t o) i) o.operands

-- this is the operand that the branch forwards at place j of the edge with index i, if there is such a
-- place
abbrev pub IsForwardedAt : Meaning → Tree → (op i j : ℕ) → Option ℕ → Type 0
IsForwardedAt m t op i j value = (o : Operation) → op_at t op ≡ Some o → option_map Some value ≡ slice_get (pick (m.forwarded (shape_of m t o) i) o.operands) j

-- the branch forwards its operand at this place at place j of the edge with index i, and nowhere else
pub record IsForwardedOnce (m : Meaning) (t : Tree) (op place i j : ℕ) : Type 0 where
  pub edge : i < length (successors_of t op)
  pub there : (o : Operation) → op_at t op ≡ Some o → slice_get (m.forwarded (shape_of m t o) i) j ≡ Some place
  pub alone : (o : Operation) → op_at t op ≡ Some o → (k l : ℕ) → k < length o.successors → slice_get (m.forwarded (shape_of m t o) k) l ≡ Some place → (k ≡ i) × (l ≡ j)

-- the edge with index i of the branch has a place j
abbrev pub HasPlace : Meaning → Tree → (op i j : ℕ) → Type 0
HasPlace m t op i j = (o : Operation) → op_at t op ≡ Some o → (p : ℕ) × (slice_get (m.forwarded (shape_of m t o) i) j ≡ Some p) × (p < length o.operands)

abbrev pub with_head : Tree → ℕ → Head → Tree
with_head t op head = record t { operations = slice_set t.operations op (record (row_of t op) { head = Some head }) }

-- the branch lost the operand v, which was at place j of the edge with index i
abbrev pub LosesForwarded : Meaning → (Shape → ℕ → ℕ → Head) → (t t' : Tree) → (op i j v : ℕ) → Type 0
LosesForwarded m shortened t t' op i j v = (o : Operation) (p : ℕ) → op_at t op ≡ Some o → slice_get (m.forwarded (shape_of m t o) i) j ≡ Some p → (slice_get o.operands p ≡ Some v) × (t' ≡ with_head (operand_removed t op p) op (shortened (shape_of m t o) i j))

-- an operation with the head of such a constant and one result was made, and is in no block, where the dialect
-- accepts the attribute; nothing was made where it does not
abbrev pub IsMaterialised : (AttrObj → Bool) → (AttrObj → Head) → AttrObj → (t t' : Tree) → Option ℕ → Type 0
IsMaterialised accepts head attr t t' None = (accepts attr ≡ false) × (t' ≡ t)
IsMaterialised accepts head attr t t' (Some op) = IsTrue (accepts attr) × (op ≡ length t.operations) × (t' ≡ after_creating t (head attr) 1 0)

-- whether the answer is that there are no side effects
abbrev pub is_harmless : Option Bool → Bool
is_harmless None = false
is_harmless (Some true) = false
is_harmless (Some false) = true

-- an answer for one result, where there is one for it
abbrev pub answer_in : {A : Type 0} → Option (Option A) → Option A
answer_in None = None
answer_in (Some a) = a
