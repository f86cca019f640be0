-- What folding in place comes to, by roles, and that it keeps the law.
use Rattle.std.proofs.Common.{◌≡◌, ℕ, ◌<◌, Bool, true, false, ◌&&◌, IsTrue, nat_eq, nat_lt, if◌then◌else◌, List, [], ◌∷◌, ◌++◌, Option, Some, None, IsSome, length, length-append, slice_get, map, refl, ap, sym, ◌∙◌, subst, arith}
use Rattle.std.proofs.lemmas.Option.{same_Some}
use Rattle.std.specs.Prelude.{ℤ}
use Rattle.pliron_core.specs.declared.attrs.AttrObj.{AttrObj}
use Rattle.pliron_core.specs.declared.attrs.IRStatus.{IRStatus}
use Rattle.pliron_core.specs.declared.attrs.IRStatus.TheVariants.{Changed, Unchanged}
use Rattle.pliron_core.specs.Tree.{Tree, no_entry, row_of, head_of, operands_of, successors_of, arguments_of, parent_of}
use Rattle.pliron_core.specs.Writes.{after_creating, put_next_to, taken_from, taken_out}
use Rattle.pliron_core.specs.Erased.{after_erasing, is_met_above}
use Rattle.pliron_core.specs.Changes.{IsSameTree}
use Rattle.pliron_core.proofs.SameTreeLemmas.{same_refl}
use Rattle.pliron_core.proofs.HoldingLemmas.{past_live}
use Rattle.pliron_core.proofs.ClearedLemmas.{met_itself}
use Rattle.pliron_core.proofs.BlankLemmas.{blanked_gone}
use Rattle.pliron_laws.specs.Datum.{Head, Shape}
use Rattle.pliron_laws.specs.Tree.{Operation, op_at, op_with, shape_of}
use Rattle.pliron_laws.specs.Acting.{pick}
use Rattle.pliron_laws.specs.Outcomes.{next_op, MaterialisesSome}
use Rattle.pliron_laws.specs.Outcomes.MaterialisesSome.{Rest}
use Rattle.pliron_laws.specs.OutcomeLaws.{folds_by_constants}
use Rattle.pliron_laws.specs.Replacing.{FoldsBranch, branch_replaced, with_edges}
use Rattle.pliron_laws.specs.Replacing.FoldsBranch.{Kept, Replaced}
use Rattle.pliron_laws.specs.InPlace.{Outcome, FoldsInPlace, ReportsChange, materialising_outcome}
use Rattle.pliron_dialect.specs.declared.form.Form.{Form}
use Rattle.pliron_dialect.specs.declared.form.Form.TheVariants.{Constant as ConstantForm}
use Rattle.pliron_dialect.specs.Counted.{edge_range, uncapped}
use Rattle.pliron_dialect.specs.BranchLaws.{is_choice}
use Rattle.pliron_dialect.specs.Roles.{Interpretation, Role, Tables, role_at, by_form, no_places, places_by_form, Allows, constant_head_of, head_of_kind, Jumps, Chooses, chosen_edge, edge_counts_of, by_role, takes_by, meaning_by, form_at, constants_by, known_number_at, places_by}
use Rattle.pliron_dialect.specs.Parts.{Admits, both_parts}
use Rattle.pliron_dialect.specs.declared.form.Counting.{Counting}
use Rattle.pliron_dialect.specs.Replacing.{becomes_jump}

abbrev pub form_of_head : (ℕ → Option Role) → Option Head → Option Form
form_of_head roles None = None
form_of_head roles (Some h) = form_at roles h.kind

-- a constant stays as it is, for all else constants with this number are put
abbrev pub fold_of : Interpretation → (ℕ → Option Role) → Allows → (AttrObj → Bool) → ℕ → Bool → Option Form → Outcome
fold_of value roles allows accepts n ssa (Some ConstantForm) t t' op known answer = (t' ≡ t) × (answer ≡ Some Unchanged)
fold_of value roles allows accepts n ssa _ t t' op known answer = materialising_outcome (meaning_by value roles allows) (constants_by roles) accepts (constant_head_of n ssa) t t' op known answer

unfoldable pub outcome_by : Interpretation → (ℕ → Option Role) → Allows → (AttrObj → Bool) → ℕ → Bool → Outcome
outcome_by value roles allows accepts n ssa t t' op known answer = fold_of value roles allows accepts n ssa (form_of_head roles (head_of t op)) t t' op known answer

-- an index that is there
abbrev pub index_below : ℕ → Option ℕ → Option ℕ
index_below n None = None
index_below n (Some i) = if nat_lt i n then Some i else None

-- the edge that is known to be taken: that of an admitted branch by a known number, where the table has an edge for it
abbrev pub edge_of_role : Shape → Bool → Option ℤ → Option Role → Option ℕ
edge_of_role s true (Some c) (Some (Chooses counting choose)) = index_below s.successors (chosen_edge counting choose s c)
edge_of_role s _ _ _ = None

abbrev pub admits_shape : (ℕ → Option Role) → Allows → Shape → Bool
admits_shape roles allows s = by_role false (takes_by s.head s.operands s.results s.successors (length s.entry_arguments)) (roles s.head.kind) && allows s.head s.operands s.results s.successors (length s.entry_arguments)

abbrev pub edge_under : (ℕ → Option Role) → Allows → Shape → List (Option AttrObj) → Option ℕ
edge_under roles allows s known = edge_of_role s (admits_shape roles allows s) (known_number_at known 0) (roles s.head.kind)

-- a jump, with this number, to the target of this edge, with the values that the edge forwards, takes the place of op
pub record BecomesJump (value : Interpretation) (roles : ℕ → Option Role) (allows : Allows) (n : ℕ) (ssa : Bool) (t t' : Tree) (op : ℕ) (o : Operation) (edge : ℕ) : Type 0 where
  pub block : ℕ
  pub values : List ℕ
  pub target : slice_get o.successors edge ≡ Some block
  pub forwarded : map Some values ≡ pick ((meaning_by value roles allows).forwarded (shape_of (meaning_by value roles allows) t o) edge) o.operands
  pub tree : t' ≡ branch_replaced t op (head_of_kind n ssa) values (block ∷ [])

-- where memory was refused the tree is as before, but for erased handles; else the branch stays, or becomes a jump
-- where its edge is known
abbrev pub JumpsWhereKnown : Interpretation → (ℕ → Option Role) → Allows → ℕ → Bool → Option ℕ → Tree → Tree → ℕ → Operation → Option IRStatus → Type 0
JumpsWhereKnown value roles allows n ssa edge t t' op o None = IsSameTree t t'
JumpsWhereKnown value roles allows n ssa None t t' op o (Some status) = (t' ≡ t) × (status ≡ Unchanged)
JumpsWhereKnown value roles allows n ssa (Some edge) t t' op o (Some status) = BecomesJump value roles allows n ssa t t' op o edge × (status ≡ Changed)

unfoldable pub branch_outcome_by : Interpretation → (ℕ → Option Role) → Allows → ℕ → Bool → Outcome
branch_outcome_by value roles allows n ssa t t' op known answer = (o : Operation) × (op_at t op ≡ Some o) × JumpsWhereKnown value roles allows n ssa (edge_under roles allows (shape_of (meaning_by value roles allows) t o) known) t t' op o answer

-- the places of the operands that this edge of an operation forwards
abbrev pub places_of_edge : (ℕ → Option Role) → Tree → ℕ → Head → ℕ → List ℕ
places_of_edge roles t op h i = by_form no_places places_by_form (form_at roles h.kind) h.attrs (length (operands_of t op)) (length (successors_of t op)) i

-- each edge of an operation forwards as many values as its target has arguments
abbrev pub AllFit : (ℕ → Option Role) → Tree → ℕ → Type 0
AllFit roles t op = (h : Head) (i b : ℕ) → head_of t op ≡ Some h → slice_get (successors_of t op) i ≡ Some b → length (places_of_edge roles t op h i) ≡ length (arguments_of t b)

-- so it is of a branch that is checked
abbrev pub EdgesFit : {K : Type 0} → Tables K → Tree → ℕ → Type 0
EdgesFit {K} tables t op = (h : Head) (k : K) → head_of t op ≡ Some h → tables.kind_of h.kind ≡ Some k → IsTrue (tables.checks_edges k) → AllFit (role_at tables) t op

-- ---- trees

same_tree : (t u : Tree) → u ≡ t → IsSameTree t u
same_tree t u e = subst (IsSameTree t) (sym e) (same_refl t)

put_rows : (t : Tree) (c at : ℕ) (o : Option ℕ) → (put_next_to t c at o).operations ≡ t.operations
put_rows t c at None = refl
put_rows t c at (Some b) = refl

taken_rows : (t : Tree) (op : ℕ) (o : Option ℕ) → (taken_from t op o).operations ≡ t.operations
taken_rows t op None = refl
taken_rows t op (Some b) = refl

-- what is erased has no row
deleted : (t : Tree) (op : ℕ) → op < length t.operations → row_of (after_erasing t op) op ≡ no_entry
deleted t op lt = blanked_gone (λ k. is_met_above (taken_out t op) (nat_eq op) (Some k)) no_entry (taken_out t op).operations op (met_itself (taken_out t op) op (subst (λ z. op < length z) (sym (taken_rows t op (parent_of t op))) lt))

longer : {A : Type 0} (xs : List A) (y : A) (k : ℕ) → k < length xs → k < length (xs ++ y ∷ [])
longer xs y k lt = omega (arith, length-append xs (y ∷ []), lt)

-- the branch that was replaced is erased
replaced_gone : (t : Tree) (op : ℕ) (head : Head) (operands successors : List ℕ) → op < length t.operations → row_of (branch_replaced t op head operands successors) op ≡ no_entry
replaced_gone t op head operands successors lt =
    deleted (put_next_to (with_edges (after_creating t head 0 0) (next_op t) operands successors) (next_op t) op (parent_of t op)) op
    (subst (λ z. op < length z) (sym (put_rows (with_edges (after_creating t head 0 0) (next_op t) operands successors) (next_op t) op (parent_of t op))) (longer t.operations _ op lt))

head_with : (t : Tree) (k : ℕ) (o : Operation) (h : Option Head) → op_with t k h ≡ Some o → h ≡ Some o.head
head_with t k o None e = grind arith
head_with t k o (Some h) e = ap Some (ap (λ z. z.head) (same_Some _ o e))

head_at : (t : Tree) (k : ℕ) (o : Operation) → op_at t k ≡ Some o → head_of t k ≡ Some o.head
unfolding op_at
head_at t k o e = head_with t k o (head_of t k) e

liveness : (t : Tree) (k : ℕ) (h : Head) → head_of t k ≡ Some h → k < length t.operations
liveness t k h e = past_live t k (subst IsSome (sym e) refl)

differs : (t t' : Tree) (op : ℕ) (h : Head) → head_of t op ≡ Some h → row_of t' op ≡ no_entry → IsSameTree t t' → ⊥
differs t t' op h e f s = let none : None ≡ Some h = ap (λ z. z.head) (sym f ∙ s.operations op) ∙ e in grind arith

-- ---- the law

bounded_is : (n e : ℕ) (o : Option ℕ) → index_below n o ≡ Some e → o ≡ Some e
bounded_is n e None f = grind arith
bounded_is n e (Some i) f = within (nat_lt i n) f
  where
    within : (b : Bool) → (if b then Some i else None) ≡ Some e → Some i ≡ Some e
    within true g = g
    within false g = grind arith

module _ (value : Interpretation) (roles : ℕ → Option Role) (allows : Allows) (accepts : AttrObj → Bool) (n : ℕ) (ssa : Bool) (m : ℕ) (jump_ssa : Bool) (jumps : roles m ≡ Some Jumps) (allowed : (k : ℕ) → IsTrue (allows (head_of_kind m jump_ssa) k 0 1 0)) where
  constant_within : (k : Option Form) (t t' : Tree) (op : ℕ) (known : List (Option AttrObj)) (answer : Option IRStatus) (o : Operation) → op_at t op ≡ Some o → fold_of value roles allows accepts n ssa k t t' op known answer → MaterialisesSome accepts (constant_head_of n ssa) op o.results (constants_by roles (shape_of (meaning_by value roles allows) t o) known) t t' × ReportsChange answer t t'
  constant_within (Some ConstantForm) t t' op known answer o at h = (Rest (same_tree t t' h.0), subst (λ a. ReportsChange a t t') (sym h.1) (same_tree t t' h.0))
  constant_within _ t t' op known answer o at h = folds_by_constants (meaning_by value roles allows) (constants_by roles) accepts (constant_head_of n ssa) t t' op known answer o at h

  places_same : (s : Shape) (counting : Counting) (choose : ℕ → List AttrObj → ℤ → Option ℕ) (e : ℕ) → roles s.head.kind ≡ Some (Chooses counting choose) → Admits (Some (Chooses counting choose)) s → (meaning_by value roles allows).forwarded s e ≡ edge_range (edge_counts_of counting s) e
  unfolding meaning_by
  places_same s counting choose e f h = ap (by_role [] (places_by s e)) f ∙ uncapped s.operands (edge_counts_of counting s) e (is_choice counting choose s.head s.operands s.results s.successors (length s.entry_arguments) h).operands

  jump_within : (t t' : Tree) (op : ℕ) (known : List (Option AttrObj)) (o : Operation) (counting : Counting) (choose : ℕ → List AttrObj → ℤ → Option ℕ) (c : ℤ) (e : ℕ) → op_at t op ≡ Some o → roles (shape_of (meaning_by value roles allows) t o).head.kind ≡ Some (Chooses counting choose) → Admits (Some (Chooses counting choose)) (shape_of (meaning_by value roles allows) t o) → known_number_at known 0 ≡ Some c → chosen_edge counting choose (shape_of (meaning_by value roles allows) t o) c ≡ Some e → BecomesJump value roles allows m jump_ssa t t' op o e → FoldsBranch (meaning_by value roles allows) op known t t' × (IsSameTree t t' → ⊥)
  jump_within t t' op known o counting choose c e at f h k reported j =
      let s : Shape = shape_of (meaning_by value roles allows) t o in
      let new = becomes_jump value roles allows m jump_ssa jumps allowed counting choose (shape_of (meaning_by value roles allows) t o) o.successors known c e j.block f h k reported j.target in (
        subst (FoldsBranch (meaning_by value roles allows) op known t) (sym j.tree) (Replaced o (head_of_kind m jump_ssa) j.values (j.block ∷ []) (edge_range (edge_counts_of counting (shape_of (meaning_by value roles allows) t o)) e) (e ∷ []) at (subst (λ z. map Some j.values ≡ pick z o.operands) (places_same (shape_of (meaning_by value roles allows) t o) counting choose e f h) j.forwarded) new),
        differs t t' op o.head (head_at t op o at) (ap (λ z. row_of z op) j.tree ∙ replaced_gone t op (head_of_kind m jump_ssa) j.values (j.block ∷ []) (liveness t op o.head (head_at t op o at))),
      )

  kept_within : (t t' : Tree) (op : ℕ) (known : List (Option AttrObj)) (status : IRStatus) → t' ≡ t → status ≡ Unchanged → FoldsBranch (meaning_by value roles allows) op known t t' × ReportsChange (Some status) t t'
  kept_within t t' op known status e f = (Kept (same_tree t t' e), subst (λ a. ReportsChange (Some a) t t') (sym f) (same_tree t t' e))

  identity_operand_within : (u : Option ℕ) (t t' : Tree) (op : ℕ) (known : List (Option AttrObj)) (o : Operation) (counting : Counting) (choose : ℕ → List AttrObj → ℤ → Option ℕ) (c : ℤ) (status : IRStatus) → index_below (shape_of (meaning_by value roles allows) t o).successors (chosen_edge counting choose (shape_of (meaning_by value roles allows) t o) c) ≡ u → op_at t op ≡ Some o → roles (shape_of (meaning_by value roles allows) t o).head.kind ≡ Some (Chooses counting choose) → Admits (Some (Chooses counting choose)) (shape_of (meaning_by value roles allows) t o) → known_number_at known 0 ≡ Some c → JumpsWhereKnown value roles allows m jump_ssa u t t' op o (Some status) → FoldsBranch (meaning_by value roles allows) op known t t' × ReportsChange (Some status) t t'
  identity_operand_within None t t' op known o counting choose c status reported at f h k j = kept_within t t' op known status j.0 j.1
  identity_operand_within (Some e) t t' op known o counting choose c status reported at f h k j =
      let w = jump_within t t' op known o counting choose c e at f h k (bounded_is (shape_of (meaning_by value roles allows) t o).successors e (chosen_edge counting choose (shape_of (meaning_by value roles allows) t o) c) reported) j.0 in
      (w.0, subst (λ z. ReportsChange (Some z) t t') (sym j.1) w.1)

  edge_within : (a : Bool) (q : Option ℤ) (r : Option Role) (t t' : Tree) (op : ℕ) (known : List (Option AttrObj)) (o : Operation) (answer : Option IRStatus) → op_at t op ≡ Some o → roles (shape_of (meaning_by value roles allows) t o).head.kind ≡ r → (by_role false (takes_by (shape_of (meaning_by value roles allows) t o).head (shape_of (meaning_by value roles allows) t o).operands (shape_of (meaning_by value roles allows) t o).results (shape_of (meaning_by value roles allows) t o).successors (length (shape_of (meaning_by value roles allows) t o).entry_arguments)) r && allows (shape_of (meaning_by value roles allows) t o).head (shape_of (meaning_by value roles allows) t o).operands (shape_of (meaning_by value roles allows) t o).results (shape_of (meaning_by value roles allows) t o).successors (length (shape_of (meaning_by value roles allows) t o).entry_arguments)) ≡ a → known_number_at known 0 ≡ q → JumpsWhereKnown value roles allows m jump_ssa (edge_of_role (shape_of (meaning_by value roles allows) t o) a q r) t t' op o answer → FoldsBranch (meaning_by value roles allows) op known t t' × ReportsChange answer t t'
  edge_within a q r t t' op known o None at e f g j = (Kept j, tt)
  edge_within true (Some c) (Some (Chooses counting choose)) t t' op known o (Some status) at e f g j = identity_operand_within (index_below (shape_of (meaning_by value roles allows) t o).successors (chosen_edge counting choose (shape_of (meaning_by value roles allows) t o) c)) t t' op known o counting choose c status refl at e (both_parts _ _ f).0 g j
  edge_within _ _ _ t t' op known o (Some status) at e f g j = kept_within t t' op known status j.0 j.1

pub folds_in_place : (value : Interpretation) (roles : ℕ → Option Role) (allows : Allows) (accepts : AttrObj → Bool) (n : ℕ) (ssa : Bool) (m : ℕ) (jump_ssa : Bool) → roles m ≡ Some Jumps → ((k : ℕ) → IsTrue (allows (head_of_kind m jump_ssa) k 0 1 0)) → FoldsInPlace (meaning_by value roles allows) (constants_by roles) accepts (constant_head_of n ssa) (outcome_by value roles allows accepts n ssa) (branch_outcome_by value roles allows m jump_ssa)
unfolding outcome_by branch_outcome_by
folds_in_place value roles allows accepts n ssa m jump_ssa jumps allowed = record {
  constant = λ t t' op known answer o at h. constant_within value roles allows accepts n ssa m jump_ssa jumps allowed (form_of_head roles (head_of t op)) t t' op known answer o at h;
  branch = λ t t' op known answer h. edge_within value roles allows accepts n ssa m jump_ssa jumps allowed (admits_shape roles allows (shape_of (meaning_by value roles allows) t h.0)) (known_number_at known 0) (roles (shape_of (meaning_by value roles allows) t h.0).head.kind) t t' op known h.0 answer h.1 refl refl refl h.2;
}
