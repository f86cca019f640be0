-- Rows and places where a constant was put, and what a dialect answers of one.
use Rattle.std.proofs.Common.{◌≡◌, ◌≢◌, ◌⊎◌, inl, inr, ℕ, ◌<◌, ◌≤◌, Bool, false, List, length, Option, Some, None, Result, Ok, Err, min, refl, ap, ◌∙◌, subst, arith, IsTrue}
use Rattle.std.specs.Result.{OnErr}
use Rattle.std.proofs.lemmas.List.{get_or-set_other}
use Rattle.std.proofs.lemmas.Option.{same_Some}
use Rattle.pliron_core.specs.declared.attrs.AttrObj.{AttrObj}
use Rattle.pliron_core.specs.Tree.{Tree, no_entry, row_of, head_of, results_of, parent_of}
use Rattle.pliron_core.specs.Writes.{after_creating, put_next_to}
use Rattle.pliron_core.specs.Invariant.{IsTree}
use Rattle.pliron_core.proofs.GrownLemmas.{get_grown, get_last, get_last_same}
use Rattle.pliron_laws.specs.Datum.{Head, Meaning}
use Rattle.pliron_laws.specs.Tree.{Operation, op_at, op_with, shape_of}
use Rattle.pliron_laws.specs.Answers.{ReadsShape, IsMaterialised}
use Rattle.pliron_laws.specs.Folding.{Constants}
use Rattle.pliron_laws.specs.Outcomes.{Materialises, IsMadeConstant, after_materialising}
use Rattle.pliron_laws.proofs.ConstantLemmas.{new_row}

-- what holds anyway holds after an error
pub on_err : {T E : Type 0} (P : Type 0) (r : Result T E) → P → OnErr r P
on_err P (Ok x) p = tt
on_err P (Err e) p = p

-- what comes to the shorter of two lists comes to the end of one
pub past_min : (a b x y m i : ℕ) → x ≡ a → y ≡ b → m ≡ min x y → m ≤ i → (a ≤ i) ⊎ (b ≤ i)
past_min a b x y m i e f g le = elim (cases a b) [ inl h ↦ inl (omega (arith, e, f, g, le, h)) | inr h ↦ inr (omega (arith, e, f, g, le, h)) ]
  where
    cases : (a b : ℕ) → (a ≤ b) ⊎ (b ≤ a)
    cases a b = grind arith

-- what is no Some is None
pub none_of : {A : Type 0} (o : Option A) → ((x : A) → o ≡ Some x → ⊥) → o ≡ None
none_of None other = refl
none_of (Some x) other = absurd (other x refl)

-- what the dialect made, or that it made nothing
pub passed_over : (accepts : AttrObj → Bool) (head : AttrObj → Head) (attr : AttrObj) (t now : Tree) (made : Option ℕ) → IsMaterialised accepts head attr t now made → made ≡ None → (accepts attr ≡ false) × (now ≡ t)
passed_over accepts head attr t now made is e = subst (λ z. IsMaterialised accepts head attr t now z) e is

pub fresh_made : (accepts : AttrObj → Bool) (head : AttrObj → Head) (attr : AttrObj) (t now : Tree) (c : ℕ) (made : Option ℕ) → IsTree t → IsMaterialised accepts head attr t now made → made ≡ Some c → IsTrue (accepts attr) × IsMadeConstant t now c (head attr)
fresh_made accepts head attr t now c made w is e =
    let m : IsMaterialised accepts head attr t now (Some c) = subst (λ z. IsMaterialised accepts head attr t now z) e is in
    (m.0, record { tree = w; made = m.2; key = m.1 })

-- rows and places of what stood, after a constant was put
next_row : (t : Tree) (c at k : ℕ) (o : Option ℕ) → row_of (put_next_to t c at o) k ≡ row_of t k
next_row t c at k None = refl
next_row t c at k (Some b) = refl

next_parent : (t : Tree) (c at k : ℕ) (o : Option ℕ) → k ≢ c → parent_of (put_next_to t c at o) k ≡ parent_of t k
next_parent t c at k None other = refl
next_parent t c at k (Some b) other = get_or-set_other t.parents c k (Some b) None other

pub put_row : (t : Tree) (op v k : ℕ) (head : Head) → k < length t.operations → row_of (after_materialising t op v head) k ≡ row_of t k
put_row t op v k head lt =
    next_row (after_creating t head 1 0) (length t.operations) op k (parent_of t op) ∙ elim (get_last t.operations (new_row t head) no_entry k) [ inl e ↦ e | inr e ↦ absurd (omega (arith, lt, e.2)) ]

pub put_row-new : (t : Tree) (op v : ℕ) (head : Head) → row_of (after_materialising t op v head) (length t.operations) ≡ new_row t head
put_row-new t op v head =
    next_row (after_creating t head 1 0) (length t.operations) op (length t.operations) (parent_of t op) ∙ get_last_same t.operations (new_row t head) no_entry

pub put_parent : (t : Tree) (op v k : ℕ) (head : Head) → k < length t.operations → parent_of (after_materialising t op v head) k ≡ parent_of t k
put_parent t op v k head lt =
    next_parent (after_creating t head 1 0) (length t.operations) op k (parent_of t op) (λ e. omega (arith, lt, e)) ∙ get_grown t.parents None k

-- what the dialect says of the operation
results_with : (t : Tree) (k : ℕ) (o : Operation) (h : Option Head) → op_with t k h ≡ Some o → results_of t k ≡ o.results
results_with t k o None e = absurd (grind arith)
results_with t k o (Some h) e = ap (λ z. z.results) (same_Some _ o e)

pub results_at : (t : Tree) (k : ℕ) (o : Operation) → op_at t k ≡ Some o → results_of t k ≡ o.results
unfolding op_at
results_at t k o e = results_with t k o (head_of t k) e

pub outcome_of : (m : Meaning) (constants : Constants) (accepts : AttrObj → Bool) (head : AttrObj → Head) (op : ℕ) (known answers : List (Option AttrObj)) (t u : Tree) → ReadsShape m (λ s. constants s known) t op answers → Materialises accepts head op (results_of t op) answers t u → (o : Operation) → op_at t op ≡ Some o → Materialises accepts head op o.results (constants (shape_of m t o) known) t u
outcome_of m constants accepts head op known answers t u reads all o at =
    subst (λ z. Materialises accepts head op z (constants (shape_of m t o) known) t u) (results_at t op o at) (subst (λ z. Materialises accepts head op (results_of t op) z t u) (reads o at) all)
