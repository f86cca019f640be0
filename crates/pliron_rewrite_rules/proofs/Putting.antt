-- Terms while they are put before an operation, one operation after the other.
use Rattle.std.proofs.Common.{◌≡◌, ◌+◌, ℕ, zero, suc, Bool, List, [], ◌∷◌, ◌++◌, length, take, Option, Some, None, IsSome, IsTrue, true≢false, slice_get, is_some, refl, sym, ap, ◌∙◌, subst, arith, append_assoc}
use Rattle.std.proofs.lemmas.List.{append-nil}
use Rattle.std.proofs.lemmas.Option.{same_Some}
use Rattle.pliron_core.specs.declared.attrs.AttrObj.{AttrObj}
use Rattle.pliron_core.specs.declared.attrs.Head.{Head}
use Rattle.pliron_core.specs.Invariant.{IsTree}
use Rattle.pliron_core.specs.Tree.{Tree, IsLive, no_entry, row_of, results_of, parent_of}
use Rattle.pliron_core.specs.Writes.{put_next_to}
use Rattle.pliron_core.proofs.GrownLemmas.{get_last_same}
use Rattle.pliron_laws.specs.Answers.{IsMaterialised}
use Rattle.pliron_laws.specs.MaterialisedConstants.{IsRestored}
use Rattle.pliron_laws.specs.Outcomes.{next_op, next_value}
use Rattle.pliron_laws.proofs.ConstantLemmas.{new_row}
use Rattle.pliron_laws.proofs.MaterialisedLemmas.{restored_refl}
use Rattle.pliron_rewrite_rules.specs.Tables.{RuleTables}
use Rattle.pliron_rewrite_rules.specs.Insertions.{after_making, with_operation, IsMadeOperation}
use Rattle.pliron_rewrite_rules.specs.declared.term.Atom.{Atom}
use Rattle.pliron_rewrite_rules.specs.Rewriting.{with_atom, atom_value, with_atoms, atom_values}
use Rattle.pliron_rewrite_rules.specs.Putting.{atom_key, atom_keys, AreErasable}
use Rattle.pliron_rewrite_rules.specs.RuleLaws.{IsAccepted}
use Rattle.pliron_rewrite_rules.specs.Views.{Each}
use Rattle.pliron_rewrite_rules.proofs.PureOperations.{IsLawful}
use Rattle.pliron_rewrite_rules.proofs.RuleKeeps.{atoms_grow}

-- the row of the new operation
pub put_row : (t : Tree) (op : ℕ) (head : Head) (operands : List ℕ) → row_of (with_operation t op head operands) (next_op t) ≡ new_row t head
put_row t op head operands = go (parent_of t op)
  where
    go : (o : Option ℕ) → row_of (put_next_to (after_making t head operands) (next_op t) op o) (next_op t) ≡ new_row t head
    go None = get_last_same t.operations (new_row t head) no_entry
    go (Some b) = get_last_same t.operations (new_row t head) no_entry

module _ (t now : Tree) (op new : ℕ) (head : Head) (operands : List ℕ) (is : now ≡ with_operation t op head operands) (key : new ≡ next_op t) where
  row : row_of now new ≡ new_row t head
  row = ap (λ z. row_of z new) is ∙ ap (row_of (with_operation t op head operands)) key ∙ put_row t op head operands

  pub new_live : IsLive now new
  new_live = ap (λ z. is_some z.head) row

  pub new_counts : length (results_of now new) ≡ 1
  new_counts = ap (λ z. length z.results) row

  pub new_result : (v : ℕ) → slice_get (results_of now new) 0 ≡ Some v → v ≡ next_value t
  new_result v e = same_Some v (next_value t) (sym e ∙ ap (λ z. slice_get z.results 0) row)

-- what the dialect materialises was just made
pub materialised : (accepts : AttrObj → Bool) (head : AttrObj → Head) (attr : AttrObj) (t now : Tree) (op : ℕ) → IsTree t → IsMaterialised accepts head attr t now (Some op) → IsMadeOperation t now op (head attr) []
materialised accepts head attr t now op w m = record { tree = w; defined = λ v i. absurd i; made = m.2; key = m.1 }

pub refuses : (accepts : AttrObj → Bool) (head : AttrObj → Head) (attr : AttrObj) (t now : Tree) → IsTrue (accepts attr) → IsMaterialised accepts head attr t now None → ⊥
refuses accepts head attr t now accepted m = true≢false (sym accepted ∙ m.0)

-- ---- one atom more

pub take_one : {A : Type 0} (xs : List A) (i : ℕ) (a : A) → slice_get xs i ≡ Some a → take (i + 1) xs ≡ take i xs ++ a ∷ []
take_one [] i a e = absurd (grind arith)
take_one (x ∷ xs) zero a e = ap (λ z. z ∷ []) (same_Some x a e)
take_one (x ∷ xs) (suc i) a e =
    let one : suc i + 1 ≡ suc (i + 1) = omega arith in ap (λ n. take n (x ∷ xs)) one ∙ ap (λ l. x ∷ l) (take_one xs i a e)

pub each_take : {A : Type 0} (P : A → Type 0) (xs : List A) (n : ℕ) → Each P xs → Each P (take n xs)
each_take P xs zero e = tt
each_take P [] (suc n) e = tt
each_take P (x ∷ xs) (suc n) e = (e.0, each_take P xs n e.1)

pub each_at : {A : Type 0} (P : A → Type 0) (xs : List A) (i : ℕ) (a : A) → Each P xs → slice_get xs i ≡ Some a → P a
each_at P [] i a e at = absurd (grind arith)
each_at P (x ∷ xs) zero a e at = subst P (same_Some x a at) e.0
each_at P (x ∷ xs) (suc i) a e at = each_at P xs i a e.1 at

module _ (x : RuleTables) (op : ℕ) where
  tree_last : (front : List Atom) (a : Atom) (t : Tree) → with_atoms x t op (front ++ a ∷ []) ≡ with_atom x (with_atoms x t op front) op a
  tree_last [] a t = refl
  tree_last (b ∷ front) a t = tree_last front a (with_atom x t op b)

  values_last : (front : List Atom) (a : Atom) (t : Tree) → atom_values x t op (front ++ a ∷ []) ≡ atom_values x t op front ++ atom_value (with_atoms x t op front) a ∷ []
  values_last [] a t = refl
  values_last (b ∷ front) a t = ap (λ z. atom_value t b ∷ z) (values_last front a (with_atom x t op b))

  keys_last : (front : List Atom) (a : Atom) (t : Tree) → atom_keys x t op (front ++ a ∷ []) ≡ atom_keys x t op front ++ atom_key (with_atoms x t op front) a
  keys_last [] a t = append-nil (atom_key t a)
  keys_last (b ∷ front) a t = ap (λ z. atom_key t b ++ z) (keys_last front a (with_atom x t op b)) ∙ sym (append_assoc (atom_key t b) (atom_keys x (with_atom x t op b) op front) (atom_key (with_atoms x (with_atom x t op b) op front) a))

  module _ (t : Tree) (all : List Atom) (i : ℕ) (a : Atom) (at : slice_get all i ≡ Some a) where
    pub tree_more : (now next : Tree) → now ≡ with_atoms x t op (take i all) → next ≡ with_atom x now op a → next ≡ with_atoms x t op (take (i + 1) all)
    tree_more now next e f = f ∙ ap (λ z. with_atom x z op a) e ∙ sym (ap (with_atoms x t op) (take_one all i a at) ∙ tree_last (take i all) a t)

    pub values_more : (now : Tree) (before after : List ℕ) (v : ℕ) → now ≡ with_atoms x t op (take i all) → before ≡ atom_values x t op (take i all) → v ≡ atom_value now a → after ≡ before ++ v ∷ [] → after ≡ atom_values x t op (take (i + 1) all)
    values_more now before after v e f is g = g ∙ ap (λ z. z ++ v ∷ []) f ∙ ap (λ z. atom_values x t op (take i all) ++ z ∷ []) (is ∙ ap (λ z. atom_value z a) e) ∙ sym (ap (atom_values x t op) (take_one all i a at) ∙ values_last (take i all) a t)

    pub keys_more : (now : Tree) (before after : List ℕ) → now ≡ with_atoms x t op (take i all) → before ≡ atom_keys x t op (take i all) → after ≡ before ++ atom_key now a → after ≡ atom_keys x t op (take (i + 1) all)
    keys_more now before after e f g = g ∙ ap (λ z. z ++ atom_key now a) f ∙ ap (λ z. atom_keys x t op (take i all) ++ atom_key z a) e ∙ sym (ap (atom_keys x t op) (take_one all i a at) ∙ keys_last (take i all) a t)

  module _ (laws : IsLawful x) (t : Tree) (w : IsTree t) (placed : IsSome (parent_of t op)) (all : List Atom) (accepted : Each (IsAccepted x.accepts) all) (i : ℕ) where
    pub still_placed : (now : Tree) → now ≡ with_atoms x t op (take i all) → IsSome (parent_of now op)
    still_placed now e = subst (λ z. IsSome (parent_of z op)) (sym e) (atoms_grow x laws op (take i all) t w placed (each_take (IsAccepted x.accepts) all i accepted)).0.placed

    pub erasable_now : (now next : Tree) (made : List ℕ) → now ≡ with_atoms x t op (take i all) → made ≡ atom_keys x t op (take i all) → IsRestored now next → AreErasable x op t made next
    erasable_now now next made e f back = record { tree = w; placed = placed; atoms = take i all; accepted = each_take (IsAccepted x.accepts) all i accepted; keys = f; back = subst (λ z. IsRestored z next) e back }

    pub erasable_same : (now next : Tree) (made : List ℕ) → now ≡ with_atoms x t op (take i all) → made ≡ atom_keys x t op (take i all) → next ≡ now → AreErasable x op t made next
    erasable_same now next made e f same = erasable_now now next made e f (restored_refl now next same)
