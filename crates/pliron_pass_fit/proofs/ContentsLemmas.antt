-- A set that lists the contents of a root in pre-order.
use Rattle.std.proofs.Common.{◌≡◌, ◌↔◌, ℕ, true, nat_eq, ◌&&◌, List, [], ◌∷◌, ◌++◌, Option, Some, length, refl, sym, ap, ◌∙◌, subst, inl, inr, ◌≢◌, append_assoc, arith, position, slice_get, get_or}
use Rattle.std.specs.List.{list_any}
use Rattle.std.proofs.lemmas.List.Quantifiers.{position-Some}
use Rattle.std.proofs.lemmas.Option.{slice_get_read}
use Rattle.std.proofs.lemmas.Bool.{cases_Bool, eq-eqb, false≢true, or_cases}
use Rattle.pliron_core.specs.Tree.{Tree, In, IsDistinct, IsInside, IsWithin}
use Rattle.pliron_core.specs.Lists.{next_in}
use Rattle.pliron_core.specs.Invariant.{IsTree}
use Rattle.pliron_core.specs.Walks.{preorder}
use Rattle.pliron_core.specs.WalkSteps.{rest_from}
use Rattle.pliron_core.proofs.ListLemmas.{distinct-apart}
use Rattle.pliron_core.proofs.WalkLemmas.{In-preorder, distinct-preorder, not_inside-itself}
use Rattle.pliron_core.proofs.WalkStepLemmas.{walk_step}
use Rattle.indexmap.specs.IndexSet.{insert_key}

pub same_key : (x y : ℕ) → nat_eq x y && true ≡ true → x ≡ y
same_key x y e = grind arith

pub tested_in : (xs : List ℕ) (k : ℕ) → list_any (λ y. nat_eq k y && true) xs ≡ true → In k xs
tested_in [] k e = absurd (false≢true e)
tested_in (x ∷ xs) k e = elim (or_cases (nat_eq k x && true) (list_any (λ y. nat_eq k y && true) xs) e) [ inl h ↦ inl (same_key k x h) | inr h ↦ inr (tested_in xs k h) ]

pub in_tested : (xs : List ℕ) (k : ℕ) → In k xs → list_any (λ y. nat_eq k y && true) xs ≡ true
in_tested [] k i = absurd i
in_tested (x ∷ xs) k (inl e) = rw (eq-eqb k x e) refl
in_tested (x ∷ xs) k (inr i) = elim (cases_Bool (nat_eq k x)) [ inl h ↦ rw h refl | inr h ↦ rw h (in_tested xs k i) ]

-- what is put last is no member yet
pub fresh : (ks rest : List ℕ) (k : ℕ) → IsDistinct (ks ++ k ∷ rest) → insert_key (λ x y. nat_eq x y && true) ks k ≡ ks ++ k ∷ []
fresh ks rest k d = elim (cases_Bool (list_any (λ y. nat_eq k y && true) ks)) [
  | inl h ↦ absurd (distinct-apart ks (k ∷ rest) d k (tested_in ks k h) (inl refl))
  | inr h ↦ rw h refl
]

module _ (t : Tree) (w : IsTree t) (root : ℕ) where
  -- a step of the walk
  pub listed_more : (ks new : List ℕ) (k : ℕ) (o : Option ℕ) → IsWithin t root k → o ≡ next_in k (preorder t root) → ks ++ rest_from (Some k) (preorder t root) ≡ preorder t root
      → new ≡ insert_key (λ x y. nat_eq x y && true) ks k → new ++ rest_from o (preorder t root) ≡ preorder t root
  listed_more ks new k o u e whole put =
      let split : ks ++ k ∷ rest_from o (preorder t root) ≡ preorder t root = ap (λ z. ks ++ z) (sym (walk_step t w root k o u e)) ∙ whole in
      let d : IsDistinct (ks ++ k ∷ rest_from o (preorder t root)) = subst IsDistinct (sym split) (distinct-preorder t w root) in
      ap (λ z. z ++ rest_from o (preorder t root)) (put ∙ fresh ks (rest_from o (preorder t root)) k d) ∙ append_assoc ks (k ∷ []) (rest_from o (preorder t root)) ∙ split

  -- what the set says
  pub listed_within : (keys : List ℕ) → keys ≡ preorder t root → (k : ℕ) → (list_any (λ y. nat_eq k y && true) keys ≡ true) ↔ IsWithin t root k
  listed_within keys e k = (
    λ h. (In-preorder t w root k).0 (subst (In k) e (tested_in keys k h)),
    λ u. in_tested keys k (subst (In k) (sym e) ((In-preorder t w root k).1 u)),
  )

  pub within_not_root : (k : ℕ) → k ≢ root → IsWithin t root k → IsInside t root k
  within_not_root k n (inl e) = absurd (n e)
  within_not_root k n (inr u) = u

  pub inside_not_root : (k : ℕ) → IsInside t root k → k ≢ root
  inside_not_root k u e = not_inside-itself t w root (subst (IsInside t root) e u)

-- what stands at the place that a set finds
pub position_at : (xs : List ℕ) (k i : ℕ) → position (λ y. nat_eq k y && true) xs ≡ Some i → slice_get xs i ≡ Some k
position_at xs k i e =
    let at = position-Some (λ y. nat_eq k y && true) xs i k e in
    slice_get_read xs (length xs) i k refl at.0 (same_key k (get_or xs i k) at.1)
