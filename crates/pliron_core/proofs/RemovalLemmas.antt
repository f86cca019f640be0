-- Lemmas on a list without the element at one index. Its length is std's `length-remove`.
use Rattle.std.proofs.Common.{◌≡◌, ◌⊎◌, ℕ, zero, suc, ◌+◌, ◌<◌, ◌≤◌, List, [], ◌∷◌, Some, refl, sym, ap, ◌∙◌, inl, inr, arith, add-one}
use Rattle.std.specs.List.{slice_get, remove}
use Rattle.pliron_core.specs.Lists.{In}

module _ {A : Type 0} where
  pub slice_get-remove_below : (xs : List A) (i k : ℕ) → k < i → slice_get (remove xs i) k ≡ slice_get xs k
  slice_get-remove_below xs zero k h = absurd (omega arith)
  slice_get-remove_below [] (suc i) k h = refl
  slice_get-remove_below (x ∷ xs) (suc i) zero h = refl
  slice_get-remove_below (x ∷ xs) (suc i) (suc k) h = slice_get-remove_below xs i k (omega arith)

  pub slice_get-remove_above : (xs : List A) (i k : ℕ) → i ≤ k → slice_get (remove xs i) k ≡ slice_get xs (k + 1)
  slice_get-remove_above [] zero k h = refl
  slice_get-remove_above (x ∷ xs) zero k h = ap (slice_get (x ∷ xs)) (sym (add-one k))
  slice_get-remove_above [] (suc i) k h = refl
  slice_get-remove_above (x ∷ xs) (suc i) zero h = absurd (omega arith)
  slice_get-remove_above (x ∷ xs) (suc i) (suc k) h =
      let e : suc k + 1 ≡ suc (k + 1) = omega arith in
      slice_get-remove_above xs i k (omega arith) ∙ ap (slice_get (x ∷ xs)) (sym e)

-- what is left was there
pub in_from-remove : (x : ℕ) (xs : List ℕ) (i : ℕ) → In x (remove xs i) → In x xs
in_from-remove x [] zero is = is
in_from-remove x (y ∷ ys) zero is = inr is
in_from-remove x [] (suc i) is = is
in_from-remove x (y ∷ ys) (suc i) (inl same) = inl same
in_from-remove x (y ∷ ys) (suc i) (inr is) = inr (in_from-remove x ys i is)

-- what was there is the element that goes, or is left
pub in-remove_cases : (x : ℕ) (xs : List ℕ) (i : ℕ) → In x xs → (slice_get xs i ≡ Some x) ⊎ In x (remove xs i)
in-remove_cases x [] i is = absurd is
in-remove_cases x (y ∷ ys) zero (inl same) = inl (ap Some (sym same))
in-remove_cases x (y ∷ ys) zero (inr is) = inr is
in-remove_cases x (y ∷ ys) (suc i) (inl same) = inr (inl same)
in-remove_cases x (y ∷ ys) (suc i) (inr is) = elim (in-remove_cases x ys i is) [ inl e ↦ inl e | inr rest ↦ inr (inr rest) ]
