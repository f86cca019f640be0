-- Lists that a loop adds to, item by item.
use Rattle.std.proofs.Common.{◌≡◌, ℕ, ◌+◌, ◌<◌, ◌≤◌, List, [], ◌∷◌, ◌++◌, length, Some, sym, ap, ◌∙◌, arith, take, get_or, append_assoc, append-nil, zero, suc, inl, inr, ⊎_elim, ◌↔◌, Contains}
use Rattle.std.specs.List.{slice_get, flat_map}
use Rattle.std.specs.Prelude.{IsPermutation}
use Rattle.std.proofs.lemmas.List.Sorted.{Contains-permutation, IsPermutation-sym}
use Rattle.std.proofs.lemmas.List.{take_more, take_all}
use Rattle.std.proofs.lemmas.Grind.{flat_map-append}
use Rattle.std.proofs.lemmas.Option.{slice_get_within, get_or_from_slice_get}
use Rattle.pliron_core.specs.Tree.{In}
use Rattle.pliron_core.proofs.ListLemmas.{In-left, In-right, In-cases}

pub taken_more : (xs : List ℕ) (i x : ℕ) (before old new : List ℕ) → slice_get xs i ≡ Some x → old ≡ before ++ take i xs → new ≡ old ++ x ∷ [] → new ≡ before ++ take (i + 1) xs
taken_more xs i x before old new at is push =
    let lt = slice_get_within xs i x at in
    push ∙ ap (λ z. z ++ x ∷ []) is ∙ append_assoc before (take i xs) (x ∷ []) ∙ ap (λ z. before ++ z) (ap (λ z. take i xs ++ z ∷ []) (sym (get_or_from_slice_get xs i x x at)) ∙ sym (take_more xs i x lt))

pub item_in : (xs : List ℕ) (i x : ℕ) → i < length xs → x ≡ get_or xs i x → In x xs
item_in [] i x lt e = absurd (omega arith)
item_in (y ∷ ys) zero x lt e = inl e
item_in (y ∷ ys) (suc i) x lt e = inr (item_in ys i x (let h : suc i < suc (length ys) = lt in omega (arith, h)) e)

in_contains : (x : ℕ) (xs : List ℕ) → In x xs → Contains xs x
in_contains x [] i = absurd i
in_contains x (y ∷ ys) (inl e) = (zero, omega arith, sym e)
in_contains x (y ∷ ys) (inr i) = let r = in_contains x ys i in (suc r.0, omega (arith, r.1), r.2)

contains_in : (x : ℕ) (xs : List ℕ) → Contains xs x → In x xs
contains_in x [] (k, l, e) = absurd (omega (arith, l))
contains_in x (y ∷ ys) (zero, l, e) = inl (sym e)
contains_in x (y ∷ ys) (suc k, l, e) = inr (contains_in x ys (k, omega (arith, l), e))

-- an order changes nothing
pub in_permuted : (x : ℕ) (xs ys : List ℕ) → IsPermutation xs ys → In x ys ↔ In x xs
in_permuted x xs ys p = (λ i. contains_in x xs (Contains-permutation ys xs x (IsPermutation-sym xs ys p) (in_contains x ys i)), λ i. contains_in x ys (Contains-permutation xs ys x p (in_contains x xs i)))

-- an item of the second list comes to the end of the first
pub in_moved : (x b : ℕ) (xs ys : List ℕ) → In x ((xs ++ b ∷ []) ++ ys) ↔ In x (xs ++ (ys ++ b ∷ []))
in_moved x b xs ys = (forth, back)
  where
    forth : In x ((xs ++ b ∷ []) ++ ys) → In x (xs ++ (ys ++ b ∷ []))
    forth i = ⊎_elim (λ j. ⊎_elim (λ k. In-left x xs (ys ++ b ∷ []) k) (λ k. In-right x xs (ys ++ b ∷ []) (In-right x ys (b ∷ []) k)) (In-cases x xs (b ∷ []) j)) (λ j. In-right x xs (ys ++ b ∷ []) (In-left x ys (b ∷ []) j)) (In-cases x (xs ++ b ∷ []) ys i)

    back : In x (xs ++ (ys ++ b ∷ [])) → In x ((xs ++ b ∷ []) ++ ys)
    back i = ⊎_elim (λ j. In-left x (xs ++ b ∷ []) ys (In-left x xs (b ∷ []) j)) (λ j. ⊎_elim (λ k. In-right x (xs ++ b ∷ []) ys k) (λ k. In-left x (xs ++ b ∷ []) ys (In-right x xs (b ∷ []) k)) (In-cases x ys (b ∷ []) j)) (In-cases x xs (ys ++ b ∷ []) i)
