-- Items of lists by index.
use Rattle.std.proofs.Common.{◌≡◌, ℕ, zero, suc, ◌<◌, Bool, true, false, true≢false, List, [], ◌∷◌, Some, slice_get, sym, ◌∙◌, ap, arith, inl, inr}
use Rattle.std.specs.Cmp.{IsEquivalence}
use Rattle.std.specs.List.{IsDistinct, AllByRecursion}
use Rattle.pliron_graph_traversal.specs.Internal.Membership.{HasMember}

module _ {X : Type 0} where
  pub in_from_item : (xs : List X) (k : ℕ) (v : X) → slice_get xs k ≡ Some v → HasMember xs v
  in_from_item [] k v e = absurd (cc e)
  in_from_item (x ∷ xs) zero v e = let here : x ≡ v = cc in inl here
  in_from_item (x ∷ xs) (suc k) v e = inr (in_from_item xs k v e)

  pub item_from_in : (xs : List X) (v : X) → HasMember xs v → (k : ℕ) × (slice_get xs k ≡ Some v)
  item_from_in [] v h = absurd h
  item_from_in (x ∷ xs) v (inl e) = (0, ap Some e)
  item_from_in (x ∷ xs) v (inr h) = let r = item_from_in xs v h in (suc r.0, r.1)

module _ {N : Type 0} (eq : N → N → Bool) (laws : IsEquivalence eq) (same : (x y : N) → eq x y ≡ true → x ≡ y) where
  pub apart_from : (x : N) (ys : List N) (v : N) → AllByRecursion (λ y. eq x y ≡ false) ys → HasMember ys v → x ≡ v → ⊥
  apart_from x [] v h i e = i
  apart_from x (y ∷ ys) v h (inl s) e = true≢false (sym (laws.refl x) ∙ ap (eq x) (e ∙ sym s) ∙ h.0)
  apart_from x (y ∷ ys) v h (inr i) e = apart_from x ys v h.1 i e

  -- an item of a list without repeats stands once
  pub stands_once : (xs : List N) (i j : ℕ) (v : N) → IsDistinct eq xs → i < j → slice_get xs i ≡ Some v → slice_get xs j ≡ Some v → ⊥
  unfolding IsDistinct
  stands_once [] i j v h l a b = absurd (cc a)
  stands_once (x ∷ xs) i zero v h l a b = absurd (omega (arith, l))
  stands_once (x ∷ xs) zero (suc j) v h l a b = let here : x ≡ v = cc in apart_from x xs v h.0 (in_from_item xs j v b) here
  stands_once (x ∷ xs) (suc i) (suc j) v h l a b = stands_once xs i j v h.1 (omega (arith, l)) a b
