-- The place of a node in an order, which is its first.
use Rattle.std.proofs.Common.{◌≡◌, ℕ, zero, suc, ◌+◌, ◌<◌, ◌≤◌, ◌⊎◌, ◌||◌, Bool, true, false, true≢false, not, cond, ltb, Option, Some, None, ap, position, List, [], ◌∷◌, length, take, get_or, refl, sym, ◌∙◌, subst, arith, inl, inr}
use Rattle.std.specs.Cmp.{IsEquivalence}
use Rattle.std.specs.List.{list_any, position_or_len, IsDistinct, AllByRecursion}
use Rattle.std.specs.Option.{unwrap_or}
use Rattle.std.proofs.lemmas.Bool.Decides.{Decides-ltb}
use Rattle.std.proofs.lemmas.List.Sums.{passes_at_first, prefix_len-le-length}
use Rattle.pliron_graph_traversal.specs.Search.{number_in}
use Rattle.pliron_graph_traversal.specs.Internal.Membership.{HasMember}
use Rattle.pliron_graph_traversal.proofs.GrowthLemmas.{Distinct}

module _ {N : Type 0} (eq : N → N → Bool) (laws : IsEquivalence eq) where
  -- an item stands nowhere before its index in a list whose items are apart
  pub unlisted_before : (xs : List N) (i : ℕ) (v : N) → IsDistinct eq xs → i < length xs → v ≡ get_or xs i v → list_any (eq v) (take i xs) ≡ false
  unfolding IsDistinct
  unlisted_before [] i v h l e = absurd (omega (arith, l))
  unlisted_before (x ∷ xs) zero v h l e = refl
  unlisted_before (x ∷ xs) (suc i) v h l e =
      let rest : list_any (eq v) (take i xs) ≡ false = unlisted_before xs i v h.1 (omega (arith, l)) e in
      rw (apart xs i h.0 (omega (arith, l)) e) rest
    where
      apart : (ys : List N) (k : ℕ) → AllByRecursion (λ y. eq x y ≡ false) ys → k < length ys → v ≡ get_or ys k v → eq v x ≡ false
      apart [] k a m at = absurd (omega (arith, m))
      apart (y ∷ ys) zero a m at = laws.symm v x ∙ subst (λ z. eq x z ≡ false) (sym at) a.0
      apart (y ∷ ys) (suc k) a m at = apart ys k a.1 (omega (arith, m)) at

  -- nodes that stand at one place are equal
  pub equal_at_place : (xs : List N) (u v : N) → number_in eq xs u < length xs → number_in eq xs u ≡ number_in eq xs v → eq u v ≡ true
  equal_at_place xs u v l e =
      let x : N = get_or xs (number_in eq xs u) u in
      let here : eq u x ≡ true = passes_at_first (eq u) xs u l in
      let there : eq v (get_or xs (number_in eq xs v) u) ≡ true = passes_at_first (eq v) xs u (omega (arith, l, e)) in
      let there' : eq v x ≡ true = subst (λ k. eq v (get_or xs k u) ≡ true) (sym e) there in
      laws.congr u x v here ∙ laws.symm x v ∙ there'

  -- equal nodes stand at one place
  pub place_of_equal : (xs : List N) (u v : N) → eq u v ≡ true → number_in eq xs u ≡ number_in eq xs v
  place_of_equal [] u v e = refl
  place_of_equal (x ∷ xs) u v e = rw (laws.congr u v x e, place_of_equal xs u v e) refl

module _ {N : Type 0} (eq : N → N → Bool) (same : (x y : N) → eq x y ≡ true → x ≡ y) where
  differs : (x : N) (ys : List N) → (HasMember ys x → ⊥) → AllByRecursion (λ y. eq x y ≡ false) ys
  differs x [] h = tt
  differs x (y ∷ ys) h = (by (eq x y) refl, differs x ys (λ i. h (inr i)))
    where
      by : (b : Bool) → eq x y ≡ b → b ≡ false
      by true e = absurd (h (inl (sym (same x y e))))
      by false e = refl

  pub is_distinct : (xs : List N) → Distinct xs → IsDistinct eq xs
  unfolding IsDistinct
  is_distinct [] h = tt
  is_distinct (x ∷ xs) h = (differs x xs h.0, is_distinct xs h.1)

-- the place that a look-up gives, or the length
pub place_or_end : {X : Type 0} (p : X → Bool) (xs : List X) (found : Option ℕ) (n r : ℕ) → found ≡ position p xs → n ≡ length xs → r ≡ unwrap_or found n → r ≡ position_or_len p xs
place_or_end p xs found n r is at_end says = by (ltb (position_or_len p xs) (length xs)) refl
  where
    order : (a b : ℕ) → (a < b) ⊎ (b ≤ a)
    order a b = grind arith

    read : (b : Bool) → ltb (position_or_len p xs) (length xs) ≡ b → found ≡ cond b (Some (position_or_len p xs)) None
    read b e = is ∙ ap (λ t. cond t (Some (position_or_len p xs)) None) e

    by : (b : Bool) → ltb (position_or_len p xs) (length xs) ≡ b → r ≡ position_or_len p xs
    by true e = says ∙ ap (λ o. unwrap_or o n) (read true e)
    by false e =
        let past : r ≡ n = says ∙ ap (λ o. unwrap_or o n) (read false e) in
        let most : position_or_len p xs ≤ length xs = prefix_len-le-length (λ x. not (p x)) xs in
        let inside : position_or_len p xs < length xs → ⊥ = λ l. true≢false (sym ((Decides-ltb (position_or_len p xs) (length xs)).1 l) ∙ e) in
        elim (order (position_or_len p xs) (length xs)) [
          | inl l ↦ absurd (inside l)
          | inr l ↦ omega (arith, l, past, at_end, most)
        ]

-- what is listed stands within
module _ {X : Type 0} (p : X → Bool) where
  pub listed_within : (xs : List X) → list_any p xs ≡ true → position_or_len p xs < length xs
  listed_within [] e = absurd (true≢false (sym e))
  listed_within (x ∷ xs) e = by (p x) e (listed_within xs)
    where
      by : (b : Bool) → (b || list_any p xs) ≡ true → (list_any p xs ≡ true → position_or_len p xs < length xs) → cond (not b) (1 + position_or_len p xs) 0 < suc (length xs)
      by true e rest = omega arith
      by false e rest = omega (arith, rest e)

module _ {N : Type 0} (eq : N → N → Bool) (laws : IsEquivalence eq) where
  -- what stands at a place of distinct nodes has this place
  pub place_at : (xs : List N) (k : ℕ) (d : N) → IsDistinct eq xs → k < length xs → number_in eq xs (get_or xs k d) ≡ k
  unfolding IsDistinct
  place_at [] k d h l = absurd (omega (arith, l))
  place_at (x ∷ xs) zero d h l = ap (λ b. cond (not b) (1 + number_in eq xs x) 0) (laws.refl x)
  place_at (x ∷ xs) (suc k) d h l =
      let here : eq (get_or xs k d) x ≡ false = laws.symm (get_or xs k d) x ∙ apart xs k h.0 (omega (arith, l)) in
      ap (λ b. cond (not b) (1 + number_in eq xs (get_or xs k d)) 0) here ∙ omega (arith, place_at xs k d h.1 (omega (arith, l)))
    where
      apart : (ys : List N) (k : ℕ) → AllByRecursion (λ y. eq x y ≡ false) ys → k < length ys → eq x (get_or ys k d) ≡ false
      apart [] k a m = absurd (omega (arith, m))
      apart (y ∷ ys) zero a m = a.0
      apart (y ∷ ys) (suc k) a m = apart ys k a.1 (omega (arith, m))
