-- The nodes that stand last in a list, picked in the order of another one.
use Rattle.std.proofs.Common.{◌≡◌, ℕ, zero, suc, ◌+◌, ◌-◌, ◌<◌, Bool, true, List, [], ◌∷◌, ◌++◌, length, take, drop, reverse, slice_get, Some, refl, sym, ◌∙◌, ap, subst, arith, inl, inr, ◌⊎◌, Contains, ◌↔◌}
use Rattle.std.specs.Cmp.{IsEquivalence}
use Rattle.std.specs.List.{IsDistinct}
use Rattle.std.proofs.lemmas.List.{length-reverse, length-drop, take_all}
use Rattle.std.proofs.lemmas.List.Elements.{Contains-append_left, Contains-push, Contains-push_cases}
use Rattle.std.proofs.lemmas.List.Sorted.{IsPermutation-sym, IsPermutation-reverse, Contains-permutation}
use Rattle.std.proofs.lemmas.Option.{slice_get_within, get_or_from_slice_get}
use Rattle.pliron_graph_traversal.specs.Search.{number_in}
use Rattle.pliron_graph_traversal.proofs.PlaceLemmas.{place_at}
use Rattle.pliron_graph_traversal.proofs.UnwindingLemmas.{take_next}
use Rattle.pliron_graph_components.specs.Components.{Descends}
use Rattle.pliron_graph_components.specs.Internal.Picking.{IsListedFrom}
use Rattle.pliron_graph_components.proofs.ItemLemmas.{item_of_reverse, item_at_place, place_at_most}
use Rattle.pliron_graph_components.proofs.PreSentinelLemmas.{contains_item, item_contained, item_of_push, item_of_take}

module _ {N : Type 0} (number : N → ℕ) (late : N → Type 0) where
  -- picked has those of xs that are late, by rising number
  pub record IsPicked (xs picked : List N) : Type 0 where
    pub same : (v : N) → (Contains picked v ↔ (Contains xs v × late v))
    pub rises : (i j : ℕ) (u v : N) → i < j → slice_get picked i ≡ Some u → slice_get picked j ≡ Some v → number u < number v

  pub pick_none : IsPicked [] []
  pick_none = record {
    same = λ v. ((λ h. absurd (omega (arith, h.1))), (λ h. absurd (omega (arith, h.0.1))));
    rises = λ i j u v l a b. absurd (cc a);
  }

  pick_over : (xs picked : List N) (x : N) → (late x → ⊥) → IsPicked xs picked → IsPicked (xs ++ x ∷ []) picked
  pick_over xs picked x not p = record {
    same = λ v. (
      (λ h. let k = (p.same v).0 h in (Contains-append_left xs (x ∷ []) v k.0, k.1)),
      (λ h. elim (Contains-push_cases xs x v h.0) [ inl a ↦ (p.same v).1 (a, h.1) | inr e ↦ absurd (not (subst late (sym e) h.1)) ]),
    );
    rises = p.rises;
  }

  pick_next : (xs picked : List N) (x : N) → late x → ((u : N) → Contains xs u → number u < number x) → IsPicked xs picked → IsPicked (xs ++ x ∷ []) (picked ++ x ∷ [])
  pick_next xs picked x is low p = record {
    same = λ v. (
      (λ h. elim (Contains-push_cases picked x v h) [
        | inl a ↦ let k = (p.same v).0 a in (Contains-append_left xs (x ∷ []) v k.0, k.1)
        | inr e ↦ subst (λ z. Contains (xs ++ x ∷ []) z × late z) e (Contains-push xs x, is)
      ]),
      (λ h. elim (Contains-push_cases xs x v h.0) [
        | inl a ↦ Contains-append_left picked (x ∷ []) v ((p.same v).1 (a, h.1))
        | inr e ↦ subst (Contains (picked ++ x ∷ [])) e (Contains-push picked x)
      ]),
    );
    rises = λ i j u v l a b. by i j u v l (item_of_push picked x i u a) (item_of_push picked x j v b);
  }
    where
      by : (i j : ℕ) (u v : N) → i < j → ((i < length picked) × (slice_get picked i ≡ Some u)) ⊎ ((i ≡ length picked) × (x ≡ u)) → ((j < length picked) × (slice_get picked j ≡ Some v)) ⊎ ((j ≡ length picked) × (x ≡ v)) → number u < number v
      by i j u v l (inl a) (inl b) = p.rises i j u v l a.1 b.1
      by i j u v l (inl a) (inr b) = subst (λ z. number u < number z) b.1 (low u ((p.same u).0 (item_contained picked i u a.1)).0)
      by i j u v l (inr a) (inl b) = absurd (omega (arith, l, a.0, b.0))
      by i j u v l (inr a) (inr b) = absurd (omega (arith, l, a.0, b.0))

  pub pick_falls : (xs picked : List N) → IsPicked xs picked → Descends number (reverse picked)
  pick_falls xs picked p i j u v l a b =
      p.rises (length picked - 1 - j) (length picked - 1 - i) v u (omega (arith, l, slice_get_within (reverse picked) j v b, length-reverse picked)) (item_of_reverse picked j v b) (item_of_reverse picked i u a)

  pub pick_same : (xs picked : List N) → IsPicked xs picked → (v : N) → (Contains (reverse picked) v ↔ (Contains xs v × late v))
  pick_same xs picked p v = (
    (λ h. (p.same v).0 (Contains-permutation (reverse picked) picked v (IsPermutation-sym picked (reverse picked) (IsPermutation-reverse picked)) h)),
    (λ h. Contains-permutation picked (reverse picked) v (IsPermutation-reverse picked) ((p.same v).1 h)),
  )

item_of_drop : {X : Type 0} (xs : List X) (n k m : ℕ) → m ≡ n + k → slice_get (drop n xs) k ≡ slice_get xs m
item_of_drop [] zero k m e = refl
item_of_drop [] (suc n) k m e = refl
item_of_drop (x ∷ xs) zero k m e = let here : k ≡ m = omega (arith, e) in ap (slice_get (x ∷ xs)) here
item_of_drop (x ∷ xs) (suc n) k zero e = absurd (omega (arith, e))
item_of_drop (x ∷ xs) (suc n) k (suc m) e = item_of_drop xs n k m (omega (arith, e))

-- what stands behind, as it is read from a slice
pub rest_of : {X : Type 0} (now xs : List X) (n : ℕ) → now ≡ xs → take (length now - n) (drop n now) ≡ drop n xs
rest_of now xs n e = take_all (length now - n) (drop n now) (omega (arith, length-drop n now)) ∙ ap (drop n) e

pub drop_distinct : {N : Type 0} (eq : N → N → Bool) (n : ℕ) (xs : List N) → IsDistinct eq xs → IsDistinct eq (drop n xs)
unfolding IsDistinct
drop_distinct eq zero xs h = h
drop_distinct eq (suc n) [] h = h
drop_distinct eq (suc n) (x ∷ xs) h = drop_distinct eq n xs h.1

module _ {N : Type 0} (eq : N → N → Bool) (laws : IsEquivalence eq) (same : (x y : N) → eq x y ≡ true → x ≡ y) where
  number_at : (xs : List N) (k : ℕ) (v : N) → IsDistinct eq xs → slice_get xs k ≡ Some v → number_in eq xs v ≡ k
  number_at xs k v once at = sym (ap (number_in eq xs) (get_or_from_slice_get xs k v v at)) ∙ place_at eq laws xs k v once (slice_get_within xs k v at)

  pub dropped_stand : (xs : List N) (first : ℕ) (v : N) → IsDistinct eq xs → (Contains (drop first xs) v ↔ IsListedFrom eq xs first v)
  dropped_stand xs first v once = (there, back)
    where
      there : Contains (drop first xs) v → IsListedFrom eq xs first v
      there h =
          let k = contains_item (drop first xs) v h in
          let at : slice_get xs (first + k.0) ≡ Some v = sym (item_of_drop xs first k.0 (first + k.0) refl) ∙ k.1 in
          (omega (arith, number_at xs (first + k.0) v once at), omega (arith, number_at xs (first + k.0) v once at, slice_get_within xs (first + k.0) v at))

      back : IsListedFrom eq xs first v → Contains (drop first xs) v
      back s =
          let at : slice_get xs (number_in eq xs v) ≡ Some v = item_at_place eq same laws.refl xs v s.1 in
          item_contained (drop first xs) (number_in eq xs v - first) v (item_of_drop xs first (number_in eq xs v - first) (number_in eq xs v) (omega (arith, s.0)) ∙ at)

  -- one more node of the order was looked at
  module _ (order held : List N) (first i : ℕ) (x : N) (picked : List N) (once : IsDistinct eq order) (at : slice_get order i ≡ Some x)
      (p : IsPicked (number_in eq order) (IsListedFrom eq held first) (take i order) picked) where
    pub passed_over : (IsListedFrom eq held first x → ⊥) → IsPicked (number_in eq order) (IsListedFrom eq held first) (take (i + 1) order) picked
    passed_over not = subst (λ xs. IsPicked (number_in eq order) (IsListedFrom eq held first) xs picked) (sym (take_next order i x at))
        (pick_over (number_in eq order) (IsListedFrom eq held first) (take i order) picked x not p)

    pub picked_next : IsListedFrom eq held first x → IsPicked (number_in eq order) (IsListedFrom eq held first) (take (i + 1) order) (picked ++ x ∷ [])
    picked_next is = subst (λ xs. IsPicked (number_in eq order) (IsListedFrom eq held first) xs (picked ++ x ∷ [])) (sym (take_next order i x at))
        (pick_next (number_in eq order) (IsListedFrom eq held first) (take i order) picked x is low p)
      where
        low : (u : N) → Contains (take i order) u → number_in eq order u < number_in eq order x
        low u h =
            let k = contains_item (take i order) u h in
            let before = item_of_take order i k.0 u k.1 in
            omega (arith, before.0, place_at_most eq same laws.refl order k.0 u before.1, number_at order i x once at)
