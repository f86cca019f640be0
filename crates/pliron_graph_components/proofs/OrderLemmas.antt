-- Nodes sorted by falling number.
use Rattle.std.proofs.Common.{◌≡◌, ℕ, ◌-◌, ◌<◌, ◌≤◌, Bool, true, List, length, reverse, slice_get, Some, refl, sym, ◌∙◌, ap, subst, arith, inl, inr, ◌⊎◌, Contains, ◌↔◌}
use Rattle.std.specs.Cmp.{IsEquivalence}
use Rattle.std.specs.List.{IsDistinct, All}
use Rattle.std.specs.List.Sorted.{IsPermutation, IsNonDecreasingBy}
use Rattle.std.proofs.lemmas.List.{length-reverse}
use Rattle.std.proofs.lemmas.List.Elements.{All-contains}
use Rattle.std.proofs.lemmas.List.Sorted.{IsPermutation-sym, IsPermutation-trans, IsPermutation-reverse, Contains-permutation}
use Rattle.std.proofs.lemmas.Map.Keys.{IsDistinct-IsPermutation}
use Rattle.std.proofs.lemmas.Option.{slice_get_within, get_or_from_slice_get}
use Rattle.pliron_graph_traversal.specs.Search.{IsListed, number_in}
use Rattle.pliron_graph_components.specs.Components.{Descends}
use Rattle.pliron_graph_traversal.specs.Internal.Membership.{contains_from, in_from_any}
use Rattle.pliron_graph_traversal.proofs.ItemLemmas.{in_from_item, stands_once}
use Rattle.pliron_graph_components.proofs.ItemLemmas.{item_of_reverse, place_within}
use Rattle.pliron_graph_traversal.proofs.PlaceLemmas.{equal_at_place}

module _ {N : Type 0} (eq : N → N → Bool) (laws : IsEquivalence eq) (same : (x y : N) → eq x y ≡ true → x ≡ y) where
  module _ (order nodes sorted : List N) (perm : IsPermutation nodes sorted) where
    pub reversed_same : (v : N) → (Contains (reverse sorted) v ↔ Contains nodes v)
    reversed_same v =
        let all : IsPermutation nodes (reverse sorted) = IsPermutation-trans nodes sorted (reverse sorted) perm (IsPermutation-reverse sorted) in
        (Contains-permutation (reverse sorted) nodes v (IsPermutation-sym nodes (reverse sorted) all), Contains-permutation nodes (reverse sorted) v all)

    pub reversed_falls : IsDistinct eq nodes → All (IsListed eq order) nodes → IsNonDecreasingBy (number_in eq order) sorted → Descends (number_in eq order) (reverse sorted)
    reversed_falls distinct listed rises i j u v l at_i at_j = by (number_in eq order v) (number_in eq order u) refl refl (cases (number_in eq order v) (number_in eq order u))
      where
        cases : (m n : ℕ) → (m < n) ⊎ ((m ≡ n) ⊎ (n < m))
        cases m n = grind arith

        here : slice_get sorted (length sorted - 1 - i) ≡ Some u
        here = item_of_reverse sorted i u at_i

        there : slice_get sorted (length sorted - 1 - j) ≡ Some v
        there = item_of_reverse sorted j v at_j

        low : length sorted - 1 - j < length sorted - 1 - i
        low = omega (arith, l, slice_get_within (reverse sorted) j v at_j, length-reverse sorted)

        at_most : number_in eq order v ≤ number_in eq order u
        at_most =
            let k = rises (length sorted - 1 - j) (length sorted - 1 - i) u (omega (arith, low)) (slice_get_within sorted (length sorted - 1 - i) u here) in
            omega (arith, k, ap (number_in eq order) (get_or_from_slice_get sorted (length sorted - 1 - j) v u there), ap (number_in eq order) (get_or_from_slice_get sorted (length sorted - 1 - i) u u here))

        within : number_in eq order v < length order
        within =
            let member : Contains nodes v = (reversed_same v).0 (contains_from (reverse sorted) v (in_from_item (reverse sorted) j v at_j)) in
            place_within eq same laws.refl order v (in_from_any eq same laws.refl order v (All-contains (IsListed eq order) nodes v listed member))

        sorted_distinct : IsDistinct eq sorted
        sorted_distinct = IsDistinct-IsPermutation eq laws.symm nodes sorted perm distinct

        by : (m n : ℕ) → number_in eq order v ≡ m → number_in eq order u ≡ n → (m < n) ⊎ ((m ≡ n) ⊎ (n < m)) → m < n
        by m n p q (inl k) = k
        by m n p q (inr (inr k)) = absurd (omega (arith, k, p, q, at_most))
        by m n p q (inr (inl k)) =
            let one : v ≡ u = same v u (equal_at_place eq laws order v u within (p ∙ k ∙ sym q)) in
            absurd (stands_once eq laws same sorted (length sorted - 1 - j) (length sorted - 1 - i) v sorted_distinct low there (subst (λ z. slice_get sorted (length sorted - 1 - i) ≡ Some z) (sym one) here))
