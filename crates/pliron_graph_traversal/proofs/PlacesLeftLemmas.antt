-- The places in one order of what stands in two, by its places in the other.
use Rattle.std.proofs.Common.{◌≡◌, ℕ, ◌+◌, ◌<◌, ◌⊎◌, Bool, true, List, length, get_or, set, sym, ◌∙◌, ap, subst, arith, inl, inr}
use Rattle.std.specs.Cmp.{IsEquivalence}
use Rattle.std.specs.List.{All, IsDistinct}
use Rattle.std.proofs.lemmas.List.{get_or-set_same, get_or-set_other, get_or_default}
use Rattle.std.proofs.lemmas.List.Sums.{passes_at_first}
use Rattle.std.proofs.lemmas.List.Elements.{Contains-get_or}
use Rattle.pliron_graph_traversal.specs.Digraph.{Digraph}
use Rattle.pliron_graph_traversal.specs.Internal.Membership.{HasMember, in_from, any_from_in}
use Rattle.pliron_graph_traversal.specs.Search.{IsListed, IsSearch, number_in}
use Rattle.pliron_graph_traversal.proofs.PlaceLemmas.{equal_at_place, place_at, listed_within}

module _ {N : Type 0} (eq : N → N → Bool) (laws : IsEquivalence eq) (same : (x y : N) → eq x y ≡ true → x ≡ y) (pre post : List N) (distinct : IsDistinct eq post) where
  order : (j k : ℕ) → j < k + 1 → (j < k) ⊎ (j ≡ k)
  order j k l = grind (arith, l)

  -- one place more is written
  pub one_more : (listed : All (IsListed eq pre) post) (places : List ℕ) (k : ℕ) (v : N) → length places ≡ length pre → k < length post → v ≡ get_or post k v
      → ((j : ℕ) (d : N) → j < k → get_or places (number_in eq pre (get_or post j d)) 0 ≡ j)
      → (j : ℕ) (d : N) → j < k + 1 → get_or (set places (number_in eq pre v) k) (number_in eq pre (get_or post j d)) 0 ≡ j
  one_more listed places k v counted low at gives j d l = elim (order j k l) [
    | inl less ↦
        let apart : number_in eq pre v ≡ number_in eq pre (get_or post j d) → ⊥ = λ e.
        let one : v ≡ get_or post j d = same v (get_or post j d) (equal_at_place eq laws pre v (get_or post j d) within e) in
        let here : number_in eq post v ≡ k = ap (number_in eq post) at ∙ place_at eq laws post k v distinct low in
        let there : number_in eq post v ≡ j = ap (number_in eq post) one ∙ place_at eq laws post j d distinct (omega (arith, less, low)) in
        omega (arith, here, there, less) in
        get_or-set_other places (number_in eq pre v) (number_in eq pre (get_or post j d)) k 0 (λ e. apart (sym e)) ∙ gives j d less
    | inr equal ↦
        let one : get_or post j d ≡ v = ap (λ i. get_or post i d) equal ∙ sym (at ∙ get_or_default post k v d low) in
        ap (λ w. get_or (set places (number_in eq pre v) k) (number_in eq pre w) 0) one ∙ get_or-set_same places (number_in eq pre v) k 0 (omega (arith, counted, within)) ∙ sym equal
  ]
    where
      within : number_in eq pre v < length pre
      within = listed_within (eq v) pre (subst (IsListed eq pre) (sym at) (listed k v low))

  pub all_told : (places : List ℕ) → ((j : ℕ) (d : N) → j < length post → get_or places (number_in eq pre (get_or post j d)) 0 ≡ j) → All (λ v. get_or places (number_in eq pre v) 0 ≡ number_in eq post v) post
  all_told places gives = λ k d l. gives k d l ∙ sym (place_at eq laws post k d distinct l)

  -- so it is of whatever stands there
  pub told_of : (places : List ℕ) → All (λ v. get_or places (number_in eq pre v) 0 ≡ number_in eq post v) post → (v : N) → IsListed eq post v → get_or places (number_in eq pre v) 0 ≡ number_in eq post v
  told_of places all v h =
      let low : number_in eq post v < length post = listed_within (eq v) post h in
      let is : v ≡ get_or post (number_in eq post v) v = same v (get_or post (number_in eq post v) v) (passes_at_first (eq v) post v low) in
      subst (λ w. get_or places (number_in eq pre w) 0 ≡ number_in eq post w) (sym is) (all (number_in eq post v) v low)

-- what a search left it had found
module _ {N : Type 0} (eq : N → N → Bool) (same : (x y : N) → eq x y ≡ true → x ≡ y) (reflexive : (x : N) → eq x x ≡ true) (g : Digraph N) (roots pre post : List N) (search : IsSearch eq g roots (record { pre = pre; post = post })) where
  pub left_was_found : (v : N) → HasMember post v → IsListed eq pre v
  left_was_found v h = (search.pre_listed v).1 ((search.post_listed v).0 (any_from_in eq same reflexive post v h))

  pub left_were_found : All (IsListed eq pre) post
  left_were_found = λ k d l. left_was_found (get_or post k d) (in_from post (get_or post k d) (Contains-get_or post k d l))
