-- Two numberings of the same nodes are one where they stand in one order, and so are lists by them.
use Rattle.std.proofs.Common.{◌≡◌, ℕ, zero, suc, ◌<◌, ◌≤◌, Bool, true, List, length, get_or, Some, slice_get, sym, ◌∙◌, ap, subst, arith, inl, inr, ◌⊎◌}
use Rattle.std.proofs.lemmas.List.{same_lists}
use Rattle.std.proofs.lemmas.Option.{get_or_from_slice_get}
use Rattle.pliron_graph_traversal.specs.Search.{Numbers, number_in}
use Rattle.pliron_graph_components.proofs.ItemLemmas.{item_at_place}

pub order : (m n : ℕ) → (m < n) ⊎ ((m ≡ n) ⊎ (n < m))
order m n = grind arith

module _ {N : Type 0} (P : N → Type 0) (a b : N → ℕ) (n m : ℕ) (in_a : Numbers P a n) (in_b : Numbers P b m) where
  -- what has a number below k in one has the same in the other
  abbrev pub AgreeBelow : ℕ → Type 0
  AgreeBelow k = (v : N) → P v → (a v < k) ⊎ (b v < k) → a v ≡ b v

  -- the nodes numbered k are one, where all numbers below k are the same
  abbrev pub IsFixedByEarlier : Type 0
  IsFixedByEarlier = (k : ℕ) (v u : N) → AgreeBelow k → P v → P u → a v ≡ k → b u ≡ k → v ≡ u

  module _ (fixed : IsFixedByEarlier) where
    agree : (k : ℕ) → AgreeBelow k
    agree zero v h (inl l) = absurd (omega (arith, l))
    agree zero v h (inr l) = absurd (omega (arith, l))
    agree (suc k) v h (inl l) = elim (order (a v) k) [
      | inl less ↦ agree k v h (inl less)
      | inr x ↦ elim x [
        | inr more ↦ absurd (omega (arith, l, more))
        | inl e ↦ elim (order (b v) k) [
          | inl less ↦ agree k v h (inr less)
          | inr y ↦
              let most : k ≤ b v = elim y [ inl s ↦ omega (arith, s) | inr s ↦ omega (arith, s) ] in
              let u = in_b.each k (omega (arith, most, in_b.within v h)) in
              e ∙ sym u.2 ∙ ap b (sym (fixed k v u.0 (agree k) h u.1 e u.2))
        ]
      ]
    ]
    agree (suc k) v h (inr l) = elim (order (b v) k) [
      | inl less ↦ agree k v h (inr less)
      | inr x ↦ elim x [
        | inr more ↦ absurd (omega (arith, l, more))
        | inl e ↦ elim (order (a v) k) [
          | inl less ↦ agree k v h (inl less)
          | inr y ↦
              let most : k ≤ a v = elim y [ inl s ↦ omega (arith, s) | inr s ↦ omega (arith, s) ] in
              let u = in_a.each k (omega (arith, most, in_a.within v h)) in
              ap a (sym (fixed k u.0 v (agree k) u.1 h u.2 e)) ∙ u.2 ∙ sym e
        ]
      ]
    ]

    pub same_numbers : (v : N) → P v → a v ≡ b v
    same_numbers v h = agree (suc (a v)) v h (inl (omega arith))

  -- numbers in one order are the same
  pub same_by_order : ((u v : N) → P u → P v → a u < a v → b u < b v) → (v : N) → P v → a v ≡ b v
  same_by_order rises = same_numbers fixed
    where
      fixed : IsFixedByEarlier
      fixed k v u agree hv hu e d = elim (order (a u) k) [
        | inl less ↦ absurd (omega (arith, agree u hu (inl less), less, d))
        | inr x ↦ elim x [
          | inl s ↦ in_a.once v u hv hu (e ∙ sym s)
          | inr more ↦
              let before : b v < b u = rises v u hv hu (omega (arith, e, more)) in
              absurd (omega (arith, agree v hv (inr (omega (arith, before, d))), e, d, before))
        ]
      ]

  -- where all numbers are the same, so are the counts
  pub same_counts : ((v : N) → P v → a v ≡ b v) → n ≡ m
  same_counts same = elim (order n m) [
    | inl l ↦ let r = in_b.each n l in absurd (omega (arith, in_a.within r.0 r.1, same r.0 r.1, r.2))
    | inr x ↦ elim x [
      | inl e ↦ e
      | inr l ↦ let r = in_a.each m l in absurd (omega (arith, in_b.within r.0 r.1, same r.0 r.1, r.2))
    ]
  ]

-- two lists that give the same places are one
pub same_by_places : {N : Type 0} (eq : N → N → Bool) (same : (x y : N) → eq x y ≡ true → x ≡ y) (reflexive : (x : N) → eq x x ≡ true) (P : N → Type 0) (xs ys : List N) → length xs ≡ length ys → Numbers P (number_in eq xs) (length xs)
    → ((v : N) → P v → number_in eq xs v ≡ number_in eq ys v) → xs ≡ ys
same_by_places {N} eq same reflexive P xs ys lengths numbers places = same_lists xs ys lengths at
  where
    at : (k : ℕ) (d : N) → k < length xs → get_or xs k d ≡ get_or ys k d
    at k d l =
        let r = numbers.each k l in
        let there : number_in eq ys r.0 ≡ k = sym (places r.0 r.1) ∙ r.2 in
        let one : slice_get xs k ≡ Some r.0 = subst (λ j. slice_get xs j ≡ Some r.0) r.2 (item_at_place eq same reflexive xs r.0 (omega (arith, r.2, l))) in
        let two : slice_get ys k ≡ Some r.0 = subst (λ j. slice_get ys j ≡ Some r.0) there (item_at_place eq same reflexive ys r.0 (omega (arith, there, l, lengths))) in
        get_or_from_slice_get xs k r.0 d one ∙ sym (get_or_from_slice_get ys k r.0 d two)
