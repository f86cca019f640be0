-- The kinds of an edge, by the numbers of its ends.
use Rattle.std.proofs.Common.{◌≡◌, ℕ, ◌<◌, ◌≤◌, Bool, length, arith, inl, inr, ◌⊎◌, sym}
use Rattle.std.specs.Cmp.{IsEquivalence}
use Rattle.pliron_graph_traversal.specs.Search.{Orders, number_in}
use Rattle.pliron_graph_traversal.specs.EdgeKinds.{IsForward, IsBack, IsCross, IsLater}
use Rattle.pliron_graph_traversal.proofs.PlaceLemmas.{equal_at_place, place_of_equal}

order : (m n : ℕ) → (m < n) ⊎ ((m ≡ n) ⊎ (n < m))
order m n = grind arith

module _ {N : Type 0} (eq : N → N → Bool) (laws : IsEquivalence eq) (o : Orders N) (from to : N) where
  pub equal_is_back : number_in eq o.pre from < length o.pre → number_in eq o.pre from ≡ number_in eq o.pre to → IsBack eq o from to
  equal_is_back l e = inl (equal_at_place eq laws o.pre from to l e)

  pub earlier_is_forward : number_in eq o.post from < length o.post → number_in eq o.pre from < number_in eq o.pre to → (IsLater eq o from to → ⊥) → IsForward eq o from to
  earlier_is_forward l before not_later = elim (order (number_in eq o.post to) (number_in eq o.post from)) [
    | inl k ↦ (before, k)
    | inr x ↦ elim x [
      | inl e ↦ absurd (omega (arith, before, place_of_equal eq laws o.pre from to (equal_at_place eq laws o.post from to l (sym e))))
      | inr k ↦ absurd (not_later (before, k))
    ]
  ]

  pub earlier_not_back : number_in eq o.pre from < number_in eq o.pre to → IsBack eq o from to → ⊥
  earlier_not_back before (inl e) = omega (arith, before, place_of_equal eq laws o.pre from to e)
  earlier_not_back before (inr e) = omega (arith, before, e.0)

  pub rest_is_cross : number_in eq o.post from < length o.post → number_in eq o.pre to < number_in eq o.pre from → number_in eq o.post to ≤ number_in eq o.post from → IsCross eq o from to
  rest_is_cross l before left = elim (order (number_in eq o.post to) (number_in eq o.post from)) [
    | inl k ↦ (before, k)
    | inr x ↦ elim x [
      | inl e ↦ absurd (omega (arith, before, place_of_equal eq laws o.pre from to (equal_at_place eq laws o.post from to l (sym e))))
      | inr k ↦ absurd (omega (arith, left, k))
    ]
  ]

  pub rest_not_back : number_in eq o.pre to < number_in eq o.pre from → number_in eq o.post to ≤ number_in eq o.post from → IsBack eq o from to → ⊥
  rest_not_back before left (inl e) = omega (arith, before, place_of_equal eq laws o.pre from to e)
  rest_not_back before left (inr e) = omega (arith, left, e.1)
