-- The set of operations that are visited once nothing else is ready.
use Rattle.std.proofs.Common.{◌≡◌, ◌⊎◌, inl, inr, ⊎_elim, ℕ, List, [], ◌∷◌, ◌++◌, Option, Some, None, refl, sym, ◌∙◌, subst}
use Rattle.pliron_core.specs.Changes.{IsDefinedInside}
use Rattle.pliron_core.specs.Tree.{Tree, In, IsLive, IsInside, Directly, IsWithin, parent_operation_of}
use Rattle.pliron_core.specs.Invariant.{IsTree}
use Rattle.pliron_core.proofs.ListLemmas.{In-left, In-right, In-cases}
use Rattle.pliron_core.proofs.HoldingLemmas.{some_is, inside_up, within_inside, not_itself}
use Rattle.pliron_opt_dce.specs.Worklist.{AreClosedUnderNesting, AddsParents}

-- the operation is there, or at the parent operation or around it
abbrev pub IsThereOrUp : Tree → List ℕ → Option ℕ → ℕ → Type 0
IsThereOrUp t ks o k = In k ks ⊎ ((h : ℕ) × (o ≡ Some h) × IsWithin t k h)

-- on the way up from what makes the value: all that is around what is there is there, or is still to come
pub record IsRising (t : Tree) (v : ℕ) (old ks : List ℕ) (o : Option ℕ) : Type 0 where
  pub kept : (k : ℕ) → In k old → In k ks
  pub closed : (k a : ℕ) → In k ks → IsLive t k → IsInside t a k → IsThereOrUp t ks o a
  pub above : (k h : ℕ) → In k ks → o ≡ Some h → In k old ⊎ IsInside t h k
  pub rest : (k : ℕ) → IsDefinedInside t k v → IsThereOrUp t ks o k

pub rising_starts : (t : Tree) (v : ℕ) (old : List ℕ) (o : Option ℕ) → AreClosedUnderNesting t old → ((k : ℕ) → IsDefinedInside t k v → (a : ℕ) × (o ≡ Some a) × IsWithin t k a) → IsRising t v old old o
rising_starts t v old o closed around = record {
  kept = λ k i. i;
  closed = λ k a i l j. inl (closed k a i l j);
  above = λ k h i e. inl i;
  rest = λ k i. inr (around k i);
}

module _ (t : Tree) (w : IsTree t) (v : ℕ) (old : List ℕ) where
  -- one more, and a step up
  pub rising_more : (ks ks' : List ℕ) (op : ℕ) (o : Option ℕ) → ks' ≡ ks ++ op ∷ [] → o ≡ parent_operation_of t op → IsRising t v old ks (Some op) → IsRising t v old ks' o
  rising_more ks ks' op o put up r = subst (λ z. IsRising t v old z o) (sym put) (record {
    kept = λ k i. In-left k ks (op ∷ []) (r.kept k i);
    closed = λ k a i l j. ⊎_elim (λ q. there a (r.closed k a q l j)) (λ q. over a (inr (subst (IsInside t a) (first k q) j))) (In-cases k ks (op ∷ []) i);
    above = λ k h i e. ⊎_elim (λ q. ⊎_elim (λ x. inl x) (λ x. inr (within_inside (Directly (sym up ∙ e)) (inr x))) (r.above k op q refl)) (λ q. inr (subst (IsInside t h) (sym (first k q)) (Directly (sym up ∙ e)))) (In-cases k ks (op ∷ []) i);
    rest = λ k i. there k (r.rest k i);
  })
    where
      first : (k : ℕ) → In k (op ∷ []) → k ≡ op
      first k (inl e) = e
      first k (inr i) = absurd i

      over : (a : ℕ) → IsWithin t a op → IsThereOrUp t (ks ++ op ∷ []) o a
      over a (inl e) = inl (In-right a ks (op ∷ []) (inl (sym e)))
      over a (inr j) = let y = inside_up j in inr (y.0, up ∙ y.1, y.2)

      there : (a : ℕ) → IsThereOrUp t ks (Some op) a → IsThereOrUp t (ks ++ op ∷ []) o a
      there a (inl i) = inl (In-left a ks (op ∷ []) i)
      there a (inr (h, e, q)) = over a (subst (IsWithin t a) (sym (some_is e)) q)

  -- where the parent operation is there already, so is all around it
  module _ (closed : AreClosedUnderNesting t old) (ks : List ℕ) (op : ℕ) (live : IsLive t op) (i : In op ks) (r : IsRising t v old ks (Some op)) where
    before : In op old
    before = ⊎_elim (λ x. x) (λ x. absurd (not_itself w.joined.rooted x)) (r.above op op i refl)

    there : (a : ℕ) → IsThereOrUp t ks (Some op) a → In a ks
    there a (inl x) = x
    there a (inr (h, e, inl s)) = subst (λ z. In z ks) (some_is e ∙ s) i
    there a (inr (h, e, inr j)) = r.kept a (closed op a before live (subst (IsInside t a) (sym (some_is e)) j))

    pub rising_stops : AddsParents t v old ks × AreClosedUnderNesting t ks
    rising_stops = (record { kept = r.kept; around = λ k j. there k (r.rest k j) }, λ k a j l q. there a (r.closed k a j l q))

  pub rising_ends : (ks : List ℕ) (o : Option ℕ) → o ≡ None → IsRising t v old ks o → AddsParents t v old ks × AreClosedUnderNesting t ks
  rising_ends ks o none r = (record { kept = r.kept; around = λ k j. there k (r.rest k j) }, λ k a j l q. there a (r.closed k a j l q))
    where
      there : (a : ℕ) → IsThereOrUp t ks o a → In a ks
      there a (inl x) = x
      there a (inr (h, e, q)) = let y : None ≡ Some h = sym none ∙ e in absurd (cc)
