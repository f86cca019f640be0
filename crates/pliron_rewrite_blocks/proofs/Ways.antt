-- Paths to a block that one block alone leads to.
use Rattle.std.proofs.Common.{◌≡◌, ◌≢◌, inl, inr, ⊎_elim, ℕ, List, [], ◌∷◌, sym, ◌∙◌, subst}
use Rattle.pliron_core.specs.Tree.{Tree, In}
use Rattle.pliron_core.proofs.ListLemmas.{decide_in}
use Rattle.pliron_laws.specs.Paths.{Path, Leads}

-- some path from the entry to the block c misses the block b
pub record Misses (t : Tree) (entry c b : ℕ) : Type 0 where
  pub before : List ℕ
  pub path : Path t entry c before
  pub missed : In b (c ∷ before) → ⊥

-- the part of a path up to one of its blocks
pub prefix : (t : Tree) (a c d : ℕ) (before : List ℕ) → Path t a c before → In d (c ∷ before) → (part : List ℕ) × Path t a d part × ((z : ℕ) → In z (d ∷ part) → In z (c ∷ before))
prefix t a c d before p (inl e) = (before, subst (λ x. Path t a x before) (sym e) p, λ z i. subst (λ x. In z (x ∷ before)) e i)
prefix t a c d [] p (inr i) = absurd i
prefix t a c d (b ∷ before) p (inr i) =
    let x = prefix t a b d before p.1 i in
    (x.0, x.1, λ z j. inr (x.2 z j))

module _ (t : Tree) (entry a b : ℕ) (only : (c : ℕ) → Leads t c b → c ≡ a) (inner : entry ≢ b) where
  -- what passed b came to the end of a before
  pub came_from : (c : ℕ) (before : List ℕ) → Path t entry c before → In b (c ∷ before) → (part : List ℕ) × Path t entry a part × ((z : ℕ) → In z (a ∷ part) → In z before)
  came_from c [] p (inl e) = absurd (inner (p ∙ sym e))
  came_from c [] p (inr i) = absurd i
  came_from c (x ∷ before) p (inl e) =
      let f : x ≡ a = only x (subst (Leads t x) (sym e) p.0) in
      (before, subst (λ y. Path t entry y before) f p.1, λ z i. subst (λ y. In z (y ∷ before)) (sym f) i)
  came_from c (x ∷ before) p (inr i) =
      let r = came_from x before p.1 i in
      (r.0, r.1, λ z j. inr (r.2 z j))

  -- and the first time not through b
  to_first : (c : ℕ) (before : List ℕ) → Path t entry c before → In b (c ∷ before) → Misses t entry a b
  to_first c [] p (inl e) = absurd (inner (p ∙ sym e))
  to_first c [] p (inr i) = absurd i
  to_first c (x ∷ before) p i = ⊎_elim
      (λ j. to_first x before p.1 j)
      (λ no.
      let e : b ≡ c = ⊎_elim (λ y. y) (λ j. absurd (no j)) i in
      let f : x ≡ a = only x (subst (Leads t x) (sym e) p.0) in
      record { before = before; path = subst (λ y. Path t entry y before) f p.1; missed = λ j. no (subst (λ y. In b (y ∷ before)) (sym f) j) })
      (decide_in b (x ∷ before))

  -- where every path to the end of a passes a block, some path to that block misses b
  pub misses : (d : ℕ) → ((before : List ℕ) → Path t entry a before → In d (a ∷ before)) → (before : List ℕ) → Path t entry d before → Misses t entry d b
  misses d dominates before p = ⊎_elim
      (λ i.
      let f = to_first d before p i in
      let x = prefix t entry a d f.before f.path (dominates f.before f.path) in
      record { before = x.0; path = x.1; missed = λ j. f.missed (x.2 b j) })
      (λ no. record { before = before; path = p; missed = no })
      (decide_in b (d ∷ before))
