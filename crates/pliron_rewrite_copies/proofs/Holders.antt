-- Operations that hold the same operation, at some depth.
use Rattle.std.proofs.Common.{◌≡◌, ◌⊎◌, inl, inr, ℕ, Some, sym, ap, ◌∙◌, subst}
use Rattle.pliron_core.specs.Tree.{Tree, IsInside, IsInside.Directly, IsInside.Deeper, IsWithin, IsRooted, parent_operation_of}
use Rattle.pliron_core.proofs.HoldingLemmas.{some_is, inside_up, inside_by, deeper, within_inside, not_itself}

module _ (t : Tree) (rooted : IsRooted (parent_operation_of t)) where
  -- what is inside something has no parent operation that is it or inside it
  pub no_ring : (a q : ℕ) → parent_operation_of t a ≡ Some q → IsWithin t a q → ⊥
  no_ring a q e i = not_itself rooted (inside_by q e i)

  -- of two operations around a third, the one is inside the other
  pub compare : (a z k : ℕ) → IsWithin t a k → IsInside t z k → IsInside t z a ⊎ IsWithin t a z
  compare a z k (inl e) j = inl (subst (IsInside t z) e j)
  compare a z k (inr (Directly e)) j = let u = inside_up j in at u.0 (some_is (sym u.1 ∙ e)) u.2
    where
      at : (p : ℕ) → p ≡ a → IsWithin t z p → IsInside t z a ⊎ IsWithin t a z
      at p f (inl g) = inr (inl (sym g ∙ f))
      at p f (inr i) = inl (subst (IsInside t z) f i)
  compare a z k (inr (Deeper p e i)) j = let u = inside_up j in at (λ x. compare a z p (inr i) x) u.0 (some_is (sym u.1 ∙ e)) u.2
    where
      at : (IsInside t z p → IsInside t z a ⊎ IsWithin t a z) → (q : ℕ) → q ≡ p → IsWithin t z q → IsInside t z a ⊎ IsWithin t a z
      at again q f (inl g) = inr (inr (subst (IsInside t a) (sym f ∙ g) i))
      at again q f (inr x) = again (subst (IsInside t z) f x)

  -- around an operation there is one operation with a given parent
  pub one_around : (a b q k : ℕ) → parent_operation_of t a ≡ Some q → parent_operation_of t b ≡ Some q → IsWithin t a k → IsWithin t b k → a ≡ b
  one_around a b q k ea eb i (inl f) = from_within i
    where
      from_within : IsWithin t a k → a ≡ b
      from_within (inl e) = sym e ∙ f
      from_within (inr x) = let u = inside_up (subst (IsInside t a) f x) in absurd (no_ring a q ea (subst (IsWithin t a) (some_is (sym u.1 ∙ eb)) u.2))
  one_around a b q k ea eb i (inr x) = from_inside (compare a b k i x)
    where
      from_inside : IsInside t b a ⊎ IsWithin t a b → a ≡ b
      from_inside (inl y) = let u = inside_up y in absurd (no_ring b q eb (subst (IsWithin t b) (some_is (sym u.1 ∙ ea)) u.2))
      from_inside (inr (inl e)) = sym e
      from_inside (inr (inr y)) = let u = inside_up y in absurd (no_ring a q ea (subst (IsWithin t a) (some_is (sym u.1 ∙ eb)) u.2))
