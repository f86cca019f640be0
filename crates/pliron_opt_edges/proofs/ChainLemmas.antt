-- Chains of blocks that only pass on: where they end, and how long they are.
use Rattle.std.proofs.Common.{◌≡◌, ℕ, zero, suc, ◌+◌, Bool, List, [], ◌∷◌, refl, sym, ap, ◌∙◌, subst, arith}
use Rattle.pliron_core.specs.Tree.{Tree, successors_of}
use Rattle.pliron_laws.specs.Datum.{Head}
use Rattle.pliron_opt_edges.specs.Chains.{PassesOn, EndsAt, IsEndless, PassesOnTo}

abbrev first_or : ℕ → List ℕ → ℕ
first_or d [] = d
first_or d (x ∷ xs) = x

pub one_of : (x y : ℕ) → x ∷ [] ≡ y ∷ [] → x ≡ y
one_of x y e = ap (first_or x) e

module _ (is_branch : Head → Bool) (t : Tree) where
  -- a block passes on to one block
  pub same_next : (b c d : ℕ) → PassesOn is_branch t b c → PassesOn is_branch t b d → c ≡ d
  same_next b c d p q =
      let one : p.0 ≡ q.0 = one_of p.0 q.0 (sym p.1.body ∙ q.1.body) in
      one_of c d (sym p.1.leads ∙ ap (successors_of t) one ∙ q.1.leads)

  -- a chain ends once
  pub same_end : (n k b x y : ℕ) → EndsAt is_branch t n b x → EndsAt is_branch t k b y → (n ≡ k) × (x ≡ y)
  same_end zero zero b x y p q = (refl, sym p.0 ∙ q.0)
  same_end zero (suc k) b x y p q = absurd (p.1 q.0 q.1)
  same_end (suc n) zero b x y p q = absurd (q.1 p.0 p.1)
  same_end (suc n) (suc k) b x y p q =
      let one = same_next b p.0 q.0 p.1 q.1 in
      let r = same_end n k p.0 x y p.2 (subst (λ z. EndsAt is_branch t k z y) (sym one) q.2) in
      (ap suc r.0, r.1)

  -- it ends there whether it is walked at once or in two parts
  pub ends_behind : (j n b c x : ℕ) → PassesOnTo is_branch t j b c → EndsAt is_branch t n c x → (k : ℕ) × EndsAt is_branch t k b x
  ends_behind zero n b c x s e = (n, subst (λ z. EndsAt is_branch t n z x) (sym s) e)
  ends_behind (suc j) n b c x s e = let r = ends_behind j n s.0 c x s.2 e in (suc r.0, (s.0, s.1, r.1))

  pub ends_after : (j n b c x : ℕ) → PassesOnTo is_branch t j b c → EndsAt is_branch t n b x → (k : ℕ) × (n ≡ j + k) × EndsAt is_branch t k c x
  ends_after zero n b c x s e = (n, omega arith, subst (λ z. EndsAt is_branch t n z x) s e)
  ends_after (suc j) zero b c x s e = absurd (e.1 s.0 s.1)
  ends_after (suc j) (suc n) b c x s e =
      let one = same_next b e.0 s.0 e.1 s.1 in
      let r = ends_after j n s.0 c x s.2 (subst (λ z. EndsAt is_branch t n z x) one e.2) in
      let long : suc n ≡ suc j + r.0 = (let q = r.1 in omega (arith, q)) in
      (r.0, long, r.2)

  pub steps_more : (j b c d : ℕ) → PassesOnTo is_branch t j b c → PassesOn is_branch t c d → PassesOnTo is_branch t (suc j) b d
  steps_more zero b c d s p = (d, subst (λ z. PassesOn is_branch t z d) (sym s) p, refl)
  steps_more (suc j) b c d s p = (s.0, s.1, steps_more j s.0 c d s.2 p)

  -- nothing ends that comes to itself, or to what ends nowhere
  pub ring_endless : (j b : ℕ) → PassesOnTo is_branch t (suc j) b b → IsEndless is_branch t b
  ring_endless j b s = λ n x e.
      let r = ends_after (suc j) n b b x s e in
      let long = r.1 in
      let same = (same_end n r.0 b x x e r.2).0 in
      omega (arith, long, same)

  pub endless_before : (j b c : ℕ) → PassesOnTo is_branch t j b c → IsEndless is_branch t c → IsEndless is_branch t b
  endless_before j b c s none = λ n x e. let r = ends_after j n b c x s e in none r.0 x r.2

  -- the end passes on no further
  pub end_stays : (n b x : ℕ) → EndsAt is_branch t n b x → EndsAt is_branch t 0 x x
  end_stays zero b x e = (refl, subst (λ z. (c : ℕ) → PassesOn is_branch t z c → ⊥) e.0 e.1)
  end_stays (suc n) b x e = end_stays n e.0 x e.2
