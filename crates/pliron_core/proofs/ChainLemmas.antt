-- Chains of holders are no longer than the table of operations.
use Rattle.std.proofs.Common.{◌≡◌, ◌≢◌, ℕ, zero, suc, ◌<◌, ◌≤◌, Bool, true, false, List, [], ◌∷◌, length, Option, Some, None, refl, sym, ap, ◌∙◌, subst, inl, inr, arith, if◌then◌else◌}
use Rattle.pliron_core.specs.Tree.{climb, IsRooted, In, IsDistinct}
use Rattle.pliron_core.specs.Erased.{is_met}
use Rattle.pliron_core.proofs.ListLemmas.{distinct-length}

-- what is met in so many steps up
chain : (ℕ → Option ℕ) → ℕ → Option ℕ → List ℕ
chain h zero o = []
chain h (suc n) None = []
chain h (suc n) (Some x) = x ∷ chain h n (h x)

-- how many holders stand above, in so many steps up
abbrev pub height : (ℕ → Option ℕ) → ℕ → Option ℕ → ℕ
height h zero o = 0
height h (suc n) None = 0
height h (suc n) (Some x) = suc (height h n (h x))

pub climb_none : (h : ℕ → Option ℕ) (n : ℕ) → climb h n None ≡ None
climb_none h zero = refl
climb_none h (suc n) = climb_none h n

pub height-le : (h : ℕ → Option ℕ) (n : ℕ) (o : Option ℕ) → height h n o ≤ n
height-le h zero o = omega arith
height-le h (suc n) None = omega arith
height-le h (suc n) (Some x) = let r = height-le h n (h x) in omega (arith, r)

-- once the chain has ended, one more step up makes no difference
pub height_more : (h : ℕ → Option ℕ) (n : ℕ) (o : Option ℕ) → climb h n o ≡ None → height h (suc n) o ≡ height h n o
height_more h zero None e = refl
height_more h zero (Some x) e = absurd (cc)
height_more h (suc n) None e = refl
height_more h (suc n) (Some x) e = ap suc (height_more h n (h x) e)

pub is_met_more : (h : ℕ → Option ℕ) (p : ℕ → Bool) (n : ℕ) (o : Option ℕ) → climb h n o ≡ None → is_met h p (suc n) o ≡ is_met h p n o
is_met_more h p zero None e = refl
is_met_more h p zero (Some x) e = absurd (cc)
is_met_more h p (suc n) None e = refl
is_met_more h p (suc n) (Some x) e = ap (λ b. if p x then true else b) (is_met_more h p n (h x) e)

-- the parent operations matter only above what fails the test
pub is_met_same : (h k : ℕ → Option ℕ) (p : ℕ → Bool) (n : ℕ) (o : Option ℕ) → ((x : ℕ) → p x ≡ false → k x ≡ h x) → is_met k p n o ≡ is_met h p n o
is_met_same h k p zero o same = refl
is_met_same h k p (suc n) None same = refl
is_met_same h k p (suc n) (Some x) same = go (p x) refl (λ e. ap (is_met k p n) (same x e) ∙ is_met_same h k p n (h x) same)
  where
    go : (b : Bool) → p x ≡ b → (p x ≡ false → is_met k p n (k x) ≡ is_met h p n (h x)) → (if b then true else is_met k p n (k x)) ≡ (if b then true else is_met h p n (h x))
    go true e rest = refl
    go false e rest = rest e

module _ (h : ℕ → Option ℕ) where
  -- from y the way leads to x
  Leads : ℕ → ℕ → Type 0
  Leads x y = (j : ℕ) × (climb h j (Some y) ≡ Some x)

  some_up : (x j : ℕ) (o : Option ℕ) → climb h j o ≡ Some x → (z : ℕ) × (o ≡ Some z)
  some_up x j None e = let z : None ≡ Some x = sym (climb_none h j) ∙ e in absurd (cc)
  some_up x j (Some z) e = (z, refl)

  -- no way leads round
  endless : (x i : ℕ) → climb h (suc i) (Some x) ≡ Some x → (n y : ℕ) → Leads x y → climb h n (Some y) ≢ None
  unfolding Leads
  endless x i round zero y l e = cc
  endless x i round (suc n) y (zero, f) e =
      let s : y ≡ x = cc in
      let r : climb h i (h y) ≡ Some x = ap (λ z. climb h i (h z)) s ∙ round in
      let z = some_up x i (h y) r in
      endless x i round n z.0 (i, ap (climb h i) (sym z.1) ∙ r) (ap (climb h n) (sym z.1) ∙ e)
  endless x i round (suc n) y (suc j, f) e =
      let z = some_up x j (h y) f in
      endless x i round n z.0 (j, ap (climb h j) (sym z.1) ∙ f) (ap (climb h n) (sym z.1) ∙ e)

  in_chain : (n : ℕ) (o : Option ℕ) (x : ℕ) → In x (chain h n o) → (i : ℕ) × (climb h i o ≡ Some x)
  unfolding chain
  in_chain zero o x i = absurd i
  in_chain (suc n) None x i = absurd i
  in_chain (suc n) (Some y) x (inl e) = (0, ap Some (sym e))
  in_chain (suc n) (Some y) x (inr i) = let r = in_chain n (h y) x i in (suc r.0, r.1)

  chain-distinct : IsRooted h → (n : ℕ) (o : Option ℕ) → IsDistinct (chain h n o)
  unfolding chain Leads
  chain-distinct rooted zero o = tt
  chain-distinct rooted (suc n) None = tt
  chain-distinct rooted (suc n) (Some x) = (
    λ i. let r = in_chain n (h x) x i in endless x r.0 r.1 (rooted x).0 x (0, refl) (rooted x).1,
    chain-distinct rooted n (h x),
  )

  -- a chain that hasn't ended is long
  long : (n : ℕ) (o : Option ℕ) (z : ℕ) → climb h n o ≡ Some z → length (chain h (suc n) o) ≡ suc n
  unfolding chain
  long zero None z e = absurd (cc)
  long zero (Some x) z e = refl
  long (suc n) None z e = let f : None ≡ Some z = sym (climb_none h n) ∙ e in absurd (cc)
  long (suc n) (Some x) z e = ap suc (long n (h x) z e)

  below : (count : ℕ) → ((x y : ℕ) → h x ≡ Some y → y < count) → (n : ℕ) (o : Option ℕ) → ((x : ℕ) → o ≡ Some x → x < count) → (x : ℕ) → In x (chain h n o) → x < count
  unfolding chain
  below count held zero o start x i = absurd i
  below count held (suc n) None start x i = absurd i
  below count held (suc n) (Some y) start x (inl e) = subst (λ z. z < count) (sym e) (start y refl)
  below count held (suc n) (Some y) start x (inr i) = below count held n (h y) (λ z e. held y z e) x i

  pub climb_ends : IsRooted h → (count : ℕ) → ((x y : ℕ) → h x ≡ Some y → y < count) → (x : ℕ) → x < count → climb h count (Some x) ≡ None
  climb_ends rooted count held x lt = go (climb h count (Some x)) refl
    where
      go : (o : Option ℕ) → climb h count (Some x) ≡ o → o ≡ None
      go None e = refl
      go (Some z) e =
          let most : length (chain h (suc count) (Some x)) ≤ count = distinct-length count _ (chain-distinct rooted (suc count) (Some x)) (below count held (suc count) (Some x) (λ y f. let s : x ≡ y = cc in subst (λ w. w < count) s lt)) in
          absurd (omega (arith, most, long count (Some x) z e))

-- the test at an operation, by the test at its holder
pub is_met_step : (h : ℕ → Option ℕ) (p : ℕ → Bool) → IsRooted h → (count : ℕ) → ((x y : ℕ) → h x ≡ Some y → y < count) → (x : ℕ) → x < count → is_met h p count (Some x) ≡ (if p x then true else is_met h p count (h x))
is_met_step h p rooted zero held x lt = absurd (omega arith)
is_met_step h p rooted (suc n) held x lt = ap (λ b. if p x then true else b) (sym (is_met_more h p n (h x) (climb_ends h rooted (suc n) held x lt)))

pub height_step : (h : ℕ → Option ℕ) → IsRooted h → (count : ℕ) → ((x y : ℕ) → h x ≡ Some y → y < count) → (x : ℕ) → x < count → height h count (Some x) ≡ suc (height h count (h x))
height_step h rooted zero held x lt = absurd (omega arith)
height_step h rooted (suc n) held x lt = ap suc (sym (height_more h n (h x) (climb_ends h rooted (suc n) held x lt)))
