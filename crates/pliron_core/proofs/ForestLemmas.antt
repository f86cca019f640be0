-- What stands below what, where each has at most one holder.
use Rattle.std.proofs.Common.{◌≡◌, ◌⊎◌, ℕ, zero, suc, ◌+◌, ◌<◌, ◌≤◌, List, [], ◌∷◌, ◌++◌, length, Option, Some, None, refl, sym, ap, ◌∙◌, subst, inl, inr, arith}
use Rattle.std.specs.List.{flat_map}
use Rattle.std.proofs.lemmas.List.Concat.{flat_map-append}
use Rattle.pliron_core.specs.Lists.{In, IsDistinct}
use Rattle.pliron_core.specs.Tree.{climb, IsRooted}
use Rattle.pliron_core.specs.Walks.{descend}
use Rattle.pliron_core.proofs.ListLemmas.{distinct-length}
use Rattle.pliron_core.proofs.FlatLemmas.{In-flat_map, flat_map-In, distinct-flat_map, flat_map-same, flat_map-none, length-piece}

-- x stands below k, where h is the parent operation
pub data IsBelow (h : ℕ → Option ℕ) (k : ℕ) : ℕ → Type 0 where
  Held : {x : ℕ} → h x ≡ Some k → IsBelow h k x
  Over : {x : ℕ} (p : ℕ) → h x ≡ Some p → IsBelow h k p → IsBelow h k x

abbrev pub IsAtOrBelow : (ℕ → Option ℕ) → ℕ → ℕ → Type 0
IsAtOrBelow h k x = (x ≡ k) ⊎ IsBelow h k x

-- `kids` lists what each holds, every chain of holders ends, and what is held has a key below n
pub record IsForest (h : ℕ → Option ℕ) (kids : ℕ → List ℕ) (n : ℕ) : Type 0 where
  pub listed : (x k : ℕ) → h x ≡ Some k → In x (kids k)
  pub held : (x k : ℕ) → In x (kids k) → h x ≡ Some k
  pub distinct : (k : ℕ) → IsDistinct (kids k)
  pub rooted : IsRooted h
  pub within : (x k : ℕ) → h x ≡ Some k → x < n

some_is : {a b : ℕ} → Some a ≡ Some b → a ≡ b
some_is e = cc

module _ (h : ℕ → Option ℕ) where
  -- the last step
  pub below_step : (k x : ℕ) → IsBelow h k x → (p : ℕ) × (h x ≡ Some p) × IsAtOrBelow h k p
  below_step k x (Held e) = (k, e, inl refl)
  below_step k x (Over p e u) = (p, e, inr u)

  pub below_from : (k x p : ℕ) → h x ≡ Some p → IsAtOrBelow h k p → IsBelow h k x
  below_from k x p e (inl s) = Held (e ∙ ap Some s)
  below_from k x p e (inr u) = Over p e u

  pub below_trans : (a b x : ℕ) → IsBelow h a b → IsBelow h b x → IsBelow h a x
  below_trans a b x u (Held e) = Over b e u
  below_trans a b x u (Over p e v) = Over p e (below_trans a b p u v)

  pub below_under : (a b x : ℕ) → IsAtOrBelow h a b → IsBelow h b x → IsBelow h a x
  below_under a b x (inl e) u = subst (λ z. IsBelow h z x) e u
  below_under a b x (inr v) u = below_trans a b x v u

  -- the first step
  pub below_top : (k x : ℕ) → IsBelow h k x → (c : ℕ) × (h c ≡ Some k) × IsAtOrBelow h c x
  below_top k x (Held e) = (x, e, inl refl)
  below_top k x (Over p e u) = let r = below_top k p u in (r.0, r.1, inr (below_from r.0 x p e r.2))

  not_below-itself : (n x : ℕ) → climb h n (Some x) ≡ None → IsBelow h x x → ⊥
  not_below-itself zero x e u = absurd (cc)
  not_below-itself (suc n) x e u =
      let s = below_step x x u in
      not_below-itself n s.0 (ap (climb h n) (sym s.1) ∙ e) (elim s.2 [ inl p ↦ Held (ap h p ∙ s.1) | inr v ↦ below_trans s.0 x s.0 (Held s.1) v ])

  -- of two that stand above the same, one stands above the other
  pub below_linear : (a b x : ℕ) → IsBelow h a x → IsAtOrBelow h b x → IsAtOrBelow h a b ⊎ IsAtOrBelow h b a
  below_linear a b x (Held e) (inl s) = inl (inr (Held (ap h (sym s) ∙ e)))
  below_linear a b x (Held e) (inr v) = let s = below_step b x v in inr (subst (IsAtOrBelow h b) (some_is (sym s.1 ∙ e)) s.2)
  below_linear a b x (Over p e u) (inl s) = inl (inr (subst (IsBelow h a) s (Over p e u)))
  below_linear a b x (Over p e u) (inr v) = let s = below_step b x v in below_linear a b p u (subst (IsAtOrBelow h b) (some_is (sym s.1 ∙ e)) s.2)

-- no chain of more than m stands below k
abbrev pub IsShallow : (ℕ → List ℕ) → ℕ → ℕ → Type 0
IsShallow kids zero k = (c : ℕ) → In c (kids k) → ⊥
IsShallow kids (suc m) k = (c : ℕ) → In c (kids k) → IsShallow kids m c

module _ (h : ℕ → Option ℕ) (kids : ℕ → List ℕ) (n : ℕ) (is : IsForest h kids n) where
  pub no_loop : (x : ℕ) → IsBelow h x x → ⊥
  no_loop x u = let r = is.rooted x in not_below-itself h r.0 x r.1 u

  same_sibling : (c d k : ℕ) → h c ≡ Some k → h d ≡ Some k → IsAtOrBelow h c d → c ≡ d
  same_sibling c d k e f (inl s) = sym s
  same_sibling c d k e f (inr u) =
      let s = below_step h c d u in
      absurd (no_loop c (below_under h c k c (subst (IsAtOrBelow h c) (some_is (sym s.1 ∙ f)) s.2) (Held e)))

  -- two with one holder have nothing in common
  pub siblings_apart : (c d k z : ℕ) → h c ≡ Some k → h d ≡ Some k → IsAtOrBelow h c z → IsAtOrBelow h d z → c ≡ d
  siblings_apart c d k z e f (inl s) v = sym (same_sibling d c k f e (subst (IsAtOrBelow h d) s v))
  siblings_apart c d k z e f (inr u) v = elim (below_linear h c d z u v) [ inl a ↦ same_sibling c d k e f a | inr b ↦ sym (same_sibling d c k f e b) ]

  pub descend-below : (m k x : ℕ) → In x (descend kids m k) → IsBelow h k x
  descend-below zero k x i = absurd i
  descend-below (suc m) k x i =
      let r = flat_map-In (λ c. c ∷ descend kids m c) (kids k) x i in
      elim r.2 [ inl e ↦ Held (ap h e ∙ is.held r.0 k r.1) | inr j ↦ below_trans h k r.0 x (Held (is.held r.0 k r.1)) (descend-below m r.0 x j) ]

  at_or_below : (m c z : ℕ) → In z (c ∷ descend kids m c) → IsAtOrBelow h c z
  at_or_below m c z (inl e) = inl e
  at_or_below m c z (inr j) = inr (descend-below m c z j)

  pub distinct-descend : (m k : ℕ) → IsDistinct (descend kids m k)
  distinct-descend zero k = tt
  distinct-descend (suc m) k =
      distinct-flat_map (λ c. c ∷ descend kids m c) (kids k) (is.distinct k) (λ c i. (λ j. no_loop c (descend-below m c c j), distinct-descend m c)) (λ c d z i j a b. siblings_apart c d k z (is.held c k i) (is.held d k j) (at_or_below m c z a) (at_or_below m d z b))

  -- a path of distinct keys down to k
  shallow_from : (m k : ℕ) (path : List ℕ) → length path + m ≡ n → IsDistinct path → ((p : ℕ) → In p path → p < n) → ((p : ℕ) → In p path → IsAtOrBelow h p k) → IsShallow kids m k
  shallow_from zero k path long d below above = λ c i.
      let one : c < n = is.within c k (is.held c k i) in
      let short : length (c ∷ path) ≤ n = distinct-length n (c ∷ path) (λ j. no_loop c (below_under h c k c (above c j) (Held (is.held c k i))), d) (λ p j. elim j [ inl e ↦ subst (λ z. z < n) (sym e) one | inr r ↦ below p r ]) in
      absurd (omega (arith, long, short))
  shallow_from (suc m) k path long d below above = λ c i.
      let e : h c ≡ Some k = is.held c k i in
      shallow_from m c (c ∷ path) (omega (arith, long)) (λ j. no_loop c (below_under h c k c (above c j) (Held e)), d) (λ p j. elim j [ inl s ↦ subst (λ z. z < n) (sym s) (is.within c k e) | inr r ↦ below p r ]) (λ p j. elim j [ inl s ↦ inl (sym s) | inr r ↦ inr (below_from h p c k e (above p r)) ])

  pub shallow : (k : ℕ) → IsShallow kids n k
  shallow k = shallow_from n k [] (omega arith) tt (λ p i. absurd i) (λ p i. absurd i)

  descend-more : (m k : ℕ) → IsShallow kids m k → descend kids (suc m) k ≡ descend kids m k
  descend-more zero k s = flat_map-none (λ c. c ∷ []) (kids k) s
  descend-more (suc m) k s = flat_map-same (λ c. c ∷ descend kids (suc m) c) (λ c. c ∷ descend kids m c) (kids k) (λ c i. ap (λ zs. c ∷ zs) (descend-more m c (s c i)))

  below-descend : (m k x : ℕ) → IsShallow kids m k → IsBelow h k x → In x (descend kids m k)
  below-descend zero k x s u = let r = below_top h k x u in absurd (s r.0 (is.listed r.0 k r.1))
  below-descend (suc m) k x s u =
      let r = below_top h k x u in
      let i = is.listed r.0 k r.1 in
      In-flat_map (λ c. c ∷ descend kids m c) (kids k) r.0 x i (elim r.2 [ inl e ↦ inl e | inr v ↦ inr (below-descend m r.0 x (s r.0 i) v) ])

  -- with n levels nothing is left out
  pub descend-children : (k : ℕ) → descend kids n k ≡ flat_map (λ c. c ∷ descend kids n c) (kids k)
  descend-children k = sym (descend-more n k (shallow k))

  pub descend-has : (k x : ℕ) → IsBelow h k x → In x (descend kids n k)
  descend-has k x u = below-descend n k x (shallow k) u

  pub descend-within : (k : ℕ) → length (descend kids n k) ≤ n
  descend-within k =
      distinct-length n (descend kids n k) (distinct-descend n k) (λ x i. let s = below_step h k x (descend-below n k x i) in is.within x s.0 s.1)

  pub descend-shorter : (x k : ℕ) → h x ≡ Some k → length (descend kids n x) < length (descend kids n k)
  descend-shorter x k e =
      let piece = length-piece (λ c. c ∷ descend kids n c) (kids k) x (is.listed x k e) in
      omega (arith, piece, ap length (descend-children k))

  -- where x and what stands below it come in what stands below the parent operation
  pub descend-split : (x k : ℕ) (front back : List ℕ) → kids k ≡ front ++ x ∷ back
      → descend kids n k ≡ flat_map (λ c. c ∷ descend kids n c) front ++ ((x ∷ descend kids n x) ++ flat_map (λ c. c ∷ descend kids n c) back)
  descend-split x k front back e =
      descend-children k ∙ ap (flat_map (λ c. c ∷ descend kids n c)) e ∙ flat_map-append (λ c. c ∷ descend kids n c) front (x ∷ back)

  -- other lists that agree on k and all that stands below it
  pub descend-alike : (others : ℕ → List ℕ) (m l k : ℕ) → IsShallow kids m k → IsShallow others l k → ((c : ℕ) → IsAtOrBelow h k c → others c ≡ kids c) → descend others l k ≡ descend kids m k
  descend-alike others zero zero k s r same = refl
  descend-alike others zero (suc l) k s r same =
      ap (flat_map (λ c. c ∷ descend others l c)) (same k (inl refl)) ∙ flat_map-none (λ c. c ∷ descend others l c) (kids k) s
  descend-alike others (suc m) zero k s r same =
      sym (flat_map-none (λ c. c ∷ descend kids m c) (kids k) (λ c i. r c (subst (In c) (sym (same k (inl refl))) i)))
  descend-alike others (suc m) (suc l) k s r same =
      ap (flat_map (λ c. c ∷ descend others l c)) (same k (inl refl)) ∙ flat_map-same (λ c. c ∷ descend others l c) (λ c. c ∷ descend kids m c) (kids k) (λ c i. ap (λ zs. c ∷ zs) (descend-alike others m l c (s c i) (r c (subst (In c) (sym (same k (inl refl))) i)) (λ d u. same d (inr (elim u [ inl e ↦ Held (ap h e ∙ is.held c k i) | inr v ↦ below_trans h k c d (Held (is.held c k i)) v ])))))
