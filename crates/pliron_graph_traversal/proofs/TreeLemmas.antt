-- Forests whose nodes are numbered in the order of the search, and what the numbers say.
use Rattle.std.proofs.Common.{◌≡◌, ℕ, zero, suc, ◌+◌, ◌<◌, ◌≤◌, List, [], ◌∷◌, ◌++◌, length, refl, sym, ◌∙◌, ap, subst, arith, inl, inr, ◌⊎◌, add-zero, length-append}
use Rattle.pliron_graph_traversal.specs.Internal.Forest.{Forest, leaf, grow, forest_preorder, postorder}
use Rattle.pliron_graph_traversal.specs.Search.{Encloses}
use Rattle.pliron_graph_traversal.specs.Internal.Membership.{HasMember, in_left, in_right, in_cases}

module _ {N : Type 0} where
  abbrev pub size : Forest N → ℕ
  size leaf = 0
  size (grow v c s) = 1 + size c + size s

  abbrev pub InF : Forest N → N → Type 0
  InF leaf v = ⊥
  InF (grow r c s) v = (r ≡ v) ⊎ (InF c v ⊎ InF s v)

  -- u is above v
  abbrev pub Above : Forest N → N → N → Type 0
  Above leaf u v = ⊥
  Above (grow r c s) u v = ((u ≡ r) × InF c v) ⊎ (Above c u v ⊎ Above s u v)

  abbrev pub Top : Forest N → N → Type 0
  Top leaf v = ⊥
  Top (grow r c s) v = (r ≡ v) ⊎ Top s v

  abbrev pub Parent : Forest N → N → N → Type 0
  Parent leaf p v = ⊥
  Parent (grow r c s) p v = ((p ≡ r) × Top c v) ⊎ (Parent c p v ⊎ Parent s p v)

  pub top_in : (f : Forest N) (v : N) → Top f v → InF f v
  top_in leaf v h = absurd h
  top_in (grow r c s) v (inl e) = inl e
  top_in (grow r c s) v (inr h) = inr (inr (top_in s v h))

  pub lower_in : (f : Forest N) (u v : N) → Above f u v → InF f v
  lower_in leaf u v h = absurd h
  lower_in (grow r c s) u v (inl h) = inr (inl h.1)
  lower_in (grow r c s) u v (inr (inl h)) = inr (inl (lower_in c u v h))
  lower_in (grow r c s) u v (inr (inr h)) = inr (inr (lower_in s u v h))

  pub upper_in : (f : Forest N) (u v : N) → Above f u v → InF f u
  upper_in leaf u v h = absurd h
  upper_in (grow r c s) u v (inl h) = inl (sym h.0)
  upper_in (grow r c s) u v (inr (inl h)) = inr (inl (upper_in c u v h))
  upper_in (grow r c s) u v (inr (inr h)) = inr (inr (upper_in s u v h))

  pub parent_above : (f : Forest N) (p v : N) → Parent f p v → Above f p v
  parent_above leaf p v h = absurd h
  parent_above (grow r c s) p v (inl h) = inl (h.0, top_in c v h.1)
  parent_above (grow r c s) p v (inr (inl h)) = inr (inl (parent_above c p v h))
  parent_above (grow r c s) p v (inr (inr h)) = inr (inr (parent_above s p v h))

  pub has_place : (f : Forest N) (v : N) → InF f v → Top f v ⊎ ((p : N) × Parent f p v)
  has_place leaf v h = absurd h
  has_place (grow r c s) v (inl e) = inl (inl e)
  has_place (grow r c s) v (inr (inl h)) = elim (has_place c v h) [ inl t ↦ inr (r, inl (refl, t)) | inr k ↦ inr (k.0, inr (inl k.1)) ]
  has_place (grow r c s) v (inr (inr h)) = elim (has_place s v h) [ inl t ↦ inl (inr t) | inr k ↦ inr (k.0, inr (inr k.1)) ]

  pub pre_in : (f : Forest N) (v : N) → HasMember (forest_preorder f) v → InF f v
  pre_in leaf v h = absurd h
  pre_in (grow r c s) v (inl e) = inl e
  pre_in (grow r c s) v (inr h) = elim (in_cases (forest_preorder c) (forest_preorder s) v h) [ inl a ↦ inr (inl (pre_in c v a)) | inr b ↦ inr (inr (pre_in s v b)) ]

  pub in_pre : (f : Forest N) (v : N) → InF f v → HasMember (forest_preorder f) v
  in_pre leaf v h = absurd h
  in_pre (grow r c s) v (inl e) = inl e
  in_pre (grow r c s) v (inr (inl h)) = inr (in_left (forest_preorder c) (forest_preorder s) v (in_pre c v h))
  in_pre (grow r c s) v (inr (inr h)) = inr (in_right (forest_preorder c) (forest_preorder s) v (in_pre s v h))

  pub post_in : (f : Forest N) (v : N) → HasMember (postorder f) v → InF f v
  post_in leaf v h = absurd h
  post_in (grow r c s) v h = elim (in_cases (postorder c) (r ∷ postorder s) v h) [
    | inl a ↦ inr (inl (post_in c v a))
    | inr b ↦ elim b [ inl e ↦ inl e | inr d ↦ inr (inr (post_in s v d)) ]
  ]

  pub in_post : (f : Forest N) (v : N) → InF f v → HasMember (postorder f) v
  in_post leaf v h = absurd h
  in_post (grow r c s) v (inl e) = in_right (postorder c) (r ∷ postorder s) v (inl e)
  in_post (grow r c s) v (inr (inl h)) = in_left (postorder c) (r ∷ postorder s) v (in_post c v h)
  in_post (grow r c s) v (inr (inr h)) = in_right (postorder c) (r ∷ postorder s) v (inr (in_post s v h))

  pub length_pre : (f : Forest N) → length (forest_preorder f) ≡ size f
  length_pre leaf = refl
  length_pre (grow r c s) = omega (arith, length-append (forest_preorder c) (forest_preorder s), length_pre c, length_pre s)

  pub length_post : (f : Forest N) → length (postorder f) ≡ size f
  length_post leaf = refl
  length_post (grow r c s) = omega (arith, length-append (postorder c) (r ∷ postorder s), length_post c, length_post s)

  -- the items of xs have the numbers from a on
  abbrev pub Seated : (N → ℕ) → ℕ → List N → Type 0
  Seated number a [] = Unit {0}
  Seated number a (x ∷ xs) = (number x ≡ a) × Seated number (a + 1) xs

  seated_at : (number : N → ℕ) (a b : ℕ) (xs : List N) → a ≡ b → Seated number a xs → Seated number b xs
  seated_at number a b xs e h = subst (λ n. Seated number n xs) e h

  pub seated_left : (number : N → ℕ) (a : ℕ) (xs ys : List N) → Seated number a (xs ++ ys) → Seated number a xs
  seated_left number a [] ys h = tt
  seated_left number a (x ∷ xs) ys h = (h.0, seated_left number (a + 1) xs ys h.1)

  pub seated_right : (number : N → ℕ) (a : ℕ) (xs ys : List N) → Seated number a (xs ++ ys) → Seated number (a + length xs) ys
  seated_right number a [] ys h = seated_at number a (a + 0) ys (omega arith) h
  seated_right number a (x ∷ xs) ys h = seated_at number (a + 1 + length xs) (a + suc (length xs)) ys (omega arith) (seated_right number (a + 1) xs ys h.1)

  pub seated_range : (number : N → ℕ) (a : ℕ) (xs : List N) (v : N) → Seated number a xs → HasMember xs v → (a ≤ number v) × (number v < a + length xs)
  seated_range number a [] v h i = absurd i
  seated_range number a (x ∷ xs) v h (inl e) = let k : number v ≡ a = sym (ap number e) ∙ h.0 in (omega (arith, k), omega (arith, k))
  seated_range number a (x ∷ xs) v h (inr i) = let r = seated_range number (a + 1) xs v h.1 i in (omega (arith, r.0), omega (arith, r.1))

  pub seated_each : (number : N → ℕ) (a : ℕ) (xs : List N) (k : ℕ) → Seated number a xs → k < length xs → (v : N) × HasMember xs v × (number v ≡ a + k)
  seated_each number a [] k h l = absurd (omega (arith, l))
  seated_each number a (x ∷ xs) zero h l = (x, inl refl, h.0 ∙ sym (add-zero a))
  seated_each number a (x ∷ xs) (suc k) h l = let r = seated_each number (a + 1) xs k h.1 (omega (arith, l)) in (r.0, inr r.1, omega (arith, r.2))

  pub seated_once : (number : N → ℕ) (a : ℕ) (xs : List N) (u v : N) → Seated number a xs → HasMember xs u → HasMember xs v → number u ≡ number v → u ≡ v
  seated_once number a [] u v h i j e = absurd i
  seated_once number a (x ∷ xs) u v h (inl p) (inl q) e = sym p ∙ q
  seated_once number a (x ∷ xs) u v h (inl p) (inr j) e = let k : number u ≡ a = sym (ap number p) ∙ h.0 in absurd (omega (arith, k, e, (seated_range number (a + 1) xs v h.1 j).0))
  seated_once number a (x ∷ xs) u v h (inr i) (inl q) e = let k : number v ≡ a = sym (ap number q) ∙ h.0 in absurd (omega (arith, k, e, (seated_range number (a + 1) xs u h.1 i).0))
  seated_once number a (x ∷ xs) u v h (inr i) (inr j) e = seated_once number (a + 1) xs u v h.1 i j e

module _ {N : Type 0} (pre post : N → ℕ) where
  -- the forest has the numbers from a and from b on
  abbrev pub Placed : ℕ → ℕ → Forest N → Type 0
  Placed a b leaf = Unit {0}
  Placed a b (grow r c s) = (pre r ≡ a) × (post r ≡ b + size c) × Placed (a + 1) b c × Placed (a + 1 + size c) (b + size c + 1) s

  pub placed : (a b : ℕ) (f : Forest N) → Seated pre a (forest_preorder f) → Seated post b (postorder f) → Placed a b f
  placed a b leaf h k = tt
  placed a b (grow r c s) h k =
      let left = seated_left pre (a + 1) (forest_preorder c) (forest_preorder s) h.1 in
      let right : Seated pre (a + 1 + size c) (forest_preorder s) = subst (λ n. Seated pre (a + 1 + n) (forest_preorder s)) (length_pre c) (seated_right pre (a + 1) (forest_preorder c) (forest_preorder s) h.1) in
      let below = seated_left post b (postorder c) (r ∷ postorder s) k in
      let rest : Seated post (b + size c) (r ∷ postorder s) = subst (λ n. Seated post (b + n) (r ∷ postorder s)) (length_post c) (seated_right post b (postorder c) (r ∷ postorder s) k) in
      (h.0, rest.0, placed (a + 1) b c left below, placed (a + 1 + size c) (b + size c + 1) s right rest.1)

  pub record Range (a b n : ℕ) (v : N) : Type 0 where
    pub low : a ≤ pre v
    pub high : pre v < a + n
    pub post_low : b ≤ post v
    pub post_high : post v < b + n

  pub range : (a b : ℕ) (f : Forest N) (v : N) → Placed a b f → InF f v → Range a b (size f) v
  range a b leaf v p h = absurd h
  range a b (grow r c s) v p (inl e) =
      let i : pre v ≡ a = sym (ap pre e) ∙ p.0 in let j : post v ≡ b + size c = sym (ap post e) ∙ p.1 in
      record { low = omega (arith, i); high = omega (arith, i); post_low = omega (arith, j); post_high = omega (arith, j) }
  range a b (grow r c s) v p (inr (inl h)) =
      let k = range (a + 1) b c v p.2 h in
      record { low = omega (arith, k.low); high = omega (arith, k.high); post_low = omega (arith, k.post_low); post_high = omega (arith, k.post_high) }
  range a b (grow r c s) v p (inr (inr h)) =
      let k = range (a + 1 + size c) (b + size c + 1) s v p.3 h in
      record { low = omega (arith, k.low); high = omega (arith, k.high); post_low = omega (arith, k.post_low); post_high = omega (arith, k.post_high) }

  -- the first trees and the later ones share no node
  pub apart : (a b : ℕ) (r : N) (c s : Forest N) (v : N) → Placed a b (grow r c s) → InF c v → InF s v → ⊥
  apart a b r c s v p h k = omega (arith, (range (a + 1) b c v p.2 h).high, (range (a + 1 + size c) (b + size c + 1) s v p.3 k).low)

  pub root_apart_below : (a b : ℕ) (r : N) (c s : Forest N) → Placed a b (grow r c s) → InF c r → ⊥
  root_apart_below a b r c s p h = omega (arith, (range (a + 1) b c r p.2 h).low, p.0)

  pub root_apart_later : (a b : ℕ) (r : N) (c s : Forest N) → Placed a b (grow r c s) → InF s r → ⊥
  root_apart_later a b r c s p h = omega (arith, (range (a + 1 + size c) (b + size c + 1) s r p.3 h).low, p.0)

  pub above_encloses : (a b : ℕ) (f : Forest N) (u v : N) → Placed a b f → Above f u v → Encloses pre post u v
  above_encloses a b leaf u v p h = absurd h
  above_encloses a b (grow r c s) u v p (inl h) =
      let k = range (a + 1) b c v p.2 h.1 in
      let i : pre u ≡ a = ap pre h.0 ∙ p.0 in let j : post u ≡ b + size c = ap post h.0 ∙ p.1 in
      (omega (arith, i, k.low), omega (arith, j, k.post_high))
  above_encloses a b (grow r c s) u v p (inr (inl h)) = above_encloses (a + 1) b c u v p.2 h
  above_encloses a b (grow r c s) u v p (inr (inr h)) = above_encloses (a + 1 + size c) (b + size c + 1) s u v p.3 h

  pub encloses_above : (a b : ℕ) (f : Forest N) (u v : N) → Placed a b f → InF f u → InF f v → Encloses pre post u v → Above f u v
  encloses_above a b leaf u v p h k e = absurd h
  encloses_above a b (grow r c s) u v p (inl h) (inl k) e = absurd (omega (arith, e.0, ap pre (sym h ∙ k)))
  encloses_above a b (grow r c s) u v p (inl h) (inr (inl k)) e = inl (sym h, k)
  encloses_above a b (grow r c s) u v p (inl h) (inr (inr k)) e =
      let j : post u ≡ b + size c = sym (ap post h) ∙ p.1 in absurd (omega (arith, e.1, j, (range (a + 1 + size c) (b + size c + 1) s v p.3 k).post_low))
  encloses_above a b (grow r c s) u v p (inr (inl h)) (inl k) e =
      let j : pre v ≡ a = sym (ap pre k) ∙ p.0 in absurd (omega (arith, e.0, j, (range (a + 1) b c u p.2 h).low))
  encloses_above a b (grow r c s) u v p (inr (inl h)) (inr (inl k)) e = inr (inl (encloses_above (a + 1) b c u v p.2 h k e))
  encloses_above a b (grow r c s) u v p (inr (inl h)) (inr (inr k)) e =
      absurd (omega (arith, e.1, (range (a + 1) b c u p.2 h).post_high, (range (a + 1 + size c) (b + size c + 1) s v p.3 k).post_low))
  encloses_above a b (grow r c s) u v p (inr (inr h)) (inl k) e =
      let j : pre v ≡ a = sym (ap pre k) ∙ p.0 in absurd (omega (arith, e.0, j, (range (a + 1 + size c) (b + size c + 1) s u p.3 h).low))
  encloses_above a b (grow r c s) u v p (inr (inr h)) (inr (inl k)) e =
      absurd (omega (arith, e.0, (range (a + 1) b c v p.2 k).high, (range (a + 1 + size c) (b + size c + 1) s u p.3 h).low))
  encloses_above a b (grow r c s) u v p (inr (inr h)) (inr (inr k)) e = inr (inr (encloses_above (a + 1 + size c) (b + size c + 1) s u v p.3 h k e))

  pub comparable : (a b : ℕ) (f : Forest N) (u v w : N) → Placed a b f → Above f u w → Above f v w → (u ≡ v) ⊎ (Above f u v ⊎ Above f v u)
  comparable a b leaf u v w p h k = absurd h
  comparable a b (grow r c s) u v w p (inl h) (inl k) = inl (h.0 ∙ sym k.0)
  comparable a b (grow r c s) u v w p (inl h) (inr (inl k)) = inr (inl (inl (h.0, upper_in c v w k)))
  comparable a b (grow r c s) u v w p (inl h) (inr (inr k)) = absurd (apart a b r c s w p h.1 (lower_in s v w k))
  comparable a b (grow r c s) u v w p (inr (inl h)) (inl k) = inr (inr (inl (k.0, upper_in c u w h)))
  comparable a b (grow r c s) u v w p (inr (inl h)) (inr (inl k)) =
      elim (comparable (a + 1) b c u v w p.2 h k) [ inl e ↦ inl e | inr d ↦ elim d [ inl x ↦ inr (inl (inr (inl x))) | inr y ↦ inr (inr (inr (inl y))) ] ]
  comparable a b (grow r c s) u v w p (inr (inl h)) (inr (inr k)) = absurd (apart a b r c s w p (lower_in c u w h) (lower_in s v w k))
  comparable a b (grow r c s) u v w p (inr (inr h)) (inl k) = absurd (apart a b r c s w p k.1 (lower_in s u w h))
  comparable a b (grow r c s) u v w p (inr (inr h)) (inr (inl k)) = absurd (apart a b r c s w p (lower_in c v w k) (lower_in s u w h))
  comparable a b (grow r c s) u v w p (inr (inr h)) (inr (inr k)) =
      elim (comparable (a + 1 + size c) (b + size c + 1) s u v w p.3 h k) [ inl e ↦ inl e | inr d ↦ elim d [ inl x ↦ inr (inl (inr (inr x))) | inr y ↦ inr (inr (inr (inr y))) ] ]

  pub top_free : (a b : ℕ) (f : Forest N) (q v : N) → Placed a b f → Top f v → Above f q v → ⊥
  top_free a b leaf q v p t h = absurd t
  top_free a b (grow r c s) q v p (inl e) (inl h) = root_apart_below a b r c s p (subst (InF c) (sym e) h.1)
  top_free a b (grow r c s) q v p (inl e) (inr (inl h)) = root_apart_below a b r c s p (subst (InF c) (sym e) (lower_in c q v h))
  top_free a b (grow r c s) q v p (inl e) (inr (inr h)) = root_apart_later a b r c s p (subst (InF s) (sym e) (lower_in s q v h))
  top_free a b (grow r c s) q v p (inr t) (inl h) = apart a b r c s v p h.1 (top_in s v t)
  top_free a b (grow r c s) q v p (inr t) (inr (inl h)) = apart a b r c s v p (lower_in c q v h) (top_in s v t)
  top_free a b (grow r c s) q v p (inr t) (inr (inr h)) = top_free (a + 1 + size c) (b + size c + 1) s q v p.3 t h

  pub parent_nearest : (a b : ℕ) (f : Forest N) (x v q : N) → Placed a b f → Parent f x v → Above f q v → (q ≡ x) ⊎ Above f q x
  parent_nearest a b leaf x v q p t h = absurd t
  parent_nearest a b (grow r c s) x v q p (inl t) (inl h) = inl (h.0 ∙ sym t.0)
  parent_nearest a b (grow r c s) x v q p (inl t) (inr (inl h)) = absurd (top_free (a + 1) b c q v p.2 t.1 h)
  parent_nearest a b (grow r c s) x v q p (inl t) (inr (inr h)) = absurd (apart a b r c s v p (top_in c v t.1) (lower_in s q v h))
  parent_nearest a b (grow r c s) x v q p (inr (inl t)) (inl h) = inr (inl (h.0, upper_in c x v (parent_above c x v t)))
  parent_nearest a b (grow r c s) x v q p (inr (inl t)) (inr (inl h)) = elim (parent_nearest (a + 1) b c x v q p.2 t h) [ inl e ↦ inl e | inr k ↦ inr (inr (inl k)) ]
  parent_nearest a b (grow r c s) x v q p (inr (inl t)) (inr (inr h)) = absurd (apart a b r c s v p (lower_in c x v (parent_above c x v t)) (lower_in s q v h))
  parent_nearest a b (grow r c s) x v q p (inr (inr t)) (inl h) = absurd (apart a b r c s v p h.1 (lower_in s x v (parent_above s x v t)))
  parent_nearest a b (grow r c s) x v q p (inr (inr t)) (inr (inl h)) = absurd (apart a b r c s v p (lower_in c q v h) (lower_in s x v (parent_above s x v t)))
  parent_nearest a b (grow r c s) x v q p (inr (inr t)) (inr (inr h)) = elim (parent_nearest (a + 1 + size c) (b + size c + 1) s x v q p.3 t h) [ inl e ↦ inl e | inr k ↦ inr (inr (inr k)) ]
