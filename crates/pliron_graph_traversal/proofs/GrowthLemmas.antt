-- What a search that grew says of the graph.
use Rattle.std.proofs.Common.{◌≡◌, ℕ, zero, suc, ◌+◌, ◌<◌, ◌≤◌, Bool, true, List, [], ◌∷◌, ◌++◌, refl, sym, ◌∙◌, ap, subst, arith, inl, inr, ◌⊎◌, Some, slice_get}
use Rattle.pliron_graph_traversal.specs.Digraph.{Digraph, IsPath, Reaches}
use Rattle.pliron_graph_traversal.specs.Internal.Forest.{Forest, forest_preorder, postorder, ForestGrows, done, skip, visit}
use Rattle.pliron_graph_traversal.specs.Search.{IsWhollyLater}
use Rattle.pliron_graph_traversal.specs.Internal.Membership.{HasMember, in_from, contains_from, in_left, in_right, in_cases, in_from_any, not_in_from_any}
use Rattle.pliron_graph_traversal.proofs.TreeLemmas.{size, InF, Top, Parent, top_in, parent_above, lower_in, pre_in, in_pre, post_in, Placed, range}

abbrev pub Distinct : {N : Type 0} → List N → Type 0
Distinct [] = Unit {0}
Distinct (x ∷ xs) = (HasMember xs x → ⊥) × Distinct xs

pub distinct_append : {N : Type 0} (xs ys : List N) → Distinct xs → Distinct ys → ((v : N) → HasMember xs v → HasMember ys v → ⊥) → Distinct (xs ++ ys)
distinct_append [] ys h k apart = k
distinct_append (x ∷ xs) ys h k apart =
    (λ i. elim (in_cases xs ys x i) [ inl a ↦ h.0 a | inr b ↦ apart x (inl refl) b ], distinct_append xs ys h.1 k (λ v i j. apart v (inr i) j))

module _ {N : Type 0} (eq : N → N → Bool) (g : Digraph N) (same : (x y : N) → eq x y ≡ true → x ≡ y) (reflexive : (x : N) → eq x x ≡ true) where
  seen_split : (seen : List N) (r w : N) (c : Forest N) → HasMember ((seen ++ r ∷ []) ++ forest_preorder c) w → HasMember seen w ⊎ ((r ≡ w) ⊎ InF c w)
  seen_split seen r w c h = elim (in_cases (seen ++ r ∷ []) (forest_preorder c) w h) [
    | inl a ↦ elim (in_cases seen (r ∷ []) w a) [ inl x ↦ inl x | inr y ↦ elim y [ inl e ↦ inr (inl e) | inr n ↦ absurd n ] ]
    | inr b ↦ inr (inr (pre_in c w b))
  ]

  root_split : (seen : List N) (r w : N) → HasMember (seen ++ r ∷ []) w → HasMember seen w ⊎ (r ≡ w)
  root_split seen r w h = elim (in_cases seen (r ∷ []) w h) [ inl x ↦ inl x | inr y ↦ elim y [ inl e ↦ inr e | inr n ↦ absurd n ] ]

  -- nothing that was found had been seen
  pub fresh : {seen todo : List N} {f : Forest N} → ForestGrows eq g seen todo f → (v : N) → InF f v → HasMember seen v → ⊥
  fresh done v h i = absurd h
  fresh (skip k gr) v h i = fresh gr v h i
  fresh (visit {seen = p} {v = r} n gc gs) v (inl e) i = not_in_from_any eq same reflexive p r n (subst (HasMember p) (sym e) i)
  fresh (visit {seen = p} {v = r} n gc gs) v (inr (inl h)) i = fresh gc v h (in_left p (r ∷ []) v i)
  fresh (visit {seen = p} {v = r} {c = c} n gc gs) v (inr (inr h)) i = fresh gs v h (in_left (p ++ r ∷ []) (forest_preorder c) v (in_left p (r ∷ []) v i))

  pub pre_distinct : {seen todo : List N} {f : Forest N} → ForestGrows eq g seen todo f → Distinct (forest_preorder f)
  pre_distinct done = tt
  pre_distinct (skip k gr) = pre_distinct gr
  pre_distinct (visit {seen = p} {v = r} {c = c} {s = s} n gc gs) =
      let old : HasMember (p ++ r ∷ []) r = in_right p (r ∷ []) r (inl refl) in (
        λ i. elim (in_cases (forest_preorder c) (forest_preorder s) r i) [
          | inl a ↦ fresh gc r (pre_in c r a) old
          | inr b ↦ fresh gs r (pre_in s r b) (in_left (p ++ r ∷ []) (forest_preorder c) r old)
        ],
        distinct_append (forest_preorder c) (forest_preorder s) (pre_distinct gc) (pre_distinct gs) (λ v i j. fresh gs v (pre_in s v j) (in_right (p ++ r ∷ []) (forest_preorder c) v i)),
      )

  pub post_distinct : {seen todo : List N} {f : Forest N} → ForestGrows eq g seen todo f → Distinct (postorder f)
  post_distinct done = tt
  post_distinct (skip k gr) = post_distinct gr
  post_distinct (visit {seen = p} {v = r} {c = c} {s = s} n gc gs) =
      let old : HasMember (p ++ r ∷ []) r = in_right p (r ∷ []) r (inl refl) in
      distinct_append (postorder c) (r ∷ postorder s) (post_distinct gc)
      (λ i. fresh gs r (post_in s r i) (in_left (p ++ r ∷ []) (forest_preorder c) r old), post_distinct gs)
      (λ v i j. elim j [
        | inl e ↦ fresh gc v (post_in c v i) (subst (HasMember (p ++ r ∷ [])) e old)
        | inr k ↦ fresh gs v (post_in s v k) (in_right (p ++ r ∷ []) (forest_preorder c) v (in_pre c v (post_in c v i)))
      ])

  -- each root was seen or is found
  pub roots_found : {seen todo : List N} {f : Forest N} → ForestGrows eq g seen todo f → (w : N) → HasMember todo w → HasMember seen w ⊎ InF f w
  roots_found done w h = absurd h
  roots_found (skip {seen = p} {v = r} k gr) w (inl e) = inl (subst (HasMember p) e (in_from_any eq same reflexive p r k))
  roots_found (skip k gr) w (inr h) = roots_found gr w h
  roots_found (visit n gc gs) w (inl e) = inr (inl e)
  roots_found (visit {seen = p} {v = r} {c = c} n gc gs) w (inr h) = elim (roots_found gs w h) [
    | inl a ↦ elim (seen_split p r w c a) [ inl x ↦ inl x | inr y ↦ elim y [ inl e ↦ inr (inl e) | inr z ↦ inr (inr (inl z)) ] ]
    | inr b ↦ inr (inr (inr b))
  ]

  -- what a search finds is reached from the roots
  pub found_reached : {seen todo : List N} {f : Forest N} → ForestGrows eq g seen todo f → (v : N) → InF f v → (r : N) × HasMember todo r × Reaches g r v
  found_reached done v h = absurd h
  found_reached (skip k gr) v h = let r = found_reached gr v h in (r.0, inr r.1, r.2)
  found_reached (visit {v = r} n gc gs) v (inl e) = (r, inl refl, ([], e))
  found_reached (visit {v = r} n gc gs) v (inr (inl h)) =
      let k = found_reached gc v h in (r, inl refl, (k.0 ∷ k.2.0, (contains_from (g.succ r) k.0 k.1, k.2.1)))
  found_reached (visit n gc gs) v (inr (inr h)) = let k = found_reached gs v h in (k.0, inr k.1, k.2)

  -- roots and parents
  pub top_root : {seen todo : List N} {f : Forest N} → ForestGrows eq g seen todo f → (v : N) → Top f v → HasMember todo v
  top_root done v h = absurd h
  top_root (skip k gr) v h = inr (top_root gr v h)
  top_root (visit n gc gs) v (inl e) = inl e
  top_root (visit n gc gs) v (inr h) = inr (top_root gs v h)

  pub parent_edge : {seen todo : List N} {f : Forest N} → ForestGrows eq g seen todo f → (p v : N) → Parent f p v → HasMember (g.succ p) v
  parent_edge done p v h = absurd h
  parent_edge (skip k gr) p v h = parent_edge gr p v h
  parent_edge (visit n gc gs) p v (inl h) = subst (λ x. HasMember (g.succ x) v) (sym h.0) (top_root gc v h.1)
  parent_edge (visit n gc gs) p v (inr (inl h)) = parent_edge gc p v h
  parent_edge (visit n gc gs) p v (inr (inr h)) = parent_edge gs p v h

  module _ (pre post : N → ℕ) where
    -- every edge from a node that was found leads to one that was seen, or to one that was found and is not wholly later
    pub edge_found : {seen todo : List N} {f : Forest N} (a b : ℕ) → ForestGrows eq g seen todo f → Placed pre post a b f → (u w : N) → InF f u → HasMember (g.succ u) w
        → HasMember seen w ⊎ (InF f w × (IsWhollyLater pre post u w → ⊥))
    edge_found a b done p u w h e = absurd h
    edge_found a b (skip k gr) p u w h e = edge_found a b gr p u w h e
    edge_found a b (visit {seen = q} {v = r} {c = c} {s = s} n gc gs) p u w (inl h) e =
        let edge : HasMember (g.succ r) w = subst (λ x. HasMember (g.succ x) w) (sym h) e in
        elim (roots_found gc w edge) [
          | inl old ↦ elim (root_split q r w old) [
            | inl x ↦ inl x
            | inr y ↦ inr (inl y, λ later. omega (arith, later.0, ap pre (sym h ∙ y)))
          ]
          | inr new ↦ inr (
            inr (inl new),
            λ later.
                let j : post u ≡ b + size c = sym (ap post h) ∙ p.1 in omega (arith, later.1, j, (range pre post (a + 1) b c w p.2 new).post_high),
          )
        ]
    edge_found a b (visit {seen = q} {v = r} {c = c} {s = s} n gc gs) p u w (inr (inl h)) e =
        elim (edge_found (a + 1) b gc p.2 u w h e) [
          | inl old ↦ elim (root_split q r w old) [
            | inl x ↦ inl x
            | inr y ↦ inr (inl y, λ later. let i : pre w ≡ a = sym (ap pre y) ∙ p.0 in omega (arith, later.0, i, (range pre post (a + 1) b c u p.2 h).low))
          ]
          | inr new ↦ inr (inr (inl new.0), new.1)
        ]
    edge_found a b (visit {seen = q} {v = r} {c = c} {s = s} n gc gs) p u w (inr (inr h)) e =
        let after : a + 1 + size c ≤ pre u = (range pre post (a + 1 + size c) (b + size c + 1) s u p.3 h).low in
        elim (edge_found (a + 1 + size c) (b + size c + 1) gs p.3 u w h e) [
          | inl old ↦ elim (seen_split q r w c old) [
            | inl x ↦ inl x
            | inr y ↦ elim y [
              | inl z ↦ inr (inl z, λ later. let i : pre w ≡ a = sym (ap pre z) ∙ p.0 in omega (arith, later.0, i, after))
              | inr z ↦ inr (inr (inl z), λ later. omega (arith, later.0, (range pre post (a + 1) b c w p.2 z).high, after))
            ]
          ]
          | inr new ↦ inr (inr (inr new.0), new.1)
        ]

    -- w stands before the first v
    abbrev pub BeforeFirst : List N → N → N → Type 0
    BeforeFirst [] w v = ⊥
    BeforeFirst (x ∷ xs) w v = (x ≡ v → ⊥) × ((x ≡ w) ⊎ BeforeFirst xs w v)

    pub before_first : (xs : List N) (k j : ℕ) (w v : N) → ((i : ℕ) → i < k → slice_get xs i ≡ Some v → ⊥) → j < k → slice_get xs j ≡ Some w → BeforeFirst xs w v
    before_first [] k j w v none l at = absurd (cc)
    before_first (x ∷ xs) k zero w v none l at = (λ e. none 0 l (ap Some e), inl (let h : x ≡ w = cc in h))
    before_first (x ∷ xs) zero (suc j) w v none l at = absurd (omega (arith, l))
    before_first (x ∷ xs) (suc k) (suc j) w v none l at =
        (λ e. none 0 (omega arith) (ap Some e), inr (before_first xs k j w v (λ i m. none (suc i) (omega (arith, m))) (omega (arith, l)) at))

    -- a root before the first v was seen, or comes earlier
    pub root_order : {seen todo : List N} {f : Forest N} (a b : ℕ) → ForestGrows eq g seen todo f → Placed pre post a b f → (v w : N) → Top f v → BeforeFirst todo w v
        → HasMember seen w ⊎ (InF f w × (pre w < pre v))
    root_order a b done p v w t o = absurd t
    root_order a b (skip {seen = q} {v = r} k gr) p v w t (first, inl e) = inl (subst (HasMember q) e (in_from_any eq same reflexive q r k))
    root_order a b (skip k gr) p v w t (first, inr o) = root_order a b gr p v w t o
    root_order a b (visit n gc gs) p v w (inl e) (first, o) = absurd (first e)
    root_order a b (visit {v = r} {c = c} {s = s} n gc gs) p v w (inr t) (first, inl e) =
        let i : pre w ≡ a = sym (ap pre e) ∙ p.0 in
        inr (inl e, omega (arith, i, (range pre post (a + 1 + size c) (b + size c + 1) s v p.3 (top_in s v t)).low))
    root_order a b (visit {seen = q} {v = r} {c = c} {s = s} n gc gs) p v w (inr t) (first, inr o) =
        let after : a + 1 + size c ≤ pre v = (range pre post (a + 1 + size c) (b + size c + 1) s v p.3 (top_in s v t)).low in
        elim (root_order (a + 1 + size c) (b + size c + 1) gs p.3 v w t o) [
          | inl old ↦ elim (seen_split q r w c old) [
            | inl x ↦ inl x
            | inr y ↦ elim y [
              | inl z ↦ let i : pre w ≡ a = sym (ap pre z) ∙ p.0 in inr (inl z, omega (arith, i, after))
              | inr z ↦ inr (inr (inl z), omega (arith, (range pre post (a + 1) b c w p.2 z).high, after))
            ]
          ]
          | inr new ↦ inr (inr (inr new.0), new.1)
        ]

    pub child_order : {seen todo : List N} {f : Forest N} (a b : ℕ) → ForestGrows eq g seen todo f → Placed pre post a b f → (x v w : N) → Parent f x v → BeforeFirst (g.succ x) w v
        → HasMember seen w ⊎ (InF f w × (pre w < pre v))
    child_order a b done p x v w t o = absurd t
    child_order a b (skip k gr) p x v w t o = child_order a b gr p x v w t o
    child_order a b (visit {seen = q} {v = r} {c = c} {s = s} n gc gs) p x v w (inl t) o =
        let here : BeforeFirst (g.succ r) w v = subst (λ y. BeforeFirst (g.succ y) w v) t.0 o in
        let after : a + 1 ≤ pre v = (range pre post (a + 1) b c v p.2 (top_in c v t.1)).low in
        elim (root_order (a + 1) b gc p.2 v w t.1 here) [
          | inl old ↦ elim (root_split q r w old) [
            | inl y ↦ inl y
            | inr z ↦ let i : pre w ≡ a = sym (ap pre z) ∙ p.0 in inr (inl z, omega (arith, i, after))
          ]
          | inr new ↦ inr (inr (inl new.0), new.1)
        ]
    child_order a b (visit {seen = q} {v = r} {c = c} {s = s} n gc gs) p x v w (inr (inl t)) o =
        let after : a + 1 ≤ pre v = (range pre post (a + 1) b c v p.2 (lower_in c x v (parent_above c x v t))).low in
        elim (child_order (a + 1) b gc p.2 x v w t o) [
          | inl old ↦ elim (root_split q r w old) [
            | inl y ↦ inl y
            | inr z ↦ let i : pre w ≡ a = sym (ap pre z) ∙ p.0 in inr (inl z, omega (arith, i, after))
          ]
          | inr new ↦ inr (inr (inl new.0), new.1)
        ]
    child_order a b (visit {seen = q} {v = r} {c = c} {s = s} n gc gs) p x v w (inr (inr t)) o =
        let after : a + 1 + size c ≤ pre v = (range pre post (a + 1 + size c) (b + size c + 1) s v p.3 (lower_in s x v (parent_above s x v t))).low in
        elim (child_order (a + 1 + size c) (b + size c + 1) gs p.3 x v w t o) [
          | inl old ↦ elim (seen_split q r w c old) [
            | inl y ↦ inl y
            | inr y ↦ elim y [
              | inl z ↦ let i : pre w ≡ a = sym (ap pre z) ∙ p.0 in inr (inl z, omega (arith, i, after))
              | inr z ↦ inr (inr (inl z), omega (arith, (range pre post (a + 1) b c w p.2 z).high, after))
            ]
          ]
          | inr new ↦ inr (inr (inr new.0), new.1)
        ]

  -- what the roots reach is found
  pub reached_found : {todo : List N} {f : Forest N} → ForestGrows eq g [] todo f → ((u w : N) → InF f u → HasMember (g.succ u) w → InF f w) → (u v : N) (ws : List N) → InF f u → IsPath g u ws v → InF f v
  reached_found {f = f} gr closed u v [] h p = subst (InF f) p h
  reached_found gr closed u v (w ∷ ws) h p = reached_found gr closed w v ws (closed u w h (in_from (g.succ u) w p.0)) p.1
