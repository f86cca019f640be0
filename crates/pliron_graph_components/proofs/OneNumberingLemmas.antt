-- The clauses of a search numbering admit one numbering.
--
-- 1. Let an edge go from x to w, and let pre x < pre v ≤ pre w. Then x encloses v. For x encloses w, since no edge goes to a node that is
--    wholly later. Were v left after x, then v would enclose w too, while neither of x and v encloses the other.
-- 2. So the node numbered k is told by those with smaller numbers. If its nearest encloser is p, then p is the last of them with a
--    successor numbered k or later, by 1, and it is the first such successor, since successors are taken in order. If nothing encloses
--    it, then none of them has such a successor, by 1, and it is the first root numbered k or later. So two numberings have the same
--    pre-numbers, by induction on k.
-- 3. Then they enclose alike: from a nearest encloser an edge goes to the node, so it encloses it in the other numbering too, by 1.
-- 4. Of two nodes of which one encloses the other the inner has the smaller post-number, of two others the one with the smaller
--    pre-number. So post-numbers stand in one order, and are the same, by induction.
use Rattle.std.proofs.Common.{◌≡◌, ℕ, zero, suc, ◌<◌, ◌≤◌, List, [], ◌∷◌, Option, Some, slice_get, refl, sym, ap, subst, arith, inl, inr, Contains}
use Rattle.pliron_graph_traversal.specs.Digraph.{Digraph, IsReached}
use Rattle.pliron_graph_traversal.specs.Search.{Encloses, IsFirstAt, IsNearest, IsTop, IsSearchNumbering}
use Rattle.pliron_graph_traversal.specs.Internal.Membership.{HasMember, in_from, contains_from}
use Rattle.pliron_graph_components.proofs.LawLemmas.{reached_next}
use Rattle.pliron_graph_components.proofs.RankLemmas.{order, IsFixedByEarlier, same_numbers, same_by_order, same_counts}

module _ {N : Type 0} (g : Digraph N) (roots : List N) (pre post : N → ℕ) (count : ℕ) (d : IsSearchNumbering g roots pre post count) where
  -- from x an edge goes past v, so x encloses v
  pub encloses_what_is_passed : (x v w : N) → IsReached g roots x → IsReached g roots v → Contains (g.succ x) w → pre x < pre v → pre v ≤ pre w → Encloses pre post x v
  encloses_what_is_passed x v w hx hv e l m = elim (order (post v) (post x)) [
    | inl k ↦ (l, k)
    | inr y ↦ elim y [
      | inl s ↦ absurd (omega (arith, l, ap pre (d.post_numbers.once v x hv hx s)))
      | inr k ↦
          let inner : Encloses pre post v w = (
            elim (order (pre v) (pre w)) [
              | inl n ↦ n
              | inr z ↦ elim z [ inl s ↦ absurd (omega (arith, k, left, ap post (d.pre_numbers.once v w hv hw s))) | inr n ↦ absurd (omega (arith, m, n)) ]
            ],
            omega (arith, left, k),
          ) in
          elim (d.nested x v w hx hv hw (omega (arith, l, m), left) inner) [
            | inl s ↦ absurd (omega (arith, l, ap pre s))
            | inr z ↦ elim z [ inl n ↦ absurd (omega (arith, k, n.1)) | inr n ↦ absurd (omega (arith, l, n.0)) ]
          ]
    ]
  ]
    where
      hw : IsReached g roots w
      hw = reached_next g roots pre post count d x w hx e

      -- the edge doesn't go to a node that is wholly later
      left : post w < post x
      left = elim (order (post w) (post x)) [
        | inl k ↦ k
        | inr y ↦ elim y [
          | inl s ↦ absurd (omega (arith, l, m, ap pre (d.post_numbers.once w x hw hx s)))
          | inr k ↦ absurd (d.no_later x w hx e (omega (arith, l, m), k))
        ]
      ]

  -- so a node that nothing encloses is passed by no edge, and one that p encloses by none that goes from a node later than p
  pub top_is_not_passed : (x v w : N) → IsTop g roots pre post v → IsReached g roots x → IsReached g roots v → Contains (g.succ x) w → pre x < pre v → pre v ≤ pre w → ⊥
  top_is_not_passed x v w top hx hv e l m = top x hx (encloses_what_is_passed x v w hx hv e l m)

  pub passed_from_above : (p x v w : N) → IsNearest g roots pre post p v → IsReached g roots x → IsReached g roots v → Contains (g.succ x) w → pre x < pre v → pre v ≤ pre w → pre x ≤ pre p
  passed_from_above p x v w near hx hv e l m = elim (near.nearest x hx (encloses_what_is_passed x v w hx hv e l m)) [
    | inl s ↦ omega (arith, ap pre s)
    | inr k ↦ omega (arith, k.0)
  ]

  -- where v stands first in a list of reached nodes
  pub first_place : (xs : List N) (v : N) → ((w : N) → HasMember xs w → IsReached g roots w) → IsReached g roots v → HasMember xs v → (k : ℕ) × IsFirstAt xs v k
  first_place [] v all hv h = absurd h
  first_place (x ∷ xs) v all hv h = elim (order (pre x) (pre v)) [
    | inl l ↦ later (first_place xs v (λ w k. all w (inr k)) hv) (λ s. omega (arith, l, ap pre s)) h
    | inr y ↦ elim y [
      | inl s ↦ (0, (ap Some (d.pre_numbers.once x v (all x (inl refl)) hv s), λ j l e. omega (arith, l)))
      | inr l ↦ later (first_place xs v (λ w k. all w (inr k)) hv) (λ s. omega (arith, l, ap pre s)) h
    ]
  ]
    where
      later : (HasMember xs v → (k : ℕ) × IsFirstAt xs v k) → (x ≡ v → ⊥) → HasMember (x ∷ xs) v → (k : ℕ) × IsFirstAt (x ∷ xs) v k
      later rest apart (inl s) = absurd (apart s)
      later rest apart (inr i) = let r = rest i in (suc r.0, (r.1.0, first r.0 r.1.1))
        where
          first : (k : ℕ) → ((j : ℕ) → j < k → slice_get xs j ≡ Some v → ⊥) → (j : ℕ) → j < suc k → slice_get (x ∷ xs) j ≡ Some v → ⊥
          first k none zero l e = let here : x ≡ v = cc in apart here
          first k none (suc j) l e = none j (omega (arith, l)) e

module _ {N : Type 0} (g : Digraph N) (roots : List N) (pre post pre' post' : N → ℕ) (count count' : ℕ) (d : IsSearchNumbering g roots pre post count) (d' : IsSearchNumbering g roots pre' post' count') where
  -- each item of xs before the first v has a smaller number
  abbrev Taken : (N → ℕ) → List N → N → Type 0
  Taken number xs v = (k j : ℕ) (w : N) → IsFirstAt xs v k → j < k → slice_get xs j ≡ Some w → number w < number v

  -- two nodes that are first in a list to have numbers from k on are one
  one_taken : (xs : List N) (k : ℕ) (v u : N) → ((w : N) → HasMember xs w → IsReached g roots w) → Contains xs v → Contains xs u → Taken pre xs v → Taken pre' xs u → pre v ≡ k → pre' u ≡ k → k ≤ pre u → k ≤ pre' v → v ≡ u
  one_taken xs k v u all cv cu taken taken' e e' m m' =
      let i = first_place g roots pre post count d xs v all (all v (in_from xs v cv)) (in_from xs v cv) in
      let j = first_place g roots pre post count d xs u all (all u (in_from xs u cu)) (in_from xs u cu) in
      elim (order i.0 j.0) [
        | inl l ↦ absurd (omega (arith, taken' j.0 i.0 v j.1 l i.1.0, e', m'))
        | inr x ↦ elim x [
          | inl s ↦ one_item (slice_get xs j.0) v u (subst (λ n. slice_get xs n ≡ Some v) s i.1.0) j.1.0
          | inr l ↦ absurd (omega (arith, taken i.0 j.0 u i.1 l j.1.0, e, m))
        ]
      ]
    where
      one_item : (o : Option N) (a b : N) → o ≡ Some a → o ≡ Some b → a ≡ b
      one_item o a b p q = cc

  root_reached : (w : N) → HasMember roots w → IsReached g roots w
  root_reached w i = (w, contains_from roots w i, ([], refl))

  next_reached : (p w : N) → IsReached g roots p → HasMember (g.succ p) w → IsReached g roots w
  next_reached p w h i = reached_next g roots pre post count d p w h (contains_from (g.succ p) w i)

  -- the node numbered k is told by those with smaller numbers
  fixed_by_earlier : IsFixedByEarlier (IsReached g roots) pre pre' count count' d.pre_numbers d'.pre_numbers
  fixed_by_earlier k v u agree hv hu e e' = elim (d.parents v hv) [
    | inl t ↦ elim (d'.parents u hu) [
      | inl t' ↦ one_taken roots k v u root_reached t.1 t'.1 (d.roots_in_order v hv t.0) (d'.roots_in_order u hu t'.0) e e' least least'
      | inr q ↦ absurd (top_is_not_passed g roots pre post count d q.0 v u t.0 q.1.reached hv q.2 (omega (arith, from q.0 q.1, q.1.around.0, e, e')) (omega (arith, e, least)))
    ]
    | inr p ↦ elim (d'.parents u hu) [
      | inl t' ↦ absurd (top_is_not_passed g roots pre' post' count' d' p.0 u v t'.0 p.1.reached hu p.2 (omega (arith, to p.0 p.1, p.1.around.0, e, e')) (omega (arith, e', least')))
      | inr q ↦
          let below : pre q.0 ≤ pre p.0 = passed_from_above g roots pre post count d p.0 q.0 v u p.1 q.1.reached hv q.2 (omega (arith, from q.0 q.1, q.1.around.0, e, e')) (omega (arith, e, least)) in
          let above : pre' p.0 ≤ pre' q.0 = passed_from_above g roots pre' post' count' d' q.0 p.0 u v q.1 p.1.reached hu p.2 (omega (arith, to p.0 p.1, p.1.around.0, e, e')) (omega (arith, e', least')) in
          let one : q.0 ≡ p.0 = d.pre_numbers.once q.0 p.0 q.1.reached p.1.reached (omega (arith, below, above, from q.0 q.1, to p.0 p.1)) in
          one_taken (g.succ p.0) k v u (λ w. next_reached p.0 w p.1.reached) p.2 (subst (λ x. Contains (g.succ x) u) one q.2)
          (d.in_order p.0 v hv p.1) (subst (λ x. Taken pre' (g.succ x) u) one (d'.in_order q.0 u hu q.1)) e e' least least'
    ]
  ]
    where
      least : k ≤ pre u
      least = elim (order (pre u) k) [ inl l ↦ absurd (omega (arith, agree u hu (inl l), l, e')) | inr x ↦ elim x [ inl s ↦ omega (arith, s) | inr s ↦ omega (arith, s) ] ]

      least' : k ≤ pre' v
      least' = elim (order (pre' v) k) [ inl l ↦ absurd (omega (arith, agree v hv (inr l), l, e)) | inr x ↦ elim x [ inl s ↦ omega (arith, s) | inr s ↦ omega (arith, s) ] ]

      -- an encloser has the same number in both
      from : (q : N) → IsNearest g roots pre' post' q u → pre q ≡ pre' q
      from q near = agree q near.reached (inr (omega (arith, near.around.0, e')))

      to : (p : N) → IsNearest g roots pre post p v → pre p ≡ pre' p
      to p near = agree p near.reached (inl (omega (arith, near.around.0, e)))

  pub same_pre : (v : N) → IsReached g roots v → pre v ≡ pre' v
  same_pre = same_numbers (IsReached g roots) pre pre' count count' d.pre_numbers d'.pre_numbers fixed_by_earlier

  -- what one encloses the other encloses
  encloses_below : (n : ℕ) (u v : N) → pre v < n → IsReached g roots u → IsReached g roots v → Encloses pre post u v → Encloses pre' post' u v
  encloses_below zero u v l hu hv e = absurd (omega (arith, l))
  encloses_below (suc n) u v l hu hv e = elim (d.parents v hv) [
    | inl top ↦ absurd (top.0 u hu e)
    | inr p ↦
        let near : Encloses pre' post' p.0 v = encloses_what_is_passed g roots pre' post' count' d' p.0 v v p.1.reached hv p.2 (omega (arith, same_pre p.0 p.1.reached, same_pre v hv, p.1.around.0)) (omega arith) in
        elim (p.1.nearest u hu e) [
          | inl same ↦ subst (λ x. Encloses pre' post' x v) (sym same) near
          | inr up ↦
              let far : Encloses pre' post' u p.0 = encloses_below n u p.0 (omega (arith, l, p.1.around.0)) hu p.1.reached up in
              (omega (arith, far.0, near.0), omega (arith, far.1, near.1))
        ]
  ]

  pub encloses_alike : (u v : N) → IsReached g roots u → IsReached g roots v → Encloses pre post u v → Encloses pre' post' u v
  encloses_alike u v = encloses_below (suc (pre v)) u v (omega arith)

module _ {N : Type 0} (g : Digraph N) (roots : List N) (pre post pre' post' : N → ℕ) (count count' : ℕ) (d : IsSearchNumbering g roots pre post count) (d' : IsSearchNumbering g roots pre' post' count') where
  same_order : (u v : N) → IsReached g roots u → IsReached g roots v → post u < post v → post' u < post' v
  same_order u v hu hv l = elim (order (pre u) (pre v)) [
    | inl k ↦ elim (order (post' u) (post' v)) [
      | inl m ↦ m
      | inr x ↦ elim x [
        | inl s ↦ absurd (omega (arith, l, ap post (d'.post_numbers.once u v hu hv s)))
        | inr m ↦
            let back : Encloses pre post u v = encloses_alike g roots pre' post' pre post count' count d' d u v hu hv (omega (arith, k, same u hu, same v hv), m) in
            absurd (omega (arith, l, back.1))
      ]
    ]
    | inr x ↦ elim x [
      | inl s ↦ absurd (omega (arith, l, ap post (d.pre_numbers.once u v hu hv s)))
      | inr k ↦ (encloses_alike g roots pre post pre' post' count count' d d' v u hv hu (k, l)).1
    ]
  ]
    where
      same : (x : N) → IsReached g roots x → pre x ≡ pre' x
      same = same_pre g roots pre post pre' post' count count' d d'

  pub same_post : (v : N) → IsReached g roots v → post v ≡ post' v
  same_post = same_by_order (IsReached g roots) post post' count count' d.post_numbers d'.post_numbers same_order

  pub same_count : count ≡ count'
  same_count = same_counts (IsReached g roots) pre pre' count count' d.pre_numbers d'.pre_numbers (same_pre g roots pre post pre' post' count count' d d')
