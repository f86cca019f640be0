-- What follows from a search numbering alone.
use Rattle.std.proofs.Common.{◌≡◌, ℕ, zero, suc, ◌<◌, ◌≤◌, List, [], ◌∷◌, ◌++◌, refl, sym, ap, subst, arith, inl, inr, ◌⊎◌, Contains, Bool, true, ◌↔◌, length}
use Rattle.pliron_graph_traversal.specs.Digraph.{Digraph, IsLawful, IsPath, Reaches, IsReached, HasCycle}
use Rattle.pliron_graph_traversal.specs.EdgeKinds.{HasBackEdge}
use Rattle.pliron_graph_traversal.specs.Search.{Encloses, IsSearchNumbering, IsSearch, Orders, number_in}
use Rattle.pliron_graph_components.proofs.RankLemmas.{order}

module _ {N : Type 0} (g : Digraph N) where
  pub path_end : (u v w : N) (ws : List N) → IsPath g u ws v → Contains (g.succ v) w → IsPath g u (ws ++ w ∷ []) w
  path_end u v w [] p e = (subst (λ x. Contains (g.succ x) w) (sym p) e, refl)
  path_end u v w (x ∷ xs) p e = (p.0, path_end x v w xs p.1 e)

  path_join : (u v w : N) (xs ys : List N) → IsPath g u xs v → IsPath g v ys w → IsPath g u (xs ++ ys) w
  path_join u v w [] ys p q = subst (λ z. IsPath g z ys w) (sym p) q
  path_join u v w (x ∷ xs) ys p q = (p.0, path_join x v w xs ys p.1 q)

  pub reaches_join : (u v w : N) → Reaches g u v → Reaches g v w → Reaches g u w
  reaches_join u v w r s = (r.0 ++ s.0, path_join u v w r.0 s.0 r.1 s.1)

  pub reaches_step : (u v w : N) → Reaches g u v → Contains (g.succ v) w → Reaches g u w
  reaches_step u v w r e = (r.0 ++ w ∷ [], path_end u v w r.0 r.1 e)

module _ {N : Type 0} (g : Digraph N) (roots : List N) (pre post : N → ℕ) (count : ℕ) (d : IsSearchNumbering g roots pre post count) where
  pub reached_next : (u v : N) → IsReached g roots u → Contains (g.succ u) v → IsReached g roots v
  reached_next u v h e = (h.0, h.1, reaches_step g h.0 u v h.2 e)

  -- who encloses reaches
  reaches_below : (n : ℕ) (u v : N) → pre v < n → IsReached g roots u → IsReached g roots v → Encloses pre post u v → Reaches g u v
  reaches_below zero u v l hu hv e = absurd (omega arith)
  reaches_below (suc n) u v l hu hv e = elim (d.parents v hv) [
    | inl top ↦ absurd (top.0 u hu e)
    | inr p ↦ elim (p.1.nearest u hu e) [
      | inl same ↦ (v ∷ [], (subst (λ x. Contains (g.succ x) v) (sym same) p.2, refl))
      | inr up ↦ reaches_step g u p.0 v (reaches_below n u p.0 (omega (arith, l, p.1.around.0)) hu p.1.reached up) p.2
    ]
  ]

  pub enclosed_reached : (u v : N) → IsReached g roots u → IsReached g roots v → Encloses pre post u v → Reaches g u v
  enclosed_reached u v hu hv e = reaches_below (suc (pre v)) u v (omega arith) hu hv e

  -- an edge: its target is finished first, or reaches its source
  pub edge_law : (u v : N) → IsReached g roots u → Contains (g.succ u) v → (post v < post u) ⊎ Reaches g v u
  edge_law u v hu e = elim (order (post v) (post u)) [
    | inl l ↦ inl l
    | inr x ↦ elim x [
      | inl s ↦ inr ([], d.post_numbers.once v u (reached_next u v hu e) hu s)
      | inr l ↦ elim (order (pre u) (pre v)) [
        | inl k ↦ absurd (d.no_later u v hu e (k, l))
        | inr y ↦ elim y [
          | inl s ↦ inr ([], d.pre_numbers.once v u (reached_next u v hu e) hu (sym s))
          | inr k ↦ inr (enclosed_reached v u (reached_next u v hu e) hu (k, l))
        ]
      ]
    ]
  ]

  -- what u holds: itself and what it encloses
  abbrev pub Holds : N → N → Type 0
  Holds u v = (u ≡ v) ⊎ Encloses pre post u v

  -- an edge that goes back: to the node itself or to one that encloses it
  abbrev pub IsBackEdge : N → N → Type 0
  IsBackEdge u v = IsReached g roots u × Contains (g.succ u) v × Holds v u

  -- an edge goes back, or to a node that is finished first
  back_or_falls : (u v : N) → IsReached g roots u → Contains (g.succ u) v → IsBackEdge u v ⊎ (post v < post u)
  back_or_falls u v hu e =
      let hv = reached_next u v hu e in
      elim (order (post v) (post u)) [
        | inl l ↦ inr l
        | inr x ↦ elim x [
          | inl s ↦ inl (hu, e, inl (d.post_numbers.once v u hv hu s))
          | inr l ↦ elim (order (pre u) (pre v)) [
            | inl k ↦ absurd (d.no_later u v hu e (k, l))
            | inr y ↦ elim y [ inl s ↦ inl (hu, e, inl (d.pre_numbers.once v u hv hu (sym s))) | inr k ↦ inl (hu, e, inr (k, l)) ]
          ]
        ]
      ]

  along_path : (u v : N) (ws : List N) → IsReached g roots u → IsPath g u ws v → ((x : N) × (y : N) × IsBackEdge x y) ⊎ (post v ≤ post u)
  along_path u v [] hu p = inr (omega (arith, ap post p))
  along_path u v (w ∷ ws) hu p = elim (back_or_falls u w hu p.0) [
    | inl b ↦ inl (u, w, b)
    | inr l ↦ elim (along_path w v ws (reached_next u w hu p.0) p.1) [ inl b ↦ inl b | inr m ↦ inr (omega (arith, l, m)) ]
  ]

  -- a cycle has an edge that goes back
  pub back_from_cycle : (u w : N) (ws : List N) → IsReached g roots u → IsPath g u (w ∷ ws) u → (x : N) × (y : N) × IsBackEdge x y
  back_from_cycle u w ws hu p = elim (back_or_falls u w hu p.0) [
    | inl b ↦ (u, w, b)
    | inr l ↦ elim (along_path w u ws (reached_next u w hu p.0) p.1) [ inl b ↦ b | inr m ↦ absurd (omega (arith, l, m)) ]
  ]

  -- and an edge that goes back lies on a cycle
  pub cycle_from_back : (u v : N) → IsBackEdge u v → (ws : List N) × IsPath g u (v ∷ ws) u
  cycle_from_back u v b = elim b.2 [
    | inl s ↦ ([], (b.1, s))
    | inr e ↦ let r = enclosed_reached v u (reached_next u v b.0 b.1) b.0 e in (r.0, (b.1, r.1))
  ]

-- an edge of what the roots reach goes back exactly if there is a cycle
pub back_edge_on_cycle : {N : Type 0} (eq : N → N → Bool) (reflexive : (x : N) → eq x x ≡ true) (g : Digraph N) (roots : List N) (o : Orders N) → IsLawful eq g → IsSearch eq g roots o
    → (HasBackEdge eq g roots o ↔ HasCycle g roots)
back_edge_on_cycle {N} eq reflexive g roots o lawful search = (there, back)
  where
    there : HasBackEdge eq g roots o → HasCycle g roots
    there (u, v, hu, e, inl same) =
        let c = cycle_from_back g roots (number_in eq o.pre) (number_in eq o.post) (length o.pre) search.numbering u v (hu, e, inl (sym (lawful.same u v same))) in (u, v, c.0, hu, c.1)
    there (u, v, hu, e, inr around) =
        let c = cycle_from_back g roots (number_in eq o.pre) (number_in eq o.post) (length o.pre) search.numbering u v (hu, e, inr around) in (u, v, c.0, hu, c.1)

    back : HasCycle g roots → HasBackEdge eq g roots o
    back (u, v, ws, hu, p) =
        let b = back_from_cycle g roots (number_in eq o.pre) (number_in eq o.post) (length o.pre) search.numbering u v ws hu p in
        elim b.2.2 [
          | inl s ↦ (b.0, b.1, b.2.0, b.2.1, inl (subst (λ z. eq b.0 z ≡ true) (sym s) (reflexive b.0)))
          | inr e ↦ (b.0, b.1, b.2.0, b.2.1, inr e)
        ]
