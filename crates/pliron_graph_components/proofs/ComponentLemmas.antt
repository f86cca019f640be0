-- Components, by a search numbering.
use Rattle.std.proofs.Common.{◌≡◌, ℕ, suc, ◌<◌, ◌≤◌, List, [], ◌∷◌, ◌++◌, length, slice_get, Some, refl, sym, ◌∙◌, ap, subst, arith, inl, inr, ◌⊎◌, Contains, ◌↔◌, IsTrue, length-append}
use Rattle.std.proofs.lemmas.Option.{slice_get_within}
use Rattle.pliron_graph_traversal.specs.Digraph.{Digraph, IsPath, Reaches, IsReached}
use Rattle.pliron_graph_traversal.specs.Search.{Encloses, IsSearchNumbering}
use Rattle.pliron_graph_components.specs.Components.{ReachEachOther, IsCyclic, Descends, HasGreatest}
use Rattle.pliron_graph_components.specs.declared.components.Scc.{Scc}
use Rattle.pliron_graph_traversal.specs.Internal.Membership.{HasMember, in_from, contains_from, in_left, in_right, in_cases}
use Rattle.pliron_graph_components.specs.Internal.Collecting.{IsPathOutside, LeadsOutside}
use Rattle.pliron_graph_traversal.proofs.ItemLemmas.{in_from_item}
use Rattle.pliron_graph_components.proofs.ItemLemmas.{item_left, item_right}
use Rattle.pliron_graph_components.proofs.LawLemmas.{reaches_join, reached_next, enclosed_reached}

order : (m n : ℕ) → (m < n) ⊎ ((m ≡ n) ⊎ (n < m))
order m n = grind arith

-- a second pass over the nodes by falling post-number
module _ {N : Type 0} (g : Digraph N) (roots : List N) (pre post : N → ℕ) where
  -- the components that were taken when the nodes with numbers from left on were gone through
  pub record AreTaken (held : List N) (cs : List (Scc N)) (left : ℕ) : Type 0 where
    pub late : (v : N) → IsReached g roots v → HasMember held v ⊎ (post v < left)
    pub reached : (v : N) → HasMember held v → IsReached g roots v
    pub closed : (u v : N) → HasMember held u → ReachEachOther g u v → HasMember held v
    pub covers : (v : N) → HasMember held v → (c : Scc N) × HasMember cs c × HasMember c.nodes.items v
    pub inside : (c : Scc N) (v : N) → HasMember cs c → HasMember c.nodes.items v → HasMember held v
    pub shares : (c : Scc N) (u v : N) → HasMember cs c → HasMember c.nodes.items u → (HasMember c.nodes.items v ↔ ReachEachOther g u v)
    pub leads : (c : Scc N) → HasMember cs c → (u : N) × HasMember c.nodes.items u × ((v : N) → IsReached g roots v → (HasMember held v → ⊥) → post v < post u)
    pub ordered : (i j : ℕ) (c e : Scc N) → i < j → slice_get cs i ≡ Some c → slice_get cs j ≡ Some e → HasGreatest post c.nodes.items e.nodes.items
    pub members : (c : Scc N) → HasMember cs c → Descends pre c.nodes.items
    pub cyclic : (c : Scc N) → HasMember cs c → (IsTrue c.is_cyclic ↔ IsCyclic g c.nodes.items)

module _ {N : Type 0} (g : Digraph N) (roots : List N) (pre post : N → ℕ) (count : ℕ) (d : IsSearchNumbering g roots pre post count) where
  -- what u holds: itself and what it encloses
  abbrev pub Holds : N → N → Type 0
  Holds u v = (u ≡ v) ⊎ Encloses pre post u v

  next_reached : (u v : N) → IsReached g roots u → Contains (g.succ u) v → IsReached g roots v
  next_reached u v h e = reached_next g roots pre post count d u v h e

  pub holder_reaches : (u v : N) → IsReached g roots u → IsReached g roots v → Holds u v → Reaches g u v
  holder_reaches u v hu hv (inl s) = ([], s)
  holder_reaches u v hu hv (inr e) = enclosed_reached g roots pre post count d u v hu hv e

  -- the source of an edge into what r holds is finished after r, or r holds it
  pub held_source : (r x y : N) → IsReached g roots r → IsReached g roots x → Contains (g.succ x) y → Holds r y → post x ≤ post r → Holds r x
  held_source r x y hr hx e h m = by (order (post x) (post r)) (order (pre r) (pre x)) (order (post x) (post y)) h
    where
      hy : IsReached g roots y
      hy = next_reached x y hx e

      by : (post x < post r) ⊎ ((post x ≡ post r) ⊎ (post r < post x)) → (pre r < pre x) ⊎ ((pre r ≡ pre x) ⊎ (pre x < pre r))
          → (post x < post y) ⊎ ((post x ≡ post y) ⊎ (post y < post x)) → Holds r y → Holds r x
      by (inr (inl s)) b c k = inl (d.post_numbers.once r x hr hx (sym s))
      by (inr (inr l)) b c k = absurd (omega (arith, l, m))
      by (inl l) (inl i) c k = inr (i, l)
      by (inl l) (inr (inl s)) c k = inl (d.pre_numbers.once r x hr hx s)
      by (inl l) (inr (inr i)) c (inl same) = absurd (d.no_later x y hx e (omega (arith, i, ap pre same), omega (arith, l, ap post same)))
      by (inl l) (inr (inr i)) (inl j) (inr k) = absurd (d.no_later x y hx e (omega (arith, i, k.0), j))
      by (inl l) (inr (inr i)) (inr (inl s)) (inr k) = absurd (omega (arith, i, k.0, ap pre (d.post_numbers.once x y hx hy s)))
      by (inl l) (inr (inr i)) (inr (inr j)) (inr k) = elim (d.nested x r y hx hr hy (omega (arith, i, k.0), j) k) [
        | inl s ↦ absurd (omega (arith, i, ap pre s))
        | inr t ↦ elim t [ inl a ↦ absurd (omega (arith, l, a.1)) | inr a ↦ absurd (omega (arith, i, a.0)) ]
      ]

  -- the node of a path that is finished last: it reaches the path's start, and the start reaches it
  pub record IsLast (u x : N) : Type 0 where
    pub last : N
    pub is_reached : IsReached g roots last
    pub there : Reaches g u last
    pub holds : Holds last u
    pub latest : post x ≤ post last

  pub last_of_path : (u x : N) (ws : List N) → IsReached g roots u → IsPath g u ws x → IsLast u x
  last_of_path u x [] hu p = record { last = u; is_reached = hu; there = ([], refl); holds = inl refl; latest = omega (arith, ap post p) }
  last_of_path u x (w ∷ ws) hu p =
      let rest = last_of_path w x ws (next_reached u w hu p.0) p.1 in
      elim (order (post rest.last) (post u)) [
        | inl l ↦ record { last = u; is_reached = hu; there = ([], refl); holds = inl refl; latest = omega (arith, l, rest.latest) }
        | inr y ↦ record {
          last = rest.last;
          is_reached = rest.is_reached;
          there = (w ∷ rest.there.0, (p.0, rest.there.1));
          holds = held_source rest.last u w rest.is_reached hu p.0 rest.holds (elim y [ inl s ↦ omega (arith, s) | inr l ↦ omega (arith, l) ]);
          latest = rest.latest;
        }
      ]

  -- from a node one comes to none that is finished after all that it shares a cycle with
  pub latest_in_component : (u x : N) → IsReached g roots u → Reaches g u x → (r : N) × ReachEachOther g u r × (post x ≤ post r)
  latest_in_component u x hu h =
      let l = last_of_path u x h.0 hu h.1 in
      (l.last, (l.there, holder_reaches l.last u l.is_reached hu l.holds), l.latest)

  pub none_taken : ((v : N) → IsReached g roots v → post v < count) → AreTaken g roots pre post [] [] count
  none_taken within = record {
    late = λ v h. inr (within v h);
    reached = λ v h. absurd h;
    closed = λ u v h m. absurd h;
    covers = λ v h. absurd h;
    inside = λ c v h i. absurd h;
    shares = λ c u v h i. absurd h;
    leads = λ c h. absurd h;
    ordered = λ i j c e l p q. absurd (cc p);
    members = λ c h. absurd h;
    cyclic = λ c h. absurd h;
  }

  -- a node that is held has its component
  pub passed : (held : List N) (cs : List (Scc N)) (r : N) → IsReached g roots r → HasMember held r → AreTaken g roots pre post held cs (suc (post r)) → AreTaken g roots pre post held cs (post r)
  passed held cs r hr there t = record {
    late = λ v hv. elim (t.late v hv) [
      | inl h ↦ inl h
      | inr l ↦ elim (order (post v) (post r)) [
        | inl k ↦ inr k
        | inr y ↦ elim y [ inl s ↦ inl (subst (HasMember held) (d.post_numbers.once r v hr hv (sym s)) there) | inr k ↦ absurd (omega (arith, l, k)) ]
      ]
    ];
    reached = t.reached;
    closed = t.closed;
    covers = t.covers;
    inside = t.inside;
    shares = t.shares;
    leads = t.leads;
    ordered = t.ordered;
    members = t.members;
    cyclic = t.cyclic;
  }

  module _ (held added : List N) (cs : List (Scc N)) (c : Scc N) (r : N) (hr : IsReached g roots r) (fresh : HasMember held r → ⊥) (t : AreTaken g roots pre post held cs (suc (post r)))
      (collected : (x : N) → HasMember added x → IsReached g roots x × LeadsOutside g held x r) (complete : (x : N) → IsReached g roots x → LeadsOutside g held x r → HasMember added x)
      (same : (x : N) → (Contains c.nodes.items x ↔ HasMember added x)) where
    unheld_low : (v : N) → IsReached g roots v → (HasMember held v → ⊥) → post v ≤ post r
    unheld_low v hv n = elim (t.late v hv) [ inl h ↦ absurd (n h) | inr l ↦ omega (arith, l) ]

    first_fresh : (x : N) (ws : List N) → IsPathOutside g held x ws r → HasMember held x → ⊥
    first_fresh x [] p = p.0
    first_fresh x (w ∷ ws) p = p.0

    led_held : (x : N) (ws : List N) → IsReached g roots x → IsPathOutside g held x ws r → Holds r x × Reaches g x r
    led_held x [] hx p = (inl (sym p.1), ([], p.1))
    led_held x (w ∷ ws) hx p =
        let rest = led_held w ws (next_reached x w hx p.1) p.2 in
        (held_source r x w hr hx p.1 rest.0 (unheld_low x hx p.0), (w ∷ rest.1.0, (p.1, rest.1.1)))

    added_mutual : (x : N) → HasMember added x → ReachEachOther g r x
    added_mutual x h =
        let k = collected x h in
        let m = led_held x k.1.0 k.0 k.1.1 in
        (holder_reaches r x hr k.0 m.0, m.1)

    added_fresh : (x : N) → HasMember added x → HasMember held x → ⊥
    added_fresh x h = let k = collected x h in first_fresh x k.1.0 k.1.1

    mutual_path : (x : N) (ws : List N) → Reaches g r x → IsPath g x ws r → IsPathOutside g held x ws r
    mutual_path x [] there p = (λ h. fresh (subst (HasMember held) p h), p)
    mutual_path x (w ∷ ws) there p = (
      λ h. fresh (t.closed x r h ((w ∷ ws, p), there)),
      p.0,
      mutual_path w ws (reaches_join g r x w there (w ∷ [], (p.0, refl))) p.1,
    )

    mutual_added : (x : N) → ReachEachOther g r x → HasMember added x
    mutual_added x m = complete x (hr.0, hr.1, reaches_join g hr.0 r x hr.2 m.0) (m.1.0, mutual_path x m.1.0 m.0 m.1.1)

    mutual_next : (u v w : N) → ReachEachOther g u v → ReachEachOther g v w → ReachEachOther g u w
    mutual_next u v w m n = (reaches_join g u v w m.0 n.0, reaches_join g w v u n.1 m.1)

    mutual_back : (u v : N) → ReachEachOther g u v → ReachEachOther g v u
    mutual_back u v m = (m.1, m.0)

    root_added : HasMember added r
    root_added = mutual_added r (([], refl), ([], refl))

    member_added : (x : N) → HasMember c.nodes.items x → HasMember added x
    member_added x h = (same x).0 (contains_from c.nodes.items x h)

    added_member : (x : N) → HasMember added x → HasMember c.nodes.items x
    added_member x h = in_from c.nodes.items x ((same x).1 h)

    split : (v : N) → HasMember (held ++ added) v → HasMember held v ⊎ HasMember added v
    split v h = in_cases held added v h

    split_component : (e : Scc N) → HasMember (cs ++ c ∷ []) e → HasMember cs e ⊎ (c ≡ e)
    split_component e h = elim (in_cases cs (c ∷ []) e h) [ inl a ↦ inl a | inr b ↦ elim b [ inl s ↦ inr s | inr n ↦ absurd n ] ]

    low_of_rest : (v : N) → IsReached g roots v → (HasMember (held ++ added) v → ⊥) → post v < post r
    low_of_rest v hv n = elim (order (post v) (post r)) [
      | inl l ↦ l
      | inr y ↦ elim y [
        | inl s ↦ absurd (n (in_right held added v (subst (HasMember added) (d.post_numbers.once r v hr hv (sym s)) root_added)))
        | inr l ↦ absurd (omega (arith, l, unheld_low v hv (λ h. n (in_left held added v h))))
      ]
    ]

    item_of_push : (j : ℕ) (e : Scc N) → slice_get (cs ++ c ∷ []) j ≡ Some e → ((j < length cs) × (slice_get cs j ≡ Some e)) ⊎ ((j ≡ length cs) × (c ≡ e))
    item_of_push j e at = elim (order j (length cs)) [
      | inl l ↦ inl (l, sym (item_left cs (c ∷ []) j l) ∙ at)
      | inr y ↦ elim y [
        | inl s ↦
            let here : slice_get (c ∷ []) 0 ≡ Some e = sym (item_right cs (c ∷ []) 0 j (omega (arith, s))) ∙ at in
            let is : c ≡ e = cc in inr (s, is)
        | inr l ↦ absurd (omega (arith, l, slice_get_within (cs ++ c ∷ []) j e at, length-append cs (c ∷ [])))
      ]
    ]

    after : (a : Scc N) → HasMember cs a → HasGreatest post a.nodes.items c.nodes.items
    after a h =
        let l = t.leads a h in (
          l.0,
          contains_from a.nodes.items l.0 l.1,
          λ v m. let k = (same v).0 m in l.2 v (collected v k).0 (added_fresh v k),
        )

    taken_in_order : (i j : ℕ) (a b : Scc N) → i < j → slice_get (cs ++ c ∷ []) i ≡ Some a → slice_get (cs ++ c ∷ []) j ≡ Some b → HasGreatest post a.nodes.items b.nodes.items
    taken_in_order i j a b l p q = elim (item_of_push j b q) [
      | inl y ↦ elim (item_of_push i a p) [
        | inl x ↦ t.ordered i j a b l x.1 y.1
        | inr x ↦ absurd (omega (arith, l, x.0, y.0))
      ]
      | inr y ↦ elim (item_of_push i a p) [
        | inl x ↦ subst (λ (z : Scc N). HasGreatest post a.nodes.items z.nodes.items) y.1 (after a (in_from_item cs i a x.1))
        | inr x ↦ absurd (omega (arith, l, x.0, y.0))
      ]
    ]

    new_shares : (u v : N) → HasMember c.nodes.items u → (HasMember c.nodes.items v ↔ ReachEachOther g u v)
    new_shares u v hu =
        let m = added_mutual u (member_added u hu) in (
          λ hv. mutual_next u r v (mutual_back r u m) (added_mutual v (member_added v hv)),
          λ n. added_member v (mutual_added v (mutual_next r u v m n)),
        )

    pub one_more : Descends pre c.nodes.items → (IsTrue c.is_cyclic ↔ IsCyclic g c.nodes.items) → AreTaken g roots pre post (held ++ added) (cs ++ c ∷ []) (post r)
    one_more descends cyclic = record {
      late = λ v hv. elim (t.late v hv) [
        | inl h ↦ inl (in_left held added v h)
        | inr l ↦ elim (order (post v) (post r)) [
          | inl k ↦ inr k
          | inr y ↦ elim y [
            | inl s ↦ inl (in_right held added v (subst (HasMember added) (d.post_numbers.once r v hr hv (sym s)) root_added))
            | inr k ↦ absurd (omega (arith, l, k))
          ]
        ]
      ];
      reached = λ v h. elim (split v h) [ inl a ↦ t.reached v a | inr b ↦ (collected v b).0 ];
      closed = λ u v h m. elim (split u h) [
        | inl a ↦ in_left held added v (t.closed u v a m)
        | inr b ↦ in_right held added v (mutual_added v (mutual_next r u v (added_mutual u b) m))
      ];
      covers = λ v h. elim (split v h) [
        | inl a ↦ let k = t.covers v a in (k.0, in_left cs (c ∷ []) k.0 k.1, k.2)
        | inr b ↦ (c, in_right cs (c ∷ []) c (inl refl), added_member v b)
      ];
      inside = λ e v h i. elim (split_component e h) [
        | inl a ↦ in_left held added v (t.inside e v a i)
        | inr s ↦ in_right held added v (member_added v (subst (λ (z : Scc N). HasMember z.nodes.items v) (sym s) i))
      ];
      shares = λ e u v h i. elim (split_component e h) [
        | inl a ↦ t.shares e u v a i
        | inr s ↦ subst (λ (z : Scc N). HasMember z.nodes.items v ↔ ReachEachOther g u v) s (new_shares u v (subst (λ (z : Scc N). HasMember z.nodes.items u) (sym s) i))
      ];
      leads = λ e h. elim (split_component e h) [
        | inl a ↦ let k = t.leads e a in (k.0, k.1, λ v hv n. k.2 v hv (λ x. n (in_left held added v x)))
        | inr s ↦ (r, subst (λ (z : Scc N). HasMember z.nodes.items r) s (added_member r root_added), low_of_rest)
      ];
      ordered = taken_in_order;
      members = λ e h. elim (split_component e h) [ inl a ↦ t.members e a | inr s ↦ subst (λ (z : Scc N). Descends pre z.nodes.items) s descends ];
      cyclic = λ e h. elim (split_component e h) [ inl a ↦ t.cyclic e a | inr s ↦ subst (λ (z : Scc N). IsTrue z.is_cyclic ↔ IsCyclic g z.nodes.items) s cyclic ];
    }
