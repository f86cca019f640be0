-- What the sentinel of a reverse graph reaches.
use Rattle.std.proofs.Common.{◌≡◌, ℕ, zero, suc, ◌+◌, ◌<◌, ◌≤◌, Bool, true, false, List, [], ◌∷◌, ◌++◌, Some, length, map, refl, sym, ◌∙◌, ap, subst, arith, inl, inr, ◌⊎◌, Contains, slice_get, get_or, true≢false}
use Rattle.std.specs.List.{All, list_any}
use Rattle.std.proofs.lemmas.List.Elements.{All-contains, Contains-get_or}
use Rattle.std.proofs.lemmas.Option.{slice_get_within}
use Rattle.pliron_graph_traversal.specs.Digraph.{Digraph, IsLawful, IsPath, Reaches}
use Rattle.pliron_graph_traversal.specs.Search.{number_in}
use Rattle.pliron_graph_components.specs.Components.{AreComponents}
use Rattle.pliron_graph_components.specs.declared.components.Scc.{Scc}
use Rattle.pliron_graph_components.specs.Reverse.{IsSink, IsLastListed, AreLastOfSinks, ArePreSentinels, reverse_of}
use Rattle.pliron_graph_components.specs.declared.reverse_node.ReverseNode.{ReverseNode}
use Rattle.pliron_graph_components.specs.declared.reverse_node.ReverseNode.TheVariants.{Sentinel, Real}
use Rattle.pliron_graph_traversal.specs.Internal.Membership.{HasMember, in_from, contains_from, in_left, in_right, in_cases, in_from_any, any_from_in}
use Rattle.pliron_graph_components.specs.Internal.ReverseLawful.{in_map}
use Rattle.pliron_graph_components.proofs.LawLemmas.{reaches_step, reaches_join}
use Rattle.pliron_graph_traversal.proofs.ItemLemmas.{item_from_in}
use Rattle.pliron_graph_components.proofs.ItemLemmas.{item_left, item_right}
use Rattle.pliron_graph_components.proofs.PreSentinelLemmas.{contains_item, item_contained, below_or_not, components_apart, component_inside, last_once}
use Rattle.pliron_graph_components.proofs.ComponentLawLemmas.{between_components}

module _ {X : Type 0} where
  -- one thing holds of each item, or another of some item
  each_or_some : (P Q : X → Type 0) (xs : List X) → ((x : X) → HasMember xs x → P x ⊎ Q x) → ((x : X) → HasMember xs x → P x) ⊎ ((x : X) × HasMember xs x × Q x)
  each_or_some P Q [] h = inl (λ x i. absurd i)
  each_or_some P Q (y ∷ ys) h = elim (h y (inl refl)) [
    | inr q ↦ inr (y, inl refl, q)
    | inl p ↦ elim (each_or_some P Q ys (λ x i. h x (inr i))) [
      | inr q ↦ inr (q.0, inr q.1, q.2)
      | inl all ↦ inl (λ x i. elim i [ inl e ↦ subst P e p | inr k ↦ all x k ])
    ]
  ]

  -- some item has the greatest number
  greatest : (number : X → ℕ) (x : X) (xs : List X) → (v : X) × HasMember (x ∷ xs) v × ((u : X) → HasMember (x ∷ xs) u → number u ≤ number v)
  greatest number x [] = (x, inl refl, λ u i. elim i [ inl e ↦ omega (arith, ap number e) | inr k ↦ absurd k ])
  greatest number x (y ∷ ys) =
      let r = greatest number y ys in
      elim (below_or_not (number x) (number r.0)) [
        | inl l ↦ (r.0, inr r.1, λ u i. elim i [ inl e ↦ omega (arith, l, ap number e) | inr k ↦ r.2 u k ])
        | inr l ↦ (x, inl refl, λ u i. elim i [ inl e ↦ omega (arith, ap number e) | inr k ↦ omega (arith, l, r.2 u k) ])
      ]

-- an item of a list of real nodes is one
real_item : {N : Type 0} (xs : List N) (r : ReverseNode N) → HasMember (map Real xs) r → (x : N) × (r ≡ Real x) × HasMember xs x
real_item [] r h = absurd h
real_item (x ∷ xs) r (inl e) = (x, sym e, inl refl)
real_item (x ∷ xs) r (inr h) = let p = real_item xs r h in (p.0, p.1, inr p.2)

module _ {N : Type 0} (eq : N → N → Bool) (reflexive : (x : N) → eq x x ≡ true) (g : Digraph N) (lawful : IsLawful eq g) where
  -- a path goes back in the reverse graph
  path_back : (starts : List N) (u v : N) (ws : List N) → Contains g.nodes u → IsPath g u ws v → Reaches (reverse_of eq g starts) (Real v) (Real u)
  path_back starts u v [] hu p = ([], ap Real (sym p))
  path_back starts u v (w ∷ ws) hu p =
      let hw = lawful.succ_in u w hu p.0 in
      let edge : Contains (map Real (g.pred w)) (Real u) = contains_from (map Real (g.pred w)) (Real u) (in_map Real (g.pred w) u (in_from (g.pred w) u ((lawful.inverse u w hu hw).1 p.0))) in
      reaches_step (reverse_of eq g starts) (Real v) (Real w) (Real u) (path_back starts w v ws hw p.1) edge

  -- and a path of the reverse graph between nodes comes from one of the graph
  path_forth : (starts : List N) (u v : N) (ws : List (ReverseNode N)) → Contains g.nodes u → IsPath (reverse_of eq g starts) (Real u) ws (Real v) → Reaches g v u
  path_forth starts u v [] hu p = let e : u ≡ v = cc p in ([], sym e)
  path_forth starts u v (r ∷ ws) hu p =
      let x = real_item (g.pred u) r (in_from (map Real (g.pred u)) r p.0) in
      let at : Contains (g.pred u) x.0 = contains_from (g.pred u) x.0 x.2 in
      let hx = lawful.pred_in x.0 u hu at in
      reaches_step g v x.0 u (path_forth starts x.0 v ws hx (subst (λ z. IsPath (reverse_of eq g starts) z ws (Real v)) x.1 p.1)) ((lawful.inverse x.0 u hx hu).0 at)

  -- no path leaves a sink
  path_inside : (nodes : List N) (u v : N) (ws : List N) → IsSink g nodes → Contains nodes u → IsPath g u ws v → Contains nodes v
  path_inside nodes u v [] sink hu p = subst (Contains nodes) p hu
  path_inside nodes u v (w ∷ ws) sink hu p =
      path_inside nodes w v ws sink (All-contains (λ x. Contains nodes x) (g.succ u) w (All-contains (λ x. All (λ y. Contains nodes y) (g.succ x)) nodes u sink hu) p.0) p.1

  -- nodes are a sink, or an edge leads out
  sink_or_leaves : (nodes : List N) → IsSink g nodes ⊎ ((u v : N) × Contains nodes u × Contains (g.succ u) v × (Contains nodes v → ⊥))
  sink_or_leaves nodes = elim (each_or_some (λ u. (v : N) → HasMember (g.succ u) v → Contains nodes v) (λ u. (v : N) × HasMember (g.succ u) v × (Contains nodes v → ⊥)) nodes (λ u hu. each_or_some (λ v. Contains nodes v) (λ v. Contains nodes v → ⊥) (g.succ u) (λ v hv. by v (list_any (eq v) nodes) refl))) [
    | inl all ↦ inl (λ i d l j e m. all (get_or nodes i d) (in_from nodes (get_or nodes i d) (Contains-get_or nodes i d l)) (get_or (g.succ (get_or nodes i d)) j e) (in_from (g.succ (get_or nodes i d)) (get_or (g.succ (get_or nodes i d)) j e) (Contains-get_or (g.succ (get_or nodes i d)) j e m)))
    | inr some ↦ inr (some.0, some.2.0, contains_from nodes some.0 some.1, contains_from (g.succ some.0) some.2.0 some.2.1, some.2.2)
  ]
    where
      by : (v : N) (b : Bool) → list_any (eq v) nodes ≡ b → Contains nodes v ⊎ (Contains nodes v → ⊥)
      by v true e = inl (contains_from nodes v (in_from_any eq lawful.same reflexive nodes v e))
      by v false e = inr (λ h. true≢false (sym (any_from_in eq lawful.same reflexive nodes v (in_from nodes v h)) ∙ e))

  last_exists : (nodes : List N) → 0 < length nodes → (v : N) × IsLastListed eq g nodes v
  last_exists [] l = absurd (omega (arith, l))
  last_exists (x ∷ xs) l = let r = greatest (number_in eq g.nodes) x xs in (r.0, (contains_from (x ∷ xs) r.0 r.1, λ u h. r.2 u (in_from (x ∷ xs) u h)))

  module _ (components : List (Scc N)) (are : AreComponents eq g components) (starts : List N) (last : AreLastOfSinks eq g components starts) where
    component_item : (v : N) → Contains g.nodes v → (i : ℕ) × (c : Scc N) × (slice_get components i ≡ Some c) × Contains c.nodes.items v
    component_item v h = let r = (are.covers v).0 h in let k = contains_item components r.0 r.1 in (k.0, r.0, k.1, r.2)

    module _ (between : (i j : ℕ) (c d : Scc N) → slice_get components i ≡ Some c → slice_get components j ≡ Some d → (u v : N) → Contains c.nodes.items u → Contains d.nodes.items v → Contains (g.succ u) v → i ≤ j) where
      -- every node reaches a pre-sentinel
      start_below : (n i : ℕ) (c : Scc N) (u : N) → length components ≤ n + i → slice_get components i ≡ Some c → Contains c.nodes.items u → (p : N) × Contains starts p × Reaches g u p
      start_below zero i c u l at hu = absurd (omega (arith, l, slice_get_within components i c at))
      start_below (suc n) i c u l at hu = elim (sink_or_leaves c.nodes.items) [
        | inl sink ↦
            let member = item_contained components i c at in
            let v = last_exists c.nodes.items (are.not_empty c member) in
            (v.0, (last.listed v.0).1 (c, member, sink, v.1), ((are.shares c u v.0 member hu).0 v.1.0).0)
        | inr out ↦
            let member = item_contained components i c at in
            let there = ((are.shares c u out.0 member hu).0 out.2).0 in
            let hx : Contains g.nodes out.0 = All-contains (λ v. Contains g.nodes v) c.nodes.items out.0 (component_inside eq lawful.same reflexive g components are c member) out.2 in
            let next = component_item out.1 (lawful.succ_in out.0 out.1 hx out.3) in
            let later : i ≤ next.0 = between i next.0 c next.1 at next.2 out.0 out.1 out.2 next.3 out.3 in
            let apart : i ≡ next.0 → ⊥ = λ e. let one : Some c ≡ Some next.1 = sym at ∙ ap (slice_get components) e ∙ next.2 in
            let same : c ≡ next.1 = cc one in out.4 (subst (λ d. Contains d.nodes.items out.1) (sym same) next.3) in
            let rest = start_below n next.0 next.1 out.1 (elim (below_or_not i next.0) [ inl k ↦ omega (arith, l, k) | inr k ↦ absurd (apart (omega (arith, k, later))) ]) next.2 next.3 in
            (rest.0, rest.1, reaches_join g u out.1 rest.0 (reaches_step g u out.0 out.1 there out.3) rest.2)
      ]

      pub reaches_all : (v : N) → Contains g.nodes v → Reaches (reverse_of eq g starts) Sentinel (Real v)
      reaches_all v h =
          let at = component_item v h in
          let p = start_below (length components) at.0 at.1 v (omega arith) at.2 at.3 in
          let back = path_back starts v p.0 p.2.0 h p.2.1 in
          (Real p.0 ∷ back.0, (contains_from (map Real starts) (Real p.0) (in_map Real starts p.0 (in_from starts p.0 p.1)), back.1))

    -- a pre-sentinel reaches no other one
    starts_apart : (u v : N) → Contains starts u → Contains starts v → Reaches g u v → u ≡ v
    starts_apart u v hu hv r =
        let a = (last.listed u).0 hu in
        let b = (last.listed v).0 hv in
        let v_in : Contains a.0.nodes.items v = path_inside a.0.nodes.items u v r.0 a.2 a.3.0 r.1 in
        let moved : (w : N) → Contains a.0.nodes.items w → Contains b.0.nodes.items w = λ w hw. (are.shares b.0 v w b.1 b.3.0).1 ((are.shares a.0 v w a.1 v_in).0 hw) in
        last_once eq lawful.same reflexive g a.0.nodes.items u v (component_inside eq lawful.same reflexive g components are a.0 a.1) a.3 (v_in, λ w hw. b.3.1 w (moved w hw))

    start_node : (v : N) → Contains starts v → Contains g.nodes v
    start_node v h = let r = (last.listed v).0 h in All-contains (λ x. Contains g.nodes x) r.0.nodes.items v (component_inside eq lawful.same reflexive g components are r.0 r.1) r.3.0

  module _ (before after : List N) (v : N) (starts : ArePreSentinels eq g (before ++ v ∷ after)) where
    twice : (i j : ℕ) → i < j → slice_get (before ++ v ∷ after) i ≡ Some v → slice_get (before ++ v ∷ after) j ≡ Some v → ⊥
    twice i j l a b =
        let e = starts.2.in_order i j v v l a b in
        components_apart eq lawful.same reflexive g starts.0 starts.1 e.0 e.1 e.2 e.3 v e.4 e.5 e.6 e.7 e.8

    here : slice_get (before ++ v ∷ after) (length before) ≡ Some v
    here = item_right before (v ∷ after) 0 (length before) (omega arith)

    -- v stands once among the pre-sentinels
    stands_once : HasMember (before ++ after) v → ⊥
    stands_once h = elim (in_cases before after v h) [
      | inl a ↦
          let k = item_from_in before v a in
          let within : k.0 < length before = slice_get_within before k.0 v k.1 in
          twice k.0 (length before) within (item_left before (v ∷ after) k.0 within ∙ k.1) here
      | inr b ↦
          let k = item_from_in after v b in
          twice (length before) (length before + suc k.0) (omega arith) here (item_right before (v ∷ after) (suc k.0) (length before + suc k.0) refl ∙ k.1)
    ]

    in_whole : (u : N) → HasMember (before ++ after) u → HasMember (before ++ v ∷ after) u
    in_whole u h = elim (in_cases before after u h) [ inl a ↦ in_left before (v ∷ after) u a | inr b ↦ in_right before (v ∷ after) u (inr b) ]

    pub none_spare : Reaches (reverse_of eq g (before ++ after)) Sentinel (Real v) → ⊥
    none_spare r = by r.0 r.1
      where
        by : (ws : List (ReverseNode N)) → IsPath (reverse_of eq g (before ++ after)) Sentinel ws (Real v) → ⊥
        by [] p = absurd (cc p)
        by (w ∷ ws) p =
            let x = real_item (before ++ after) w (in_from (map Real (before ++ after)) w p.0) in
            let among : Contains (before ++ v ∷ after) x.0 = contains_from (before ++ v ∷ after) x.0 (in_whole x.0 x.2) in
            let member : Contains g.nodes x.0 = start_node starts.0 starts.1 (before ++ v ∷ after) starts.2 x.0 among in
            let path = path_forth (before ++ after) x.0 v ws member (subst (λ z. IsPath (reverse_of eq g (before ++ after)) z ws (Real v)) x.1 p.1) in
            let itself : Contains (before ++ v ∷ after) v = contains_from (before ++ v ∷ after) v (in_right before (v ∷ after) v (inl refl)) in
            let one : v ≡ x.0 = starts_apart starts.0 starts.1 (before ++ v ∷ after) starts.2 v x.0 itself among path in
            stands_once (subst (HasMember (before ++ after)) (sym one) x.2)

  pub all_reached : (starts : List N) → ArePreSentinels eq g starts → (v : N) → Contains g.nodes v → Reaches (reverse_of eq g starts) Sentinel (Real v)
  all_reached starts are v h = reaches_all are.0 are.1 starts are.2 (between_components eq g are.0 are.1) v h
