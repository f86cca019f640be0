-- The pre-sentinels of a graph, by those of the same graph by numbers.
use Rattle.std.proofs.Common.{◌≡◌, ℕ, suc, ◌<◌, ◌≤◌, Bool, List, [], ◌∷◌, length, map, get_or, slice_get, Some, refl, sym, ◌∙◌, ap, subst, arith, inl, inr, Contains, nat_eq, true}
use Rattle.std.specs.Cmp.{IsEquivalence}
use Rattle.std.specs.List.{All, IsDistinct}
use Rattle.std.proofs.lemmas.List.{length-map}
use Rattle.std.proofs.lemmas.List.Elements.{Contains-get_or, All-contains}
use Rattle.std.proofs.lemmas.Option.{slice_get-get_or}
use Rattle.pliron_graph_traversal.specs.Digraph.{Digraph, IsLawful}
use Rattle.pliron_graph_traversal.specs.Adjacency.{Adjacency, graph_of, row, count_from}
use Rattle.pliron_graph_traversal.specs.ByNumber.{IsByNumber}
use Rattle.pliron_graph_traversal.specs.Search.{number_in}
use Rattle.pliron_graph_traversal.specs.Internal.AdjacencyLawful.{node_below, counted}
use Rattle.pliron_graph_traversal.specs.Internal.Membership.{HasMember, in_from, contains_from}
use Rattle.pliron_graph_traversal.proofs.GrowthLemmas.{Distinct}
use Rattle.pliron_graph_traversal.proofs.ItemLemmas.{item_from_in}
use Rattle.pliron_graph_traversal.proofs.PlaceLemmas.{is_distinct}
use Rattle.pliron_graph_traversal.proofs.NumberedLemmas.{in_map, of_map, named_items, one_number, row_below, succ_named, nodes_from, place_named}
use Rattle.pliron_graph_components.specs.Components.{AreComponents}
use Rattle.pliron_graph_components.specs.Reverse.{IsSink, IsLastListed, IsInEarlier, ArePreSentinels}
use Rattle.pliron_graph_components.specs.declared.components.Scc.{Scc}
use Rattle.pliron_graph_components.specs.Internal.Named.{AreNamed}
use Rattle.pliron_graph_components.specs.Internal.Sinks.{AreFoundSinks}
use Rattle.pliron_graph_components.proofs.ReverseLemmas.{mapped_at}
use Rattle.pliron_graph_components.proofs.PreSentinelLemmas.{components_apart, item_contained, nothing_yet}
use Rattle.pliron_graph_components.proofs.NamedLemmas.{item_of_map, components_named}

distinct_items : {X : Type 0} (xs : List X) → ((i j : ℕ) (u v : X) → i < j → slice_get xs i ≡ Some u → slice_get xs j ≡ Some v → u ≡ v → ⊥) → Distinct xs
distinct_items [] h = tt
distinct_items (x ∷ xs) h = (
  λ i. let r = item_from_in xs x i in h 0 (suc r.0) x x (omega arith) refl r.1 refl,
  distinct_items xs (λ i j u v l a b. h (suc i) (suc j) u v (omega (arith, l)) a b),
)

-- pre-sentinels are of different components, so no two are one
pub starts_distinct : {N : Type 0} (eq : N → N → Bool) (same : (x y : N) → eq x y ≡ true → x ≡ y) (reflexive : (x : N) → eq x x ≡ true) (g : Digraph N) (starts : List N) → ArePreSentinels eq g starts → IsDistinct eq starts
starts_distinct eq same reflexive g starts h = is_distinct eq same starts (distinct_items starts (λ i j u v l a b e.
    let k = h.2.in_order i j u v l a b in
    components_apart eq same reflexive g h.0 h.1 k.0 k.1 k.2 k.3 u k.4 k.5 k.6 k.7 (subst (Contains k.3.nodes.items) (sym e) k.8)))

pub found_are : {N : Type 0} (eq : N → N → Bool) (g : Digraph N) (starts : List N) → AreFoundSinks eq g starts → ArePreSentinels eq g starts
found_are eq g starts found = (found.components, found.numbered.are, found.last)

-- the component of the nodes with these numbers
abbrev named_scc : {N : Type 0} → (ℕ → N) → Scc ℕ → Scc N
named_scc f c = record {
  nodes = record { ptr = c.nodes.ptr; len = c.nodes.len; cap = c.nodes.cap; alloc = c.nodes.alloc; items = map f c.nodes.items; ok = (c.nodes.ok.0 ∙ sym (length-map c.nodes.items f), c.nodes.ok.1); small = c.nodes.small };
  is_cyclic = c.is_cyclic;
}

named_back : {N : Type 0} (nodes : List N) (d : N) (ks : List ℕ) → ((k : ℕ) → HasMember ks k → k < length nodes) → map Some (map (λ k. get_or nodes k d) ks) ≡ map (λ k. slice_get nodes k) ks
named_back nodes d [] low = refl
named_back nodes d (k ∷ ks) low =
    ap (λ z. z ∷ map Some (map (λ j. get_or nodes j d) ks)) (sym (slice_get-get_or nodes k d (low k (inl refl)))) ∙ ap (λ z. slice_get nodes k ∷ z) (named_back nodes d ks (λ j i. low j (inr i)))

-- without nodes none has a number
no_names : {N : Type 0} (nodes : List N) → length nodes ≡ 0 → (xs : List N) (ks : List ℕ) → map Some xs ≡ map (λ k. slice_get nodes k) ks → ((k : ℕ) → HasMember ks k → k < length nodes) → xs ≡ []
no_names nodes z [] ks p low = refl
no_names nodes z (x ∷ xs) [] p low = absurd (cc p)
no_names nodes z (x ∷ xs) (k ∷ ks) p low = absurd (omega (arith, z, low k (inl refl)))

module _ {N : Type 0} (eq : N → N → Bool) (laws : IsEquivalence eq) (g : Digraph N) (lists : Adjacency) (lawful : IsLawful eq g) (by : IsByNumber g lists)
    (starts : List ℕ) (found : AreFoundSinks nat_eq (graph_of lists) starts) where
  member_low : (c : Scc ℕ) (k : ℕ) → Contains found.components c → HasMember c.nodes.items k → k < length lists.succ
  member_low c k h i = node_below (length lists.succ) k ((found.numbered.are.covers k).1 (c, h, contains_from c.nodes.items k i))

  module _ (d : N) where
    abbrev node : ℕ → N
    node k = get_or g.nodes k d

    abbrev components : List (Scc N)
    components = map (named_scc node) found.components

    are_named : AreNamed g.nodes found.components components
    are_named = record {
      same_count = length-map found.components (named_scc node);
      each = λ i c e at_c at_e.
          let here : Some (named_scc node c) ≡ Some e = sym (mapped_at (named_scc node) found.components i c at_c) ∙ at_e in
          let one : named_scc node c ≡ e = cc here in
          let low : (k : ℕ) → HasMember c.nodes.items k → k < length g.nodes = λ k h. omega (arith, member_low c k (item_contained found.components i c at_c) h, by.same_count) in
          record {
            members = subst (λ (x : Scc N). map Some x.nodes.items ≡ map (λ k. slice_get g.nodes k) c.nodes.items) one (named_back g.nodes d c.nodes.items low);
            cyclic = ap (λ (x : Scc N). x.is_cyclic) (sym one);
          };
    }

    are : AreComponents eq g components
    are = components_named eq laws g lists lawful by found.components components found.numbered are_named

    -- the place of a node in listed order is that of its number
    place_of_node : (k : ℕ) → k < length lists.succ → number_in eq g.nodes (node k) ≡ number_in nat_eq (count_from 0 (length lists.succ)) k
    place_of_node k l =
        let all : map node (count_from 0 (length lists.succ)) ≡ g.nodes = nodes_from eq laws g lists lawful by d 0 (length lists.succ) (omega (arith, by.same_count)) in
        subst (λ xs. number_in eq xs (node k) ≡ number_in nat_eq (count_from 0 (length lists.succ)) k) all
        (place_named eq laws g lists lawful by d (count_from 0 (length lists.succ)) k l (λ v i. let r = counted 0 (length lists.succ) v i in omega (arith, r.1)))

    module _ (c : Scc ℕ) (inside : Contains found.components c) where
      sink_there : IsSink (graph_of lists) c.nodes.items → IsSink g (map node c.nodes.items)
      sink_there sink k e l =
          let u : N = get_or (map node c.nodes.items) k e in
          let a = of_map node c.nodes.items u (in_from (map node c.nodes.items) u (Contains-get_or (map node c.nodes.items) k e l)) in
          subst (λ x. All (λ v. Contains (map node c.nodes.items) v) (g.succ x)) a.2 (from a.0 a.1)
        where
          from : (a : ℕ) → HasMember c.nodes.items a → All (λ v. Contains (map node c.nodes.items) v) (g.succ (node a))
          from a i m e n =
              let low : a < length lists.succ = member_low c a inside i in
              let w : N = get_or (g.succ (node a)) m e in
              let b = of_map node (row lists.succ a) w (subst (λ z. HasMember z w) (succ_named eq laws g lists lawful by d a low) (in_from (g.succ (node a)) w (Contains-get_or (g.succ (node a)) m e n))) in
              let there : Contains c.nodes.items b.0 =
              All-contains (λ v. Contains c.nodes.items v) (row lists.succ a) b.0 (All-contains (λ u. All (λ v. Contains c.nodes.items v) (row lists.succ u)) c.nodes.items a sink (contains_from c.nodes.items a i)) (contains_from (row lists.succ a) b.0 b.1) in
              contains_from (map node c.nodes.items) w (subst (HasMember (map node c.nodes.items)) b.2 (in_map node c.nodes.items b.0 (in_from c.nodes.items b.0 there)))

      sink_back : IsSink g (map node c.nodes.items) → IsSink (graph_of lists) c.nodes.items
      sink_back sink k e l m f n =
          let a : ℕ = get_or c.nodes.items k e in
          let i : HasMember c.nodes.items (get_or c.nodes.items k e) = in_from c.nodes.items a (Contains-get_or c.nodes.items k e l) in
          let low : get_or c.nodes.items k e < length lists.succ = member_low c a inside i in
          let b : ℕ = get_or (row lists.succ a) m f in
          let edge : HasMember (row lists.succ a) (get_or (row lists.succ a) m f) = in_from (row lists.succ a) b (Contains-get_or (row lists.succ a) m f n) in
          let target : Contains (g.succ (node a)) (node b) = contains_from (g.succ (node a)) (node b) (subst (λ z. HasMember z (node b)) (sym (succ_named eq laws g lists lawful by d a low)) (in_map node (row lists.succ a) b edge)) in
          let member : Contains (map node c.nodes.items) (node b) =
          All-contains (λ v. Contains (map node c.nodes.items) v) (g.succ (node a)) (node b)
          (All-contains (λ u. All (λ v. Contains (map node c.nodes.items) v) (g.succ u)) (map node c.nodes.items) (node a) sink (contains_from (map node c.nodes.items) (node a) (in_map node c.nodes.items a i))) target in
          let j = of_map node c.nodes.items (node b) (in_from (map node c.nodes.items) (node b) member) in
          let one : j.0 ≡ get_or (row lists.succ a) m f = one_number eq laws g lists lawful by d j.0 b (member_low c j.0 inside j.1) (row_below eq laws g lists lawful by d a b low edge) j.2 in
          contains_from c.nodes.items b (subst (HasMember c.nodes.items) one j.1)

      last_there : (k : ℕ) → IsLastListed nat_eq (graph_of lists) c.nodes.items k → IsLastListed eq g (map node c.nodes.items) (node k)
      last_there k last = (contains_from (map node c.nodes.items) (node k) (in_map node c.nodes.items k (in_from c.nodes.items k last.0)), below)
        where
          below : (u : N) → Contains (map node c.nodes.items) u → number_in eq g.nodes u ≤ number_in eq g.nodes (node k)
          below u h =
              let a = of_map node c.nodes.items u (in_from (map node c.nodes.items) u h) in
              let less : number_in nat_eq (count_from 0 (length lists.succ)) a.0 ≤ number_in nat_eq (count_from 0 (length lists.succ)) k = last.1 a.0 (contains_from c.nodes.items a.0 a.1) in
              let here : number_in eq g.nodes (node a.0) ≤ number_in eq g.nodes (node k) =
              omega (arith, less, place_of_node a.0 (member_low c a.0 inside a.1), place_of_node k (member_low c k inside (in_from c.nodes.items k last.0))) in
              subst (λ x. number_in eq g.nodes x ≤ number_in eq g.nodes (node k)) a.2 here

      last_back : (k : ℕ) → HasMember c.nodes.items k → IsLastListed eq g (map node c.nodes.items) (node k) → IsLastListed nat_eq (graph_of lists) c.nodes.items k
      last_back k i last = (contains_from c.nodes.items k i, below)
        where
          below : (a : ℕ) → Contains c.nodes.items a → number_in nat_eq (count_from 0 (length lists.succ)) a ≤ number_in nat_eq (count_from 0 (length lists.succ)) k
          below a h =
              let there : HasMember c.nodes.items a = in_from c.nodes.items a h in
              let less : number_in eq g.nodes (node a) ≤ number_in eq g.nodes (node k) = last.1 (node a) (contains_from (map node c.nodes.items) (node a) (in_map node c.nodes.items a there)) in
              omega (arith, less, place_of_node a (member_low c a inside there), place_of_node k (member_low c k inside i))

    at_node : ArePreSentinels eq g (map node starts)
    at_node = (components, are, record { listed = λ v. (there v, back v); in_order = in_order })
      where
        there : (v : N) → Contains (map node starts) v → (c : Scc N) × Contains components c × IsSink g c.nodes.items × IsLastListed eq g c.nodes.items v
        there v h =
            let k = of_map node starts v (in_from (map node starts) v h) in
            let c = (found.last.listed k.0).0 (contains_from starts k.0 k.1) in (
              named_scc node c.0,
              contains_from components (named_scc node c.0) (in_map (named_scc node) found.components c.0 (in_from found.components c.0 c.1)),
              sink_there c.0 c.1 c.2,
              subst (IsLastListed eq g (map node c.0.nodes.items)) k.2 (last_there c.0 c.1 k.0 c.3),
            )

        back : (v : N) → ((c : Scc N) × Contains components c × IsSink g c.nodes.items × IsLastListed eq g c.nodes.items v) → Contains (map node starts) v
        back v h =
            let c = of_map (named_scc node) found.components h.0 (in_from components h.0 h.1) in
            let inside : Contains found.components c.0 = contains_from found.components c.0 c.1 in
            let sink : IsSink g (map node c.0.nodes.items) = subst (λ (x : Scc N). IsSink g x.nodes.items) (sym c.2) h.2 in
            let last : IsLastListed eq g (map node c.0.nodes.items) v = subst (λ (x : Scc N). IsLastListed eq g x.nodes.items v) (sym c.2) h.3 in
            let k = of_map node c.0.nodes.items v (in_from (map node c.0.nodes.items) v last.0) in
            let known = (found.last.listed k.0).1 (c.0, inside, sink_back c.0 inside sink, last_back c.0 inside k.0 k.1 (subst (IsLastListed eq g (map node c.0.nodes.items)) (sym k.2) last)) in
            contains_from (map node starts) v (subst (HasMember (map node starts)) k.2 (in_map node starts k.0 (in_from starts k.0 known)))

        in_order : (i j : ℕ) (u v : N) → i < j → slice_get (map node starts) i ≡ Some u → slice_get (map node starts) j ≡ Some v → IsInEarlier eq g components u v
        in_order i j u v l at_u at_v =
            let a = item_of_map node starts i u at_u in
            let b = item_of_map node starts j v at_v in
            let k = found.last.in_order i j a.0 b.0 l a.1 b.1 in (
              k.0,
              k.1,
              named_scc node k.2,
              named_scc node k.3,
              k.4,
              mapped_at (named_scc node) found.components k.0 k.2 k.5,
              mapped_at (named_scc node) found.components k.1 k.3 k.6,
              subst (Contains (map node k.2.nodes.items)) a.2 (contains_from (map node k.2.nodes.items) (node a.0) (in_map node k.2.nodes.items a.0 (in_from k.2.nodes.items a.0 k.7))),
              subst (Contains (map node k.3.nodes.items)) b.2 (contains_from (map node k.3.nodes.items) (node b.0) (in_map node k.3.nodes.items b.0 (in_from k.3.nodes.items b.0 k.8))),
            )

  pub start_low : (k : ℕ) → HasMember starts k → k < length lists.succ
  start_low k i = let c = (found.last.listed k).0 (contains_from starts k i) in member_low c.0 k c.1 (in_from c.0.nodes.items k c.3.0)

  pub starts_low : (n : ℕ) → n ≡ length g.nodes → All (λ k. k < n) starts
  starts_low n e = λ i d l. omega (arith, e, by.same_count, start_low (get_or starts i d) (in_from starts (get_or starts i d) (Contains-get_or starts i d l)))

  -- without a node there is no component
  none_without : length lists.succ ≡ 0 → (cs : List (Scc ℕ)) → ((c : Scc ℕ) → HasMember cs c → Contains found.components c) → length cs ≡ 0
  none_without none [] h = refl
  none_without none (c ∷ cs) h =
      let inside : Contains found.components c = h c (inl refl) in
      absurd (first c.nodes.items (found.numbered.are.not_empty c inside) (λ k i. omega (arith, none, member_low c k inside i)))
    where
      first : (xs : List ℕ) → 0 < length xs → ((k : ℕ) → HasMember xs k → ⊥) → ⊥
      first [] l n = omega (arith, l)
      first (x ∷ xs) l n = n x (inl refl)

  pub starts_named : (vs : List N) → map Some vs ≡ map (λ k. slice_get g.nodes k) starts → ArePreSentinels eq g vs
  starts_named vs e = by_nodes g.nodes refl
    where
      low : (k : ℕ) → HasMember starts k → k < length g.nodes
      low k i = omega (arith, start_low k i, by.same_count)

      by_nodes : (ns : List N) → g.nodes ≡ ns → ArePreSentinels eq g vs
      by_nodes (d ∷ ns) s = subst (ArePreSentinels eq g) (sym (named_items g.nodes d vs starts e low)) (at_node d)
      by_nodes [] s =
          let none : length lists.succ ≡ 0 = by.same_count ∙ ap length s in
          let count : length found.components ≡ 0 = none_without none found.components (λ c h. contains_from found.components c h) in
          let empty : vs ≡ [] = no_names g.nodes (ap length s) vs starts e low in (
            [],
            components_named eq laws g lists lawful by found.components [] found.numbered (record { same_count = sym count; each = λ i c x at_c at_x. absurd (cc at_x) }),
            nothing_yet eq lawful.same laws.refl g vs empty,
          )
