-- The components of a graph, by those of the same graph by numbers.
use Rattle.std.proofs.Common.{◌≡◌, ℕ, zero, suc, ◌+◌, ◌<◌, ◌⊎◌, Bool, true, false, List, [], ◌∷◌, ◌++◌, length, map, get_or, slice_get, Some, refl, sym, ◌∙◌, ap, subst, arith, inl, inr, ◌↔◌, IsTrue, Contains, nat_eq}
use Rattle.std.specs.Cmp.{IsEquivalence}
use Rattle.std.specs.List.{All}
use Rattle.std.specs.Option.{option_to_list}
use Rattle.std.proofs.lemmas.List.{length-map, length_push}
use Rattle.std.proofs.lemmas.Option.{slice_get_within}
use Rattle.pliron_graph_traversal.specs.Digraph.{Digraph, IsLawful, Reaches}
use Rattle.pliron_graph_traversal.specs.Adjacency.{Adjacency, graph_of}
use Rattle.pliron_graph_traversal.specs.ByNumber.{IsByNumber}
use Rattle.pliron_graph_traversal.specs.Search.{number_in}
use Rattle.pliron_graph_traversal.specs.Internal.AdjacencyLawful.{same_number, reflexive, node_below, below_node}
use Rattle.pliron_graph_traversal.specs.Internal.Forest.{leaf, ForestGrows, done}
use Rattle.pliron_graph_traversal.specs.Internal.Membership.{HasMember, in_from, contains_from}
use Rattle.pliron_graph_traversal.proofs.NumberingLemmas.{search_from_growth}
use Rattle.pliron_graph_components.specs.Components.{AreComponents, ReachEachOther, IsCyclic, Descends, HasGreatest, entry_then_nodes}
use Rattle.pliron_graph_components.specs.declared.components.Scc.{Scc}
use Rattle.pliron_graph_components.specs.Internal.Collecting.{AreNumberedComponents}
use Rattle.pliron_graph_components.specs.Internal.Named.{IsNamedComponent, AreNamed}
use Rattle.pliron_graph_components.proofs.PreSentinelLemmas.{contains_item, item_contained, item_of_push}
use Rattle.pliron_graph_traversal.proofs.NumberedLemmas.{in_map, of_map, named_items, number_of, node_in, place_named}
use Rattle.pliron_graph_components.proofs.ByNumberLemmas.{search_named, pre_below, post_below, reaches_named, path_numbered, reaches_numbered, loop_named, loop_numbered}

item_within : {X : Type 0} (xs : List X) (i : ℕ) → i < length xs → (x : X) × (slice_get xs i ≡ Some x)
item_within [] i l = absurd (omega (arith, l))
item_within (x ∷ xs) zero l = (x, refl)
item_within (x ∷ xs) (suc i) l = item_within xs i (omega (arith, l))

pub item_of_map : {X Y : Type 0} (f : X → Y) (xs : List X) (i : ℕ) (y : Y) → slice_get (map f xs) i ≡ Some y → (x : X) × (slice_get xs i ≡ Some x) × (f x ≡ y)
item_of_map f [] i y e = absurd (cc e)
item_of_map f (x ∷ xs) zero y e = let here : f x ≡ y = cc e in (x, refl, here)
item_of_map f (x ∷ xs) (suc i) y e = item_of_map f xs i y e

pub nat_laws : IsEquivalence nat_eq
nat_laws = record { refl = reflexive; symm = λ x y. symm x y (nat_eq x y) (nat_eq y x) refl refl; congr = λ x y z h. let e : x ≡ y = same_number x y h in ap (λ w. nat_eq w z) e }
  where
    symm : (x y : ℕ) (b c : Bool) → nat_eq x y ≡ b → nat_eq y x ≡ c → nat_eq x y ≡ nat_eq y x
    symm x y true c p q = let e : x ≡ y = same_number x y p in ap (λ w. nat_eq w y) e ∙ ap (nat_eq y) (sym e)
    symm x y false true p q = let e : y ≡ x = same_number y x q in ap (λ w. nat_eq w y) (sym e) ∙ ap (nat_eq y) e
    symm x y false false p q = p ∙ sym q

pub named_none : {N : Type 0} (nodes : List N) → AreNamed nodes [] []
named_none nodes = record { same_count = refl; each = λ i c d a b. absurd (cc a) }

-- while the components get their nodes
pub named_push : {N : Type 0} (nodes : List N) (cs : List (Scc ℕ)) (ds : List (Scc N)) (c : Scc ℕ) (d : Scc N) → IsNamedComponent nodes c d → AreNamed nodes cs ds → AreNamed nodes (cs ++ c ∷ []) (ds ++ d ∷ [])
named_push {N} nodes cs ds c d is all = record {
  same_count = length_push ds d ∙ ap (λ n. n + 1) all.same_count ∙ sym (length_push cs c);
  each = λ k a b at_a at_b. by k a b (item_of_push cs c k a at_a) (item_of_push ds d k b at_b);
}
  where
    by : (k : ℕ) (a : Scc ℕ) (b : Scc N) → ((k < length cs) × (slice_get cs k ≡ Some a)) ⊎ ((k ≡ length cs) × (c ≡ a)) → ((k < length ds) × (slice_get ds k ≡ Some b)) ⊎ ((k ≡ length ds) × (d ≡ b)) → IsNamedComponent nodes a b
    by k a b (inl x) (inl y) = all.each k a b x.1 y.1
    by k a b (inl x) (inr y) = absurd (omega (arith, x.0, y.0, all.same_count))
    by k a b (inr x) (inl y) = absurd (omega (arith, x.0, y.0, all.same_count))
    by k a b (inr x) (inr y) = subst (λ (z : Scc ℕ). IsNamedComponent nodes z b) x.1 (subst (λ (z : Scc N). IsNamedComponent nodes c z) y.1 is)

-- the numbers of a component are below the number of nodes
pub numbers_below : (n : ℕ) (g : Adjacency) (numbers : List ℕ) → n ≡ length g.succ → All (λ v. Contains (graph_of g).nodes v) numbers → All (λ k. k < n) numbers
numbers_below n g numbers count inside i d l = omega (arith, count, node_below (length g.succ) (get_or numbers i d) (inside i d l))

module _ {N : Type 0} (eq : N → N → Bool) (laws : IsEquivalence eq) (g : Digraph N) (lists : Adjacency) (lawful : IsLawful eq g) (by : IsByNumber g lists)
    (cs : List (Scc ℕ)) (ds : List (Scc N)) (found : AreNumberedComponents nat_eq (graph_of lists) cs) (named : AreNamed g.nodes cs ds) where
  member_low : (c : Scc ℕ) (k : ℕ) → Contains cs c → HasMember c.nodes.items k → k < length lists.succ
  member_low c k h i = node_below (length lists.succ) k ((found.are.covers k).1 (c, h, contains_from c.nodes.items k i))

  counterpart : (i : ℕ) (e : Scc N) → slice_get ds i ≡ Some e → (c : Scc ℕ) × (slice_get cs i ≡ Some c)
  counterpart i e at = item_within cs i (omega (arith, slice_get_within ds i e at, named.same_count))

  module _ (d : N) where
    abbrev node : ℕ → N
    node k = get_or g.nodes k d

    items_named : (i : ℕ) (c : Scc ℕ) (e : Scc N) → slice_get cs i ≡ Some c → slice_get ds i ≡ Some e → e.nodes.items ≡ map node c.nodes.items
    items_named i c e at_c at_e = named_items g.nodes d e.nodes.items c.nodes.items (named.each i c e at_c at_e).members (λ k j. omega (arith, member_low c k (item_contained cs i c at_c) j, by.same_count))

    -- a member of a component, by its number
    pub record HasNumber (e : Scc N) (v : N) : Type 0 where
      pub component : Scc ℕ
      pub inside : Contains cs component
      pub items : e.nodes.items ≡ map node component.nodes.items
      pub number : ℕ
      pub among : HasMember component.nodes.items number
      pub is : node number ≡ v
      pub low : number < length lists.succ

    has_number : (e : Scc N) (v : N) → Contains ds e → Contains e.nodes.items v → HasNumber e v
    has_number e v h hv =
        let at = contains_item ds e h in
        let c = counterpart at.0 e at.1 in
        let items = items_named at.0 c.0 e c.1 at.1 in
        let inside = item_contained cs at.0 c.0 c.1 in
        let m = of_map node c.0.nodes.items v (subst (λ z. HasMember z v) items (in_from e.nodes.items v hv)) in
        record { component = c.0; inside = inside; items = items; number = m.0; among = m.1; is = m.2; low = member_low c.0 m.0 inside m.1 }

    member_named : (c : Scc ℕ) (e : Scc N) (k : ℕ) → e.nodes.items ≡ map node c.nodes.items → HasMember c.nodes.items k → Contains e.nodes.items (node k)
    member_named c e k items i = contains_from e.nodes.items (node k) (subst (λ z. HasMember z (node k)) (sym items) (in_map node c.nodes.items k i))

    covered : (v : N) → Contains g.nodes v → (e : Scc N) × Contains ds e × Contains e.nodes.items v
    covered v h =
        let k = number_of eq laws g lists lawful by d v (in_from g.nodes v h) in
        let c = (found.are.covers k.0).0 (below_node (length lists.succ) k.0 k.1) in
        let at = contains_item cs c.0 c.1 in
        let e = item_within ds at.0 (omega (arith, slice_get_within cs at.0 c.0 at.1, named.same_count)) in
        let there : Contains e.0.nodes.items (node k.0) = member_named c.0 e.0 k.0 (items_named at.0 c.0 e.0 at.1 e.1) (in_from c.0.nodes.items k.0 c.2) in
        (e.0, item_contained ds at.0 e.0 e.1, subst (Contains e.0.nodes.items) k.2 there)

    covers_node : (e : Scc N) (v : N) → Contains ds e → Contains e.nodes.items v → Contains g.nodes v
    covers_node e v h hv =
        let m = has_number e v h hv in
        contains_from g.nodes v (subst (HasMember g.nodes) m.is (node_in eq laws g lists lawful by d m.number m.low))

    shared : (e : Scc N) (u v : N) → Contains ds e → Contains e.nodes.items u → (Contains e.nodes.items v ↔ ReachEachOther g u v)
    shared e u v h hu = (there, back)
      where
        m : HasNumber e u
        m = has_number e u h hu

        there : Contains e.nodes.items v → ReachEachOther g u v
        there hv =
            let j = of_map node m.component.nodes.items v (subst (λ z. HasMember z v) m.items (in_from e.nodes.items v hv)) in
            let both = (found.are.shares m.component m.number j.0 m.inside (contains_from m.component.nodes.items m.number m.among)).0 (contains_from m.component.nodes.items j.0 j.1) in
            let low : j.0 < length lists.succ = member_low m.component j.0 m.inside j.1 in
            let here : ReachEachOther g (node m.number) (node j.0) = (reaches_named eq laws g lists lawful by d m.number j.0 m.low both.0, reaches_named eq laws g lists lawful by d j.0 m.number low both.1) in
            subst (λ x. ReachEachOther g x v) m.is (subst (λ y. ReachEachOther g (node m.number) y) j.2 here)

        back : ReachEachOther g u v → Contains e.nodes.items v
        back r =
            let first : Reaches g (node m.number) v = subst (λ x. Reaches g x v) (sym m.is) r.0 in
            let j = path_numbered eq laws g lists lawful by d m.number v first.0 m.low first.1 in
            let second : Reaches g (node j.0) (node m.number) = subst (λ x. Reaches g x (node m.number)) (sym j.2) (subst (λ y. Reaches g v y) (sym m.is) r.1) in
            let both : ReachEachOther (graph_of lists) m.number j.0 = (j.3, reaches_numbered eq laws g lists lawful by d j.0 m.number j.1 m.low second) in
            let member = (found.are.shares m.component m.number j.0 m.inside (contains_from m.component.nodes.items m.number m.among)).1 both in
            subst (Contains e.nodes.items) j.2 (member_named m.component e j.0 m.items (in_from m.component.nodes.items j.0 member))

    abbrev pre : List ℕ
    pre = found.are.orders.pre

    abbrev post : List ℕ
    post = found.are.orders.post

    pre_place : (k : ℕ) → k < length lists.succ → number_in eq (map node found.are.orders.pre) (node k) ≡ number_in nat_eq found.are.orders.pre k
    pre_place k l = place_named eq laws g lists lawful by d found.are.orders.pre k l (pre_below eq laws g lists lawful by d found.are.orders.pre found.are.orders.post found.grew)

    post_place : (k : ℕ) → k < length lists.succ → number_in eq (map node found.are.orders.post) (node k) ≡ number_in nat_eq found.are.orders.post k
    post_place k l = place_named eq laws g lists lawful by d found.are.orders.post k l (post_below eq laws g lists lawful by d found.are.orders.pre found.are.orders.post found.grew)

    in_order : (i j : ℕ) (e f : Scc N) → i < j → slice_get ds i ≡ Some e → slice_get ds j ≡ Some f → HasGreatest (number_in eq (map node found.are.orders.post)) e.nodes.items f.nodes.items
    in_order i j e f l at_e at_f =
        let a = counterpart i e at_e in
        let b = counterpart j f at_f in
        let k = found.are.ordered i j a.0 b.0 l a.1 b.1 in
        let k_in : HasMember a.0.nodes.items k.0 = in_from a.0.nodes.items k.0 k.1 in
        let k_low : k.0 < length lists.succ = member_low a.0 k.0 (item_contained cs i a.0 a.1) k_in in (
          node k.0,
          member_named a.0 e k.0 (items_named i a.0 e a.1 at_e) k_in,
          λ v hv.
              let m = of_map node b.0.nodes.items v (subst (λ z. HasMember z v) (items_named j b.0 f b.1 at_f) (in_from f.nodes.items v hv)) in
              let m_low : m.0 < length lists.succ = member_low b.0 m.0 (item_contained cs j b.0 b.1) m.1 in
              let less : number_in nat_eq found.are.orders.post m.0 < number_in nat_eq found.are.orders.post k.0 = k.2 m.0 (contains_from b.0.nodes.items m.0 m.1) in
              let here : number_in eq (map node found.are.orders.post) (node m.0) < number_in eq (map node found.are.orders.post) (node k.0) = omega (arith, less, post_place m.0 m_low, post_place k.0 k_low) in
              subst (λ z. number_in eq (map node found.are.orders.post) z < number_in eq (map node found.are.orders.post) (node k.0)) m.2 here,
        )

    falling : (e : Scc N) → Contains ds e → Descends (number_in eq (map node found.are.orders.pre)) e.nodes.items
    falling e h i j u v l at_u at_v =
        let at = contains_item ds e h in
        let c = counterpart at.0 e at.1 in
        let inside = item_contained cs at.0 c.0 c.1 in
        let items = items_named at.0 c.0 e c.1 at.1 in
        let a = item_of_map node c.0.nodes.items i u (subst (λ z. slice_get z i ≡ Some u) items at_u) in
        let b = item_of_map node c.0.nodes.items j v (subst (λ z. slice_get z j ≡ Some v) items at_v) in
        let a_low : a.0 < length lists.succ = member_low c.0 a.0 inside (in_from c.0.nodes.items a.0 (item_contained c.0.nodes.items i a.0 a.1)) in
        let b_low : b.0 < length lists.succ = member_low c.0 b.0 inside (in_from c.0.nodes.items b.0 (item_contained c.0.nodes.items j b.0 b.1)) in
        let less : number_in nat_eq found.are.orders.pre b.0 < number_in nat_eq found.are.orders.pre a.0 = found.are.members c.0 inside i j a.0 b.0 l a.1 b.1 in
        let here : number_in eq (map node found.are.orders.pre) (node b.0) < number_in eq (map node found.are.orders.pre) (node a.0) = omega (arith, less, pre_place a.0 a_low, pre_place b.0 b_low) in
        subst (λ z. number_in eq (map node found.are.orders.pre) v < number_in eq (map node found.are.orders.pre) z) a.2
        (subst (λ z. number_in eq (map node found.are.orders.pre) z < number_in eq (map node found.are.orders.pre) (node a.0)) b.2 here)

    on_cycle : (e : Scc N) → Contains ds e → (IsTrue e.is_cyclic ↔ IsCyclic g e.nodes.items)
    on_cycle e h =
        let at = contains_item ds e h in
        let c = counterpart at.0 e at.1 in
        let inside = item_contained cs at.0 c.0 c.1 in
        let items = items_named at.0 c.0 e c.1 at.1 in
        let flag = (named.each at.0 c.0 e c.1 at.1).cyclic in
        let says = found.are.cyclic c.0 inside in (
          λ t. there c.0 items inside (says.0 (subst IsTrue flag t)),
          λ r. subst IsTrue (sym flag) (says.1 (back c.0 items inside r)),
        )
      where
        there : (c : Scc ℕ) → e.nodes.items ≡ map node c.nodes.items → Contains cs c → IsCyclic (graph_of lists) c.nodes.items → IsCyclic g e.nodes.items
        there c items inside (inl l) = inl (omega (arith, l, ap length items, length-map c.nodes.items node))
        there c items inside (inr x) =
            let among : HasMember c.nodes.items x.0 = in_from c.nodes.items x.0 x.1 in
            inr (node x.0, member_named c e x.0 items among, loop_named eq laws g lists lawful by d x.0 (member_low c x.0 inside among) x.2)

        back : (c : Scc ℕ) → e.nodes.items ≡ map node c.nodes.items → Contains cs c → IsCyclic g e.nodes.items → IsCyclic (graph_of lists) c.nodes.items
        back c items inside (inl l) = inl (omega (arith, l, ap length items, length-map c.nodes.items node))
        back c items inside (inr x) =
            let m = of_map node c.nodes.items x.0 (subst (λ z. HasMember z x.0) items (in_from e.nodes.items x.0 x.1)) in
            let edge : Contains (g.succ (node m.0)) (node m.0) = subst (λ z. Contains (g.succ z) z) (sym m.2) x.2 in
            inr (m.0, contains_from c.nodes.items m.0 m.1, loop_numbered eq laws g lists lawful by d m.0 (member_low c m.0 inside m.1) edge)

    at_node : AreComponents eq g ds
    at_node = record {
      orders = record { pre = map node found.are.orders.pre; post = map node found.are.orders.post };
      search = search_named eq laws g lists lawful by d found.are.orders.pre found.are.orders.post found.grew;
      not_empty = λ e h.
          let at = contains_item ds e h in
          let c = counterpart at.0 e at.1 in
          omega (arith, ap length (items_named at.0 c.0 e c.1 at.1), length-map c.0.nodes.items node, found.are.not_empty c.0 (item_contained cs at.0 c.0 c.1));
      covers = λ v. (covered v, λ h. covers_node h.0 v h.1 h.2);
      shares = shared;
      ordered = in_order;
      members = falling;
      cyclic = on_cycle;
    }

  -- without a node there is no component
  none_without : length lists.succ ≡ 0 → (i : ℕ) (e : Scc N) → slice_get ds i ≡ Some e → ⊥
  none_without zero_count i e at =
      let c = counterpart i e at in
      let inside = item_contained cs i c.0 c.1 in
      let first = item_within c.0.nodes.items 0 (found.are.not_empty c.0 inside) in
      omega (arith, zero_count, member_low c.0 first.0 inside (in_from c.0.nodes.items first.0 (item_contained c.0.nodes.items 0 first.0 first.1)))

  pub components_named : AreComponents eq g ds
  components_named = by_nodes g.nodes refl
    where
      by_nodes : (ns : List N) → g.nodes ≡ ns → AreComponents eq g ds
      by_nodes (d ∷ ns) e = at_node d
      by_nodes [] e =
          let zero_count : length lists.succ ≡ 0 = by.same_count ∙ ap length e in
          let none : (c : Scc N) → Contains ds c → ⊥ = λ c h. let at = contains_item ds c h in none_without zero_count at.0 c at.1 in
          let roots : [] ≡ entry_then_nodes g = sym (ap (λ o. option_to_list o ++ g.nodes) (by.entry ∙ ap (λ ns'. slice_get ns' 0) e) ∙ e) in
          record {
            orders = record { pre = []; post = [] };
            search = search_from_growth eq lawful.same laws.refl g (entry_then_nodes g) [] [] (record { forest = leaf; grows = subst (λ z. ForestGrows eq g [] z leaf) roots done; pre_is = refl; post_is = refl });
            not_empty = λ c h. absurd (none c h);
            covers = λ v. (λ h. absurd (in_from [] v (subst (λ z. Contains z v) e h)), λ h. absurd (none h.0 h.1));
            shares = λ c u v h hu. absurd (none c h);
            ordered = λ i j a b l at_a at_b. absurd (none_without zero_count i a at_a);
            members = λ c h. absurd (none c h);
            cyclic = λ c h. absurd (none c h);
          }
