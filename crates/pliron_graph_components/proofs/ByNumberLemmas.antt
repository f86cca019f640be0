-- A graph and the same graph by numbers: what a search of the second says of the first.
use Rattle.std.proofs.Common.{◌≡◌, ℕ, zero, suc, ◌<◌, Bool, List, [], ◌∷◌, ◌++◌, length, map, get_or, slice_get, refl, sym, ◌∙◌, ap, subst, arith, inl, inr, Contains, nat_eq}
use Rattle.std.specs.Cmp.{IsEquivalence}
use Rattle.std.specs.Option.{option_to_list}
use Rattle.std.proofs.lemmas.List.{map-append}
use Rattle.std.proofs.lemmas.Option.{slice_get-get_or, slice_get_past}
use Rattle.pliron_graph_traversal.specs.Digraph.{Digraph, IsLawful, IsPath, Reaches}
use Rattle.pliron_graph_traversal.specs.Adjacency.{Adjacency, graph_of, count_from, first_listed, row}
use Rattle.pliron_graph_traversal.specs.ByNumber.{IsByNumber}
use Rattle.pliron_graph_traversal.specs.Search.{IsSearch}
use Rattle.pliron_graph_traversal.specs.Internal.AdjacencyLawful.{counted}
use Rattle.pliron_graph_traversal.specs.Internal.Forest.{Grew}
use Rattle.pliron_graph_traversal.specs.Internal.Membership.{HasMember, in_from, contains_from, in_cases}
use Rattle.pliron_graph_traversal.proofs.NumberingLemmas.{search_from_growth}
use Rattle.pliron_graph_components.specs.Components.{entry_then_nodes}
use Rattle.pliron_graph_traversal.proofs.NumberedLemmas.{in_map, of_map, nodes_from, one_number, row_below, succ_named, grew_named, pre_low, post_low}

module _ {N : Type 0} (eq : N → N → Bool) (laws : IsEquivalence eq) (g : Digraph N) (lists : Adjacency) (lawful : IsLawful eq g) (by : IsByNumber g lists) (d : N) where
  abbrev node : ℕ → N
  node k = get_or g.nodes k d

  -- the roots of the two searches
  entry_from : (m : ℕ) → m ≡ length g.nodes → map node (option_to_list (first_listed (count_from 0 m))) ≡ option_to_list (slice_get g.nodes 0)
  entry_from zero e = let none = slice_get_past g.nodes 0 (omega (arith, e)) in ap option_to_list (sym none)
  entry_from (suc m) e = ap option_to_list (sym (slice_get-get_or g.nodes 0 d (omega (arith, e))))

  roots_named : map node (entry_then_nodes (graph_of lists)) ≡ entry_then_nodes g
  roots_named =
      let entries : map node (option_to_list (first_listed (count_from 0 (length lists.succ)))) ≡ option_to_list g.entry = entry_from (length lists.succ) by.same_count ∙ ap option_to_list (sym by.entry) in
      let all : map node (count_from 0 (length lists.succ)) ≡ g.nodes = nodes_from eq laws g lists lawful by d 0 (length lists.succ) (omega (arith, by.same_count)) in
      map-append node (option_to_list (first_listed (count_from 0 (length lists.succ)))) (count_from 0 (length lists.succ))
      ∙ ap (λ z. z ++ map node (count_from 0 (length lists.succ))) entries ∙ ap (λ z. option_to_list g.entry ++ z) all

  roots_below : (v : ℕ) → HasMember (entry_then_nodes (graph_of lists)) v → v < length lists.succ
  roots_below v i = elim (in_cases (option_to_list (first_listed (count_from 0 (length lists.succ)))) (count_from 0 (length lists.succ)) v i) [
    | inl a ↦ low (first_in (count_from 0 (length lists.succ)) a)
    | inr b ↦ low b
  ]
    where
      low : HasMember (count_from 0 (length lists.succ)) v → v < length lists.succ
      low b = let r = counted 0 (length lists.succ) v b in omega (arith, r.1)

      first_in : (xs : List ℕ) → HasMember (option_to_list (first_listed xs)) v → HasMember xs v
      first_in [] a = absurd a
      first_in (x ∷ xs) (inl e) = inl e
      first_in (x ∷ xs) (inr z) = absurd z

  module _ (p q : List ℕ) (grew : Grew nat_eq (graph_of lists) (entry_then_nodes (graph_of lists)) [] [] p q) where
    -- the search by numbers is that of the nodes
    pub search_named : IsSearch eq g (entry_then_nodes g) (record { pre = map node p; post = map node q })
    search_named = search_from_growth eq lawful.same laws.refl g (entry_then_nodes g) (map node p) (map node q)
        (subst (λ z. Grew eq g z [] [] (map node p) (map node q)) roots_named (grew_named eq laws g lists lawful by d (entry_then_nodes (graph_of lists)) p q roots_below grew))

    pub pre_below : (v : ℕ) → HasMember p v → v < length lists.succ
    pre_below = pre_low eq laws g lists lawful by d (entry_then_nodes (graph_of lists)) p q roots_below grew

    pub post_below : (v : ℕ) → HasMember q v → v < length lists.succ
    post_below = post_low eq laws g lists lawful by d (entry_then_nodes (graph_of lists)) p q roots_below grew

  -- paths of one are paths of the other
  path_named : (k j : ℕ) (ws : List ℕ) → k < length lists.succ → IsPath (graph_of lists) k ws j → IsPath g (node k) (map node ws) (node j)
  path_named k j [] l p = ap node p
  path_named k j (w ∷ ws) l p =
      let edge : HasMember (row lists.succ k) w = in_from (row lists.succ k) w p.0 in
      let there : Contains (g.succ (node k)) (node w) = contains_from (g.succ (node k)) (node w) (subst (λ z. HasMember z (node w)) (sym (succ_named eq laws g lists lawful by d k l)) (in_map node (row lists.succ k) w edge)) in
      (there, path_named w j ws (row_below eq laws g lists lawful by d k w l edge) p.1)

  pub reaches_named : (k j : ℕ) → k < length lists.succ → Reaches (graph_of lists) k j → Reaches g (node k) (node j)
  reaches_named k j l r = (map node r.0, path_named k j r.0 l r.1)

  pub path_numbered : (k : ℕ) (v : N) (ws : List N) → k < length lists.succ → IsPath g (node k) ws v → (j : ℕ) × (j < length lists.succ) × (node j ≡ v) × Reaches (graph_of lists) k j
  path_numbered k v [] l p = (k, l, p, ([], refl))
  path_numbered k v (w ∷ ws) l p =
      let edge = of_map node (row lists.succ k) w (subst (λ z. HasMember z w) (succ_named eq laws g lists lawful by d k l) (in_from (g.succ (node k)) w p.0)) in
      let low : edge.0 < length lists.succ = row_below eq laws g lists lawful by d k edge.0 l edge.1 in
      let rest = path_numbered edge.0 v ws low (subst (λ z. IsPath g z ws v) (sym edge.2) p.1) in
      (rest.0, rest.1, rest.2, (edge.0 ∷ rest.3.0, (contains_from (row lists.succ k) edge.0 edge.1, rest.3.1)))

  pub reaches_numbered : (k j : ℕ) → k < length lists.succ → j < length lists.succ → Reaches g (node k) (node j) → Reaches (graph_of lists) k j
  reaches_numbered k j lk lj r =
      let found = path_numbered k (node j) r.0 lk r.1 in
      subst (Reaches (graph_of lists) k) (one_number eq laws g lists lawful by d found.0 j found.1 lj found.2) found.3

  -- an edge to itself
  pub loop_named : (k : ℕ) → k < length lists.succ → Contains (row lists.succ k) k → Contains (g.succ (node k)) (node k)
  loop_named k l e = contains_from (g.succ (node k)) (node k) (subst (λ z. HasMember z (node k)) (sym (succ_named eq laws g lists lawful by d k l)) (in_map node (row lists.succ k) k (in_from (row lists.succ k) k e)))

  pub loop_numbered : (k : ℕ) → k < length lists.succ → Contains (g.succ (node k)) (node k) → Contains (row lists.succ k) k
  loop_numbered k l e =
      let edge = of_map node (row lists.succ k) (node k) (subst (λ z. HasMember z (node k)) (succ_named eq laws g lists lawful by d k l) (in_from (g.succ (node k)) (node k) e)) in
      contains_from (row lists.succ k) k (subst (HasMember (row lists.succ k)) (one_number eq laws g lists lawful by d edge.0 k (row_below eq laws g lists lawful by d k edge.0 l edge.1) l edge.2) edge.1)
