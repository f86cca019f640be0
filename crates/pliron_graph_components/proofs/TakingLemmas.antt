-- The components that a second pass takes are the components of the graph.
use Rattle.std.proofs.Common.{◌≡◌, suc, ◌+◌, ◌<◌, Bool, true, false, List, [], ◌∷◌, ◌++◌, length, get_or, slice_get, Some, None, sym, ◌∙◌, ap, subst, arith, inl, inr, Contains, length-append, IfSome, Option}
use Rattle.std.specs.Cmp.{IsEquivalence}
use Rattle.std.specs.Option.{option_to_list}
use Rattle.std.specs.List.{list_any, All}
use Rattle.std.proofs.lemmas.List.Elements.{Contains-get_or}
use Rattle.pliron_graph_traversal.specs.Digraph.{Digraph, IsLawful, IsPath, IsReached}
use Rattle.pliron_graph_traversal.specs.Search.{IsSearch, IsListed, number_in}
use Rattle.pliron_graph_components.specs.Components.{entry_then_nodes}
use Rattle.pliron_graph_components.specs.declared.components.Scc.{Scc}
use Rattle.pliron_graph_traversal.specs.Internal.Membership.{HasMember, in_from, contains_from, in_cases, any_from_in, not_in_from_any, in_from_any}
use Rattle.pliron_graph_traversal.specs.Internal.Forest.{Grew}
use Rattle.pliron_graph_components.specs.Internal.Collecting.{IsTakenOff, LeadsOutside, AreNumberedComponents}
use Rattle.pliron_graph_traversal.proofs.ItemLemmas.{in_from_item}
use Rattle.pliron_graph_components.proofs.ItemLemmas.{item_left, item_right, place_of_item}
use Rattle.pliron_graph_components.proofs.ComponentLemmas.{AreTaken, none_taken, passed, one_more}
use Rattle.pliron_graph_components.proofs.ComponentLawLemmas.{node_reached}

module _ {N : Type 0} (eq : N → N → Bool) (g : Digraph N) (lawful : IsLawful eq g) where
  path_inside : (u v : N) (ws : List N) → Contains g.nodes u → IsPath g u ws v → Contains g.nodes v
  path_inside u v [] h p = subst (Contains g.nodes) p h
  path_inside u v (w ∷ ws) h p = path_inside w v ws (lawful.succ_in u w h p.0) p.1

  pub root_inside : (r : N) → Contains (entry_then_nodes g) r → Contains g.nodes r
  root_inside r h = elim (in_cases (option_to_list g.entry) g.nodes r (in_from (entry_then_nodes g) r h)) [
    | inl a ↦ by g.entry lawful.entry_in a
    | inr b ↦ contains_from g.nodes r b
  ]
    where
      by : (e : Option N) → IfSome e (λ v. Contains g.nodes v) → HasMember (option_to_list e) r → Contains g.nodes r
      by None k a = absurd a
      by (Some x) k (inl s) = subst (Contains g.nodes) s k
      by (Some x) k (inr n) = absurd n

  -- what the entry and the nodes reach is the nodes
  pub reached_inside : (v : N) → IsReached g (entry_then_nodes g) v → Contains g.nodes v
  reached_inside v h = path_inside h.0 v h.2.0 (root_inside h.0 h.1) h.2.1

  module _ (laws : IsEquivalence eq) (pre post : List N) (search : IsSearch eq g (entry_then_nodes g) (record { pre = pre; post = post })) where
    pub all_listed : All (IsListed eq pre) g.nodes
    all_listed k d l = (search.pre_listed (get_or g.nodes k d)).1 (node_reached g (get_or g.nodes k d) (in_from g.nodes (get_or g.nodes k d) (Contains-get_or g.nodes k d l)))

    pub start : AreTaken g (entry_then_nodes g) (number_in eq pre) (number_in eq post) [] [] (length post)
    start = subst (AreTaken g (entry_then_nodes g) (number_in eq pre) (number_in eq post) [] []) (sym search.equal_lengths)
        (none_taken g (entry_then_nodes g) (number_in eq pre) (number_in eq post) (length pre) search.numbering search.numbering.post_numbers.within)

    module _ (rest deleted all : List N) (root : N) (last : all ≡ rest ++ root ∷ []) (is : post ≡ all ++ deleted) where
      root_at : slice_get post (length rest) ≡ Some root
      root_at =
          let l : length all ≡ length rest + 1 = ap length last ∙ length-append rest (root ∷ []) in
          let here : slice_get (rest ++ root ∷ []) (length rest) ≡ Some root = item_right rest (root ∷ []) 0 (length rest) (omega arith) in
          subst (λ xs. slice_get xs (length rest) ≡ Some root) (sym is) (item_left all deleted (length rest) (omega (arith, l)) ∙ subst (λ xs. slice_get xs (length rest) ≡ Some root) (sym last) here)

      root_number : number_in eq post root ≡ length rest
      root_number = place_of_item eq lawful.same laws.refl post (length rest) root
          (λ j l. let r = search.numbering.post_numbers.each j (omega (arith, l, search.equal_lengths)) in (r.0, r.2)) root_at

      pub left_after : length all ≡ suc (number_in eq post root)
      left_after = omega (arith, ap length last, length-append rest (root ∷ []), root_number)

      root_reached : IsReached g (entry_then_nodes g) root
      root_reached = (search.post_listed root).0 (any_from_in eq lawful.same laws.refl post root (in_from_item post (length rest) root root_at))

      pub root_member : Contains g.nodes root
      root_member = reached_inside root root_reached

      before : (held : List N) (cs : List (Scc N)) → AreTaken g (entry_then_nodes g) (number_in eq pre) (number_in eq post) held cs (length all) → AreTaken g (entry_then_nodes g) (number_in eq pre) (number_in eq post) held cs (suc (number_in eq post root))
      before held cs t = subst (AreTaken g (entry_then_nodes g) (number_in eq pre) (number_in eq post) held cs) left_after t

      pub over : (held : List N) (cs : List (Scc N)) → list_any (eq root) held ≡ true → AreTaken g (entry_then_nodes g) (number_in eq pre) (number_in eq post) held cs (length all)
          → AreTaken g (entry_then_nodes g) (number_in eq pre) (number_in eq post) held cs (length rest)
      over held cs there t = subst (AreTaken g (entry_then_nodes g) (number_in eq pre) (number_in eq post) held cs) root_number
          (passed g (entry_then_nodes g) (number_in eq pre) (number_in eq post) (length pre) search.numbering held cs root root_reached (in_from_any eq lawful.same laws.refl held root there) (before held cs t))

      pub more : (held new : List N) (cs : List (Scc N)) (c : Scc N) → list_any (eq root) held ≡ false → IsTakenOff g eq pre root held new c
          → AreTaken g (entry_then_nodes g) (number_in eq pre) (number_in eq post) held cs (length all)
          → AreTaken g (entry_then_nodes g) (number_in eq pre) (number_in eq post) new (cs ++ c ∷ []) (length rest)
      more held new cs c unheld taken t =
          let added = taken.collects.added in
          let collected : (x : N) → HasMember taken.collects.added x → IsReached g (entry_then_nodes g) x × LeadsOutside g held x root =
          λ x h. let node = taken.collects.inside x h in (node_reached g x (in_from g.nodes x node), (taken.collects.leads x node).0 h) in
          let complete : (x : N) → IsReached g (entry_then_nodes g) x → LeadsOutside g held x root → HasMember taken.collects.added x = λ x hx l. (taken.collects.leads x (reached_inside x hx)).1 l in
          subst (λ xs. AreTaken g (entry_then_nodes g) (number_in eq pre) (number_in eq post) xs (cs ++ c ∷ []) (length rest)) (sym taken.collects.is)
          (subst (AreTaken g (entry_then_nodes g) (number_in eq pre) (number_in eq post) (held ++ added) (cs ++ c ∷ [])) root_number
          (one_more g (entry_then_nodes g) (number_in eq pre) (number_in eq post) (length pre) search.numbering held added cs c root root_reached (not_in_from_any eq lawful.same laws.refl held root unheld) (before held cs t) collected complete taken.same taken.descends taken.cyclic))

    pub finish : Grew eq g (entry_then_nodes g) [] [] pre post → (held : List N) (cs : List (Scc N)) → AreTaken g (entry_then_nodes g) (number_in eq pre) (number_in eq post) held cs 0 → AreNumberedComponents eq g cs
    finish grew held cs t = record {
      are = record {
        orders = record { pre = pre; post = post };
        search = search;
        not_empty = λ c h. let k = t.leads c (in_from cs c h) in filled c.nodes.items k.0 k.1;
        covers = λ v. (
          λ h. elim (t.late v (node_reached g v (in_from g.nodes v h))) [
            | inl k ↦ let c = t.covers v k in (c.0, contains_from cs c.0 c.1, contains_from c.0.nodes.items v c.2)
            | inr l ↦ absurd (omega (arith, l))
          ],
          λ h. reached_inside v (t.reached v (t.inside h.0 v (in_from cs h.0 h.1) (in_from h.0.nodes.items v h.2))),
        );
        shares = λ c u v h hu. let k = t.shares c u v (in_from cs c h) (in_from c.nodes.items u hu) in (λ hv. k.0 (in_from c.nodes.items v hv), λ m. contains_from c.nodes.items v (k.1 m));
        ordered = t.ordered;
        members = λ c h. t.members c (in_from cs c h);
        cyclic = λ c h. t.cyclic c (in_from cs c h);
      };
      grew = grew;
    }
      where
        filled : (xs : List N) (v : N) → HasMember xs v → 0 < length xs
        filled [] v h = absurd h
        filled (x ∷ xs) v h = omega arith
