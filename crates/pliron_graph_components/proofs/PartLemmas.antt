-- The part of the held nodes that was collected last is a component.
use Rattle.std.proofs.Common.{◌≡◌, ℕ, ◌<◌, ◌≤◌, Bool, true, List, [], ◌∷◌, ◌++◌, length, get_or, drop, refl, sym, ap, subst, arith, Contains, ◌↔◌, IsTrue, length-append}
use Rattle.std.specs.Cmp.{IsEquivalence}
use Rattle.std.specs.List.{All}
use Rattle.std.proofs.lemmas.List.Elements.{All-contains, Contains-get_or}
use Rattle.pliron_graph_traversal.specs.Digraph.{Digraph}
use Rattle.pliron_graph_traversal.specs.Search.{number_in}
use Rattle.pliron_graph_components.specs.Components.{Descends, IsCyclic}
use Rattle.pliron_graph_components.specs.declared.components.Scc.{Scc}
use Rattle.pliron_graph_traversal.specs.Internal.Membership.{in_from, contains_from}
use Rattle.pliron_graph_components.specs.Internal.Collecting.{Collects, IsTakenOff}
use Rattle.pliron_graph_traversal.specs.Internal.Membership.{HasMember}
use Rattle.pliron_graph_components.specs.Internal.Picking.{IsListedFrom}
use Rattle.pliron_graph_components.proofs.PickLemmas.{dropped_stand}

-- what stands past the first part
drop_first : {N : Type 0} (xs ys : List N) → drop (length xs) (xs ++ ys) ≡ ys
drop_first [] ys = refl
drop_first (x ∷ xs) ys = drop_first xs ys

module _ {N : Type 0} (eq : N → N → Bool) (laws : IsEquivalence eq) (same : (x y : N) → eq x y ≡ true → x ≡ y) (g : Digraph N) (root : N) (old new : List N) (collects : Collects g eq root old new)
    (first : ℕ) (at : first ≡ length old) where
  part_added : drop first new ≡ collects.added
  part_added = subst (λ n. drop n new ≡ collects.added) (sym at) (subst (λ xs. drop (length old) xs ≡ collects.added) (sym collects.is) (drop_first old collects.added))

  pub part_within : first ≤ length new
  part_within = omega (arith, at, ap length collects.is, length-append old collects.added)

  part_inside : (v : N) → Contains (drop first new) v → Contains g.nodes v
  part_inside v h = collects.inside v (in_from collects.added v (subst (λ xs. Contains xs v) part_added h))

  pub part_all : (P : N → Type 0) → All P g.nodes → All P (drop first new)
  part_all P all k d l = All-contains P g.nodes (get_or (drop first new) k d) all (part_inside (get_or (drop first new) k d) (Contains-get_or (drop first new) k d l))

  pub members : (xs ys : List N) → xs ≡ ys → ((v : N) → (Contains ys v ↔ Contains (drop first new) v)) → All (λ v. Contains g.nodes v) xs
  members xs ys e h k d l = part_inside (get_or xs k d) ((h (get_or xs k d)).0 (subst (λ zs. Contains zs (get_or xs k d)) e (Contains-get_or xs k d l)))

  pub taken : (pre : List N) (c : Scc N) (xs : List N) → xs ≡ c.nodes.items → ((v : N) → (Contains c.nodes.items v ↔ Contains (drop first new) v)) → Descends (number_in eq pre) c.nodes.items → (IsTrue c.is_cyclic ↔ IsCyclic g xs) → IsTakenOff g eq pre root old new c
  taken pre c xs e h descends cyclic = record {
    collects = collects;
    same = λ x. (
      λ k. in_from collects.added x (subst (λ zs. Contains zs x) part_added ((h x).0 k)),
      λ k. (h x).1 (subst (λ zs. Contains zs x) (sym part_added) (contains_from collects.added x k)),
    );
    descends = descends;
    cyclic = subst (λ zs. IsTrue c.is_cyclic ↔ IsCyclic g zs) e cyclic;
  }

module _ {N : Type 0} (eq : N → N → Bool) (laws : IsEquivalence eq) (same : (x y : N) → eq x y ≡ true → x ≡ y) (g : Digraph N) (pre : List N) (root : N) (old new : List N) (c : Scc N) (taken : IsTakenOff g eq pre root old new c) where
  -- the nodes of the component are those that are held since
  pub taken_stand : (first : ℕ) → first ≡ length old → (v : N) → (IsListedFrom eq new first v ↔ Contains c.nodes.items v)
  taken_stand first at v =
      let part : drop first new ≡ taken.collects.added = part_added eq laws same g root old new taken.collects first at in
      let stand = dropped_stand eq laws same new first v taken.collects.distinct in (
        λ h. (taken.same v).1 (in_from taken.collects.added v (subst (λ xs. Contains xs v) part (stand.1 h))),
        λ h. stand.0 (subst (λ xs. Contains xs v) (sym part) (contains_from taken.collects.added v ((taken.same v).0 h))),
      )

  pub taken_nodes : All (λ v. Contains g.nodes v) c.nodes.items
  taken_nodes k d l = taken.collects.inside (get_or c.nodes.items k d) ((taken.same (get_or c.nodes.items k d)).0 (Contains-get_or c.nodes.items k d l))

  pub taken_filled : Contains g.nodes root → (HasMember old root → ⊥) → 0 < length c.nodes.items
  taken_filled node fresh =
      let h = (taken.same root).1 ((taken.collects.leads root node).1 ([], (fresh, refl))) in
      omega (arith, h.1)
