-- Laws of the components of a graph.
use Rattle.std.proofs.Common.{◌≡◌, ℕ, ◌<◌, ◌≤◌, List, [], ◌∷◌, ◌++◌, length, slice_get, Some, refl, arith, inl, inr, ◌⊎◌, Contains, Bool}
use Rattle.std.specs.Option.{option_to_list}
use Rattle.pliron_graph_traversal.specs.Digraph.{Digraph, IsReached}
use Rattle.pliron_graph_traversal.specs.Search.{number_in}
use Rattle.pliron_graph_components.specs.Components.{AreComponents, entry_then_nodes}
use Rattle.pliron_graph_components.specs.declared.components.Scc.{Scc}
use Rattle.pliron_graph_traversal.specs.Internal.Membership.{HasMember, in_from, contains_from, in_right}
use Rattle.pliron_graph_traversal.proofs.ItemLemmas.{in_from_item}
use Rattle.pliron_graph_components.proofs.LawLemmas.{reaches_join}
use Rattle.pliron_graph_components.proofs.ComponentLemmas.{latest_in_component}

pub node_reached : {N : Type 0} (g : Digraph N) (v : N) → HasMember g.nodes v → IsReached g (entry_then_nodes g) v
node_reached g v h = (v, contains_from (option_to_list g.entry ++ g.nodes) v (in_right (option_to_list g.entry) g.nodes v h), ([], refl))

module _ {N : Type 0} (eq : N → N → Bool) (g : Digraph N) (components : List (Scc N)) (are : AreComponents eq g components) where
  component_in : (i : ℕ) (c : Scc N) → slice_get components i ≡ Some c → Contains components c
  component_in i c e = contains_from components c (in_from_item components i c e)

  pub between_components : (i j : ℕ) (c d : Scc N) → slice_get components i ≡ Some c → slice_get components j ≡ Some d
      → (u v : N) → Contains c.nodes.items u → Contains d.nodes.items v → Contains (g.succ u) v → i ≤ j
  between_components i j c d at_c at_d u v hu hv e = by (order j i)
    where
      order : (m n : ℕ) → (m < n) ⊎ (n ≤ m)
      order m n = grind arith

      by : (j < i) ⊎ (i ≤ j) → i ≤ j
      by (inr l) = l
      by (inl l) =
          let x = are.ordered j i d c l at_d at_c in
          let from_v = ((are.shares d v x.0 (component_in j d at_d) hv).0 x.1).0 in
          let u_reached = node_reached g u (in_from g.nodes u ((are.covers u).1 (c, component_in i c at_c, hu))) in
          let r = latest_in_component g (entry_then_nodes g) (number_in eq are.orders.pre) (number_in eq are.orders.post) (length are.orders.pre) are.search.numbering u x.0 u_reached (reaches_join g u v x.0 (v ∷ [], (e, refl)) from_v) in
          absurd (omega (arith, r.2, x.2 r.0 ((are.shares c u r.0 (component_in i c at_c) hu).1 r.1)))
