-- The collection of a component over predecessors, which contracts inside the crate cite.
use Rattle.std.specs.Prelude.{◌≡◌, Bool, IsTrue, List, [], ◌∷◌, ◌++◌, Contains, ◌↔◌}
use Rattle.std.specs.List.{IsDistinct}
use Rattle.pliron_graph_traversal.specs.Digraph.{Digraph}
use Rattle.pliron_graph_traversal.specs.Search.{number_in}
use Rattle.pliron_graph_components.specs.Components.{Descends, IsCyclic, AreComponents, entry_then_nodes}
use Rattle.pliron_graph_components.specs.declared.components.Scc.{Scc}
use Rattle.pliron_graph_traversal.specs.Internal.Forest.{Grew}
use Rattle.pliron_graph_traversal.specs.Internal.Membership.{HasMember}

-- new is old with those of xs that it lacked
pub record TakesIn {N : Type 0} (eq : N → N → Bool) (xs old new : List N) : Type 0 where
  pub added : List N
  pub is : new ≡ old ++ added
  pub of : (x : N) → HasMember added x → HasMember xs x
  pub all : (x : N) → HasMember xs x → HasMember new x
  pub distinct : IsDistinct eq old → IsDistinct eq new

module _ {N : Type 0} (g : Digraph N) where
  -- a path from x to r on which no node is held
  abbrev pub IsPathOutside : List N → N → List N → N → Type 0
  IsPathOutside held x [] r = (HasMember held x → ⊥) × (x ≡ r)
  IsPathOutside held x (w ∷ ws) r = (HasMember held x → ⊥) × Contains (g.succ x) w × IsPathOutside held w ws r

  -- x leads to r over nodes that are not held
  abbrev pub LeadsOutside : List N → N → N → Type 0
  LeadsOutside held x r = (ws : List N) × IsPathOutside held x ws r

  -- the nodes that lead to the root over nodes that were not held are held, too
  pub record Collects (eq : N → N → Bool) (root : N) (old new : List N) : Type 0 where
    pub added : List N
    pub is : new ≡ old ++ added
    pub distinct : IsDistinct eq new
    pub inside : (x : N) → HasMember added x → Contains g.nodes x
    pub leads : (x : N) → Contains g.nodes x → (HasMember added x ↔ LeadsOutside old x root)

  -- and they are the nodes of c
  pub record IsTakenOff (eq : N → N → Bool) (pre : List N) (root : N) (old new : List N) (c : Scc N) : Type 0 where
    pub collects : Collects eq root old new
    pub same : (x : N) → (Contains c.nodes.items x ↔ HasMember collects.added x)
    pub descends : Descends (number_in eq pre) c.nodes.items
    pub cyclic : IsTrue c.is_cyclic ↔ IsCyclic g c.nodes.items

-- components, with the search whose numbers they have
pub record AreNumberedComponents {N : Type 0} (eq : N → N → Bool) (g : Digraph N) (components : List (Scc N)) : Type 0 where
  pub are : AreComponents eq g components
  pub grew : Grew eq g (entry_then_nodes g) [] [] are.orders.pre are.orders.post
