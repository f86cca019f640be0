-- What a caller of the queries of a traversal needs of an edge.
use Rattle.std.proofs.Common.{◌≡◌, ℕ, Bool, List, Some, slice_get, Contains, length}
use Rattle.pliron_graph_traversal.specs.Digraph.{Digraph}
use Rattle.pliron_graph_traversal.specs.Search.{Orders, IsSearch, IsListed, number_in}
use Rattle.pliron_graph_traversal.specs.EdgeKinds.{IsLater}
use Rattle.pliron_graph_traversal.specs.Internal.Membership.{contains_from}
use Rattle.pliron_graph_traversal.proofs.ItemLemmas.{in_from_item}
use Rattle.pliron_graph_components.proofs.LawLemmas.{reached_next}

-- an item is one of the list
pub Contains-item : {X : Type 0} (xs : List X) (i : ℕ) (v : X) → slice_get xs i ≡ Some v → Contains xs v
Contains-item xs i v e = contains_from xs v (in_from_item xs i v e)

module _ {N : Type 0} (eq : N → N → Bool) (g : Digraph N) (roots : List N) (o : Orders N) (search : IsSearch eq g roots o) where
  -- a successor of a reached node is reached
  pub IsListed-successor : (u v : N) → IsListed eq o.pre u → Contains (g.succ u) v → IsListed eq o.pre v
  IsListed-successor u v h e = (search.pre_listed v).1 (reached_next g roots (number_in eq o.pre) (number_in eq o.post) (length o.pre) search.numbering u v ((search.pre_listed u).0 h) e)

  -- and is not wholly later
  pub edge_not_later : (u v : N) → IsListed eq o.pre u → Contains (g.succ u) v → IsLater eq o u v → ⊥
  edge_not_later u v h e later = search.numbering.no_later u v ((search.pre_listed u).0 h) e later
