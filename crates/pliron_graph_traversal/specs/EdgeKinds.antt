-- The kinds of an edge between two nodes of a search, by the places of its ends in the two orders.
use Rattle.std.specs.Prelude.{◌⊎◌, Bool, IsTrue, List, Contains}
use Rattle.pliron_graph_traversal.specs.Digraph.{Digraph, IsReached}
use Rattle.pliron_graph_traversal.specs.Search.{Orders, Encloses, IsWhollyLater, number_in}

module _ {N : Type 0} (eq : N → N → Bool) (o : Orders N) where
  -- the target is wholly later than the source, which no edge's is
  abbrev pub IsLater : N → N → Type 0
  IsLater from to = IsWhollyLater (number_in eq o.pre) (number_in eq o.post) from to

  -- the source encloses the target
  abbrev pub IsForward : N → N → Type 0
  IsForward from to = Encloses (number_in eq o.pre) (number_in eq o.post) from to

  -- the target is the source, or encloses it
  abbrev pub IsBack : N → N → Type 0
  IsBack from to = IsTrue (eq from to) ⊎ Encloses (number_in eq o.pre) (number_in eq o.post) to from

  -- the source is wholly later than the target
  abbrev pub IsCross : N → N → Type 0
  IsCross from to = IsWhollyLater (number_in eq o.pre) (number_in eq o.post) to from

-- an edge of what the roots reach is a back edge
abbrev pub HasBackEdge : {N : Type 0} → (N → N → Bool) → Digraph N → List N → Orders N → Type 0
HasBackEdge {N} eq g roots o = (u v : N) × IsReached g roots u × Contains (g.succ u) v × IsBack eq o u v
