-- The walks of a search from all nodes, and the orders that list them.
use Rattle.std.specs.Prelude.{◌≡◌, Bool, List, [], ◌∷◌, ◌++◌, Contains, ◌↔◌, map, reverse}
use Rattle.std.specs.List.{All}
use Rattle.pliron_graph_traversal.specs.Digraph.{Digraph, IsReached}
use Rattle.pliron_graph_traversal.specs.Search.{Orders, IsSearch, IsTop, Encloses, number_in}

-- the lists of a list of lists, one after the other
abbrev pub concatenation : {N : Type 0} → List (List N) → List N
concatenation [] = []
concatenation (w ∷ ws) = w ++ concatenation ws

-- a walk: a node that nothing encloses, last, with all that it encloses
pub record IsWalk {N : Type 0} (eq : N → N → Bool) (g : Digraph N) (roots : List N) (o : Orders N) (walk : List N) : Type 0 where
  pub top : N
  pub others : List N
  pub last : walk ≡ others ++ top ∷ []
  pub is_top : IsTop g roots (number_in eq o.pre) (number_in eq o.post) top
  pub enclosed : (v : N) → Contains others v ↔ (IsReached g roots v × Encloses (number_in eq o.pre) (number_in eq o.post) top v)

-- the walks from the nodes in listed order, each by ascending post-number, those with smaller numbers first
pub record AreWalks {N : Type 0} (eq : N → N → Bool) (g : Digraph N) (walks : List (List N)) : Type 0 where
  pub pre : List N
  pub search : IsSearch eq g g.nodes (record { pre = pre; post = concatenation walks })
  pub each : All (IsWalk eq g g.nodes (record { pre = pre; post = concatenation walks })) walks

-- the same walks in the same order, each reversed
abbrev pub AreReversedWalks : {N : Type 0} → (N → N → Bool) → Digraph N → List (List N) → Type 0
AreReversedWalks {N} eq g lists = (walks : List (List N)) × AreWalks eq g walks × (lists ≡ map reverse walks)

-- the walks one after the other
abbrev pub IsPostOrder : {N : Type 0} → (N → N → Bool) → Digraph N → List N → Type 0
IsPostOrder {N} eq g order = (walks : List (List N)) × AreWalks eq g walks × (order ≡ concatenation walks)

-- the reversed walks one after the other
abbrev pub IsTopologicalOrder : {N : Type 0} → (N → N → Bool) → Digraph N → List N → Type 0
IsTopologicalOrder {N} eq g order = (lists : List (List N)) × AreReversedWalks eq g lists × (order ≡ concatenation lists)
