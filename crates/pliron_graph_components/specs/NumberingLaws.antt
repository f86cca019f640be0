-- The clauses of a search numbering admit one numbering, and so one pair of orders and one list of walks.
use Rattle.std.specs.Prelude.{◌≡◌, ℕ, Bool, List}
use Rattle.pliron_graph_traversal.specs.Digraph.{Digraph, IsLawful, IsReached}
use Rattle.pliron_graph_traversal.specs.Search.{IsSearchNumbering, Orders, IsSearch}
use Rattle.pliron_graph_traversal.specs.Walks.{AreWalks}

-- two numberings of what the roots reach count as many nodes, and give each of them the same two numbers
abbrev pub NumberingIsOne : Type 0 → Type 0
NumberingIsOne N = (g : Digraph N) (roots : List N) (pre post pre' post' : N → ℕ) (count count' : ℕ) → IsSearchNumbering g roots pre post count → IsSearchNumbering g roots pre' post' count'
    → (count ≡ count') × ((v : N) → IsReached g roots v → (pre v ≡ pre' v) × (post v ≡ post' v))

module _ {N : Type 0} (eq : N → N → Bool) where
  -- two searches from the same roots have the same two orders
  abbrev pub OrdersAreOne : Type 0
  OrdersAreOne = (g : Digraph N) (roots : List N) (o o' : Orders N) → IsLawful eq g → IsSearch eq g roots o → IsSearch eq g roots o' → o ≡ o'

  -- and there is one list of walks from the listed nodes
  abbrev pub WalksAreOne : Type 0
  WalksAreOne = (g : Digraph N) (walks walks' : List (List N)) → IsLawful eq g → AreWalks eq g walks → AreWalks eq g walks' → walks ≡ walks'
