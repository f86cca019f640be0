-- The walks of a search by its forest, which contracts inside the crate cite.
use Rattle.std.specs.Prelude.{◌≡◌, ℕ, Bool, List, [], ◌∷◌, ◌++◌, Some, map, slice_get}
use Rattle.pliron_graph_traversal.specs.Digraph.{Digraph}
use Rattle.pliron_graph_traversal.specs.Internal.Forest.{Forest, leaf, grow, forest_preorder, postorder, ForestGrows}

-- the nodes of each tree in the order in which the search left them
abbrev pub trees : {N : Type 0} → Forest N → List (List N)
trees leaf = []
trees (grow r c s) = (postorder c ++ r ∷ []) ∷ trees s

-- the search from xs came to the seen nodes in order, and gave the walks
pub record Walked {N : Type 0} (eq : N → N → Bool) (g : Digraph N) (xs seen : List N) (walks : List (List N)) : Type 0 where
  pub forest : Forest N
  pub grows : ForestGrows eq g [] xs forest
  pub seen_is : seen ≡ forest_preorder forest
  pub walks_are : walks ≡ trees forest

-- these are the walks of the search from all nodes
abbrev pub AreFoundWalks : {N : Type 0} → (N → N → Bool) → Digraph N → List (List N) → Type 0
AreFoundWalks {N} eq g walks = (seen : List N) × Walked eq g g.nodes seen walks

-- the lists have the nodes with these numbers
abbrev pub AreNamedLists : {N : Type 0} → List N → List (List ℕ) → List (List N) → Type 0
AreNamedLists nodes numbers lists = map (map Some) lists ≡ map (map (λ k. slice_get nodes k)) numbers
