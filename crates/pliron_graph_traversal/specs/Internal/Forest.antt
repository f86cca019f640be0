-- Depth-first search as forests: the steps of a search, which contracts inside the crate cite.
use Rattle.std.specs.Prelude.{◌≡◌, Bool, true, false, List, [], ◌∷◌, ◌++◌}
use Rattle.std.specs.List.{list_any}
use Rattle.pliron_graph_traversal.specs.Digraph.{Digraph}

-- a root with what was found from it, and then the later roots with theirs
pub data Forest (N : Type 0) : Type 0 where
  leaf : Forest N
  grow : N → Forest N → Forest N → Forest N

abbrev pub forest_preorder : {N : Type 0} → Forest N → List N
forest_preorder leaf = []
forest_preorder (grow v c s) = v ∷ (forest_preorder c ++ forest_preorder s)

abbrev pub postorder : {N : Type 0} → Forest N → List N
postorder leaf = []
postorder (grow v c s) = postorder c ++ (v ∷ postorder s)

module _ {N : Type 0} (eq : N → N → Bool) (g : Digraph N) where
  -- f is what a search finds from the roots, in order, once the seen nodes are known
  pub data ForestGrows : List N → List N → Forest N → Type 0 where
    done : {seen : List N} → ForestGrows seen [] leaf
    skip : {seen : List N} {v : N} {vs : List N} {f : Forest N} → list_any (eq v) seen ≡ true → ForestGrows seen vs f → ForestGrows seen (v ∷ vs) f
    visit : {seen : List N} {v : N} {vs : List N} {c s : Forest N} → list_any (eq v) seen ≡ false
        → ForestGrows (seen ++ v ∷ []) (g.succ v) c → ForestGrows ((seen ++ v ∷ []) ++ forest_preorder c) vs s → ForestGrows seen (v ∷ vs) (grow v c s)

  -- a search from the roots took the seen nodes and the finished nodes from p and q to p' and q'
  pub record Grew (roots p q p' q' : List N) : Type 0 where
    pub forest : Forest N
    pub grows : ForestGrows p roots forest
    pub pre_is : p' ≡ p ++ forest_preorder forest
    pub post_is : q' ≡ q ++ postorder forest
