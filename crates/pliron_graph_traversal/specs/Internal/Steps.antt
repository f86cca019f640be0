-- The steps of a search with a stack, which contracts inside the crate cite.
use Rattle.std.specs.Prelude.{◌≡◌, ℕ, ◌+◌, ◌-◌, ◌<◌, Bool, cond, List, [], ◌∷◌, ◌++◌, length, drop, Contains}
use Rattle.std.specs.List.{list_any, sum_by, All}
use Rattle.pliron_graph_traversal.specs.Digraph.{Digraph}
use Rattle.pliron_graph_traversal.specs.Internal.Forest.{Grew}

module _ {N : Type 0} (eq : N → N → Bool) (g : Digraph N) where
  -- the successors of e's node that are left, and then the node
  pub record Finishes (e : N × ℕ) (p q p' q' : List N) : Type 0 where
    pub found : List N
    pub grew : Grew eq g (drop e.1 (g.succ e.0)) p q p' found
    pub last : q' ≡ found ++ e.0 ∷ []

  -- what is left to do of a search whose stack is es, the newest last, takes p and q to p' and q'
  abbrev pub Unwinds : List (N × ℕ) → List N → List N → List N → List N → Type 0
  Unwinds [] p q p' q' = (p' ≡ p) × (q' ≡ q)
  Unwinds (e ∷ above) p q p' q' = (pm : List N) × (qm : List N) × Unwinds above p q pm qm × Finishes e pm qm p' q'

  abbrev pub weight : List N → N → ℕ
  weight seen v = cond (list_any (eq v) seen) 0 (length (g.succ v) + 2)

  abbrev pub stacked : N × ℕ → ℕ
  stacked e = (length (g.succ e.0) - e.1) + 1

  -- the work that is left
  unfoldable pub work : List (N × ℕ) → List N → ℕ
  work es seen = sum_by (weight seen) g.nodes + sum_by stacked es

  pub record IsWalkStep (es : List (N × ℕ)) (p q : List N) (es' : List (N × ℕ)) (p' q' : List N) : Type 0 where
    -- whatever the rest of the search answers is the answer from before the step
    pub rest : (pe qe : List N) → Unwinds es' p' q' pe qe → Unwinds es p q pe qe
    pub descends : work es' p' < work es p
    pub nodes : All (λ e. Contains g.nodes e.0) es → All (λ e. Contains g.nodes e.0) es'
