-- The whole rewrites that erase redundant operations.
use Rattle.std.specs.Prelude.{◌≡◌, ◌≢◌, ◌⊎◌, ℕ, Bool, List, [], ◌∷◌, Option}
use Rattle.pliron_core.specs.Tree.{Tree, operands_of}
use Rattle.pliron_laws.specs.Datum.{Head}
use Rattle.pliron_rewrite_equals.specs.OperationDominance.{DominatesOperation}
use Rattle.pliron_rewrite_equals.specs.Redundancy.{AreAlike}
use Rattle.pliron_rewrite_equals.specs.Merging.{AreHandedOver, after_merging}
use Rattle.pliron_graph_order.specs.Seen.{IsSeen}

-- a dominates b and does the same; where b has no operands, both are in one region
pub record IsNearLeader (side_effects : Head → Option Bool) (t : Tree) (a b : ℕ) : Type 0 where
  pub apart : a ≢ b
  pub alike : AreAlike side_effects t a b
  pub before : DominatesOperation t a b
  pub near : operands_of t b ≡ [] → before.around ≡ b

-- and both are seen
pub record IsPair (side_effects : Head → Option Bool) (t : Tree) (root a b : ℕ) : Type 0 where
  pub first : IsSeen t root a
  pub second : IsSeen t root b
  pub leads : IsNearLeader side_effects t a b

-- an operation, and the one that dominates it and does the same
pub record Pair : Type 0 where
  pub leader : ℕ
  pub redundant : ℕ

-- redundant operations are erased, one after the other: the uses of their results become uses of those of their
-- leaders
abbrev pub MergeInTurn : (Head → Option Bool) → ℕ → List Pair → (t t' : Tree) → Type 0
MergeInTurn side_effects root [] t t' = t' ≡ t
MergeInTurn side_effects root (x ∷ xs) t t' = IsPair side_effects t root x.leader x.redundant × MergeInTurn side_effects root xs (after_merging t x.leader x.redundant) t'

-- of a redundant operation with several results the uses of the first ones became uses of those of its leader: for
-- each result this is a rewrite of its own, which keeps runs
abbrev pub HandsOver : (Head → Option Bool) → ℕ → (t t' : Tree) → Type 0
HandsOver side_effects root t t' = (x : Pair) × IsPair side_effects t root x.leader x.redundant × AreHandedOver t t' x.leader x.redundant

-- where allocation fails, some redundant operations were erased; of one more with several results uses may have moved
abbrev pub AreMergedSoFar : (Head → Option Bool) → ℕ → List Pair → (t t' : Tree) → Type 0
AreMergedSoFar side_effects root xs t t' = (u : Tree) × MergeInTurn side_effects root xs t u × ((t' ≡ u) ⊎ HandsOver side_effects root u t')
