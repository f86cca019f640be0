-- What the whole rewrites keep.
use Rattle.std.specs.Prelude.{◌≡◌, ◌≢◌, ◌↔◌, ℕ, Bool, [], Option}
use Rattle.pliron_core.specs.Tree.{Tree, IsLive, IsInside, regions_of, successors_of}
use Rattle.pliron_core.specs.Erased.{after_erasing, IsSelfContained}
use Rattle.pliron_core.specs.Invariant.{IsTree}
use Rattle.pliron_laws.specs.Datum.{Head, Meaning}
use Rattle.pliron_laws.specs.Linked.{IsWellLinked, EdgesLast}
use Rattle.pliron_laws.specs.Root.{WellDefined}
use Rattle.pliron_theory.specs.Change.{IsWholeChange}
use Rattle.pliron_theory.specs.Keeps.{KeepsAllRuns}
use Rattle.pliron_theory.specs.Edges.{EdgesAlike}
use Rattle.pliron_rewrite_equals.specs.OperationDominance.{DominatesOperation}
use Rattle.pliron_rewrite_equals.specs.Redundancy.{IsLeader}
use Rattle.pliron_rewrite_equals.specs.Merging.{partly_merged, after_merging}
use Rattle.pliron_graph_order.specs.Seen.{IsSeen}
use Rattle.pliron_opt_cse.specs.Left.{UsesAreBehind}
use Rattle.pliron_opt_cse.specs.Merges.{IsNearLeader}

pub record MergeLaws (m : Meaning) (side_effects : Head → Option Bool) : Type 0 where
  pub leads : (t : Tree) (a b : ℕ) → IsTree t → IsNearLeader side_effects t a b → IsLeader side_effects t a b
  pub merged : (t : Tree) (a b : ℕ) → IsTree t → IsTree (after_merging t a b) → IsNearLeader side_effects t a b → KeepsAllRuns m t (after_merging t a b)
  pub partly : (t : Tree) (a b n : ℕ) → IsTree t → IsNearLeader side_effects t a b → KeepsAllRuns m t (partly_merged t a b n)

-- inside an operation that is live and well linked, one merge is what a pass may do
abbrev pub ChangingLaw : Meaning → (Head → Option Bool) → Type 0
ChangingLaw m side_effects = (t : Tree) (op a b : ℕ) → IsTree t → IsTree (after_merging t a b) → IsLive t op → IsWellLinked m t op → IsInside t op b → IsNearLeader side_effects t a b → IsWholeChange m t (after_merging t a b) op

-- where an operation without regions and successors is erased, edges stay, and so does what dominates what, and what
-- is seen
pub record IsErasedAlone (t u : Tree) (root b : ℕ) : Type 0 where
  pub edges : EdgesAlike t u
  pub all_in_place : (x y : ℕ) → x ≢ b → y ≢ b → DominatesOperation t x y ↔ DominatesOperation u x y
  pub seen : (k : ℕ) → k ≢ b → IsSeen t root k ↔ IsSeen u root k

abbrev pub StayingLaw : Type 0
StayingLaw = (t : Tree) (root b : ℕ) → IsTree t → IsTree (after_erasing t b) → IsLive t b → IsSelfContained t b → EdgesLast t root → IsInside t root b → regions_of t b ≡ [] → successors_of t b ≡ [] → IsErasedAlone t (after_erasing t b) root b

-- in a well-defined root uses are behind definitions
abbrev pub UsesLaw : Type 0
UsesLaw = (m : Meaning) (t : Tree) (root : ℕ) → IsTree t → WellDefined m t root → UsesAreBehind t root
