-- The unreachable blocks of a region are erased in one rewrite.
use Rattle.std.specs.Prelude.{◌≡◌, ℕ, true, List, [], ◌∷◌, Some, None}
use Rattle.pliron_core.specs.Tree.{Tree, In, first_of, operands_of, block_parent_of, layout_of, region_parent_of, definition_of}
use Rattle.pliron_core.specs.Invariant.{IsTree}
use Rattle.pliron_core.specs.Edges.{succs_of}
use Rattle.pliron_core.specs.Erased.{uses_dropped}
use Rattle.pliron_laws.specs.Datum.{Meaning}
use Rattle.pliron_laws.specs.Linked.{EdgesLast}
use Rattle.pliron_theory.specs.Keeps.{KeepsAllRuns}
use Rattle.pliron_theory.specs.Sweeping.{is_maker_dead}
use Rattle.pliron_rewrite_blocks.specs.Cutting.{cut_op, cut_block, ErasesAll, AreCut}

-- the uses in the blocks were dropped, block by block
pub data DropsAll : List ℕ → Tree → Tree → Type 0 where
  Done : {u : Tree} → DropsAll [] u u
  Then : {t u : Tree} (b : ℕ) (bs : List ℕ) → DropsAll bs (uses_dropped t b) u → DropsAll (b ∷ bs) t u

-- the blocks are in the region, and are not its entry; no block of the region that is left leads to one of
-- them, and no operation that is left uses what is defined in them
pub record BlocksMayGo (t : Tree) (region : ℕ) (bs : List ℕ) : Type 0 where
  pub own : (b : ℕ) → In b bs → block_parent_of t b ≡ Some region
  pub no_entry : (b : ℕ) → first_of (layout_of t region) None ≡ Some b → In b bs → ⊥
  pub closed : (c d : ℕ) → block_parent_of t c ≡ Some region → (In c bs → ⊥) → In d (succs_of t c) → In d bs → ⊥
  pub unused : (k x : ℕ) → In x (operands_of t k) → is_maker_dead (λ j. cut_op t bs j) (λ c. cut_block t bs c) (definition_of t x) ≡ true → cut_op t bs k ≡ true

-- where edges are last in the blocks of the region's parent operation, they are erased with their contents, and
-- runs are kept
pub record ErasesWell (m : Meaning) (t v : Tree) (region : ℕ) (bs : List ℕ) : Type 0 where
  pub cut : AreCut t v region bs
  pub runs : KeepsAllRuns m t v

abbrev pub LeavingLaw : Type 0
LeavingLaw = (m : Meaning) (t u v : Tree) (holder region : ℕ) (bs : List ℕ) → IsTree t → IsTree u → IsTree v → EdgesLast t holder → region_parent_of t region ≡ Some holder → BlocksMayGo t region bs → DropsAll bs t u → ErasesAll bs u v → ErasesWell m t v region bs
