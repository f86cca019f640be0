-- Rewrites of blocks change only what is inside the parent operation of the blocks.
use Rattle.std.specs.Prelude.{◌≡◌, ℕ, List, Some, slice_get}
use Rattle.pliron_core.specs.Tree.{Tree, In, IsInside, HoldsBlock, arguments_of, block_parent_of, block_parent_operation_of, region_parent_of}
use Rattle.pliron_core.specs.Invariant.{IsTree}
use Rattle.pliron_core.specs.Writes.{after_replacing}
use Rattle.pliron_core.specs.Changes.{IsInsideChange}
use Rattle.pliron_theory.specs.Splicing.{IsSpliced}
use Rattle.pliron_theory.specs.Rebranching.{IsRebranched}
use Rattle.pliron_rewrite_blocks.specs.Cutting.{AreCut}

abbrev pub CutInsideLaw : Type 0
CutInsideLaw = (t v : Tree) (region holder : ℕ) (bs : List ℕ) → IsTree t → IsTree v → region_parent_of t region ≡ Some holder → ((b : ℕ) → In b bs → block_parent_of t b ≡ Some region) → AreCut t v region bs → IsInsideChange t v holder

abbrev pub JoinedInsideLaw : Type 0
JoinedInsideLaw = (t t' : Tree) (holder a b jump : ℕ) (front : List ℕ) → IsTree t → IsTree t' → block_parent_operation_of t a ≡ Some holder → IsSpliced t t' a b jump front → IsInsideChange t t' holder

-- the uses of an argument become uses of any other value
abbrev pub ReplacedInsideLaw : Type 0
ReplacedInsideLaw = (t : Tree) (op block i p v : ℕ) → IsTree t → HoldsBlock t op block → slice_get (arguments_of t block) i ≡ Some p → IsInsideChange t (after_replacing t p v) op

-- a branch was replaced by another one
abbrev pub RebranchedInsideLaw : Type 0
RebranchedInsideLaw = (t t' : Tree) (root a op new : ℕ) (front : List ℕ) → IsTree t → IsTree t' → IsInside t root op → IsRebranched t t' a op new front → IsInsideChange t t' root
