-- Which regions a call visits, and which of their blocks are unreachable.
use Rattle.std.specs.Prelude.{◌≡◌, ℕ, Bool, true, false, Some, None, IsTrue}
use Rattle.pliron_core.specs.Tree.{Tree, In, first_of, regions_of, parent_of, block_parent_of, layout_of}
use Rattle.pliron_core.specs.Reads.{has_ssa}
use Rattle.pliron_graph_traversal.specs.Digraph.{Reaches}
use Rattle.pliron_graph_traversal.specs.Regions.{graph_of_region}

-- the entry of the region reaches the block
abbrev pub IsReachedIn : Tree → (r b : ℕ) → Type 0
IsReachedIn t r b = (entry : ℕ) × (first_of (layout_of t r) None ≡ Some entry) × Reaches (graph_of_region t r) entry b

abbrev pub IsVisitedBlockIf : Bool → Tree → (r b : ℕ) → Type 0
IsVisitedBlockIf true t r b = IsReachedIn t r b
IsVisitedBlockIf false t r b = first_of (layout_of t r) None ≡ Some b

-- a call that visits the region visits the operations of this block: of each that the entry reaches, or of the
-- first alone where the region has no SSA dominance
abbrev pub IsVisitedBlock : Tree → (r b : ℕ) → Type 0
IsVisitedBlock t r b = IsVisitedBlockIf (has_ssa t r) t r b

-- the regions that a call visits, from those on where it starts
pub data IsVisited (t : Tree) (Start : ℕ → Type 0) : ℕ → Type 0 where
  Starts : {r : ℕ} → Start r → IsVisited t Start r
  Nested : {r : ℕ} (outer b k : ℕ) → IsVisited t Start outer → IsVisitedBlock t outer b → parent_of t k ≡ Some b → In r (regions_of t k) → IsVisited t Start r

-- where a call on an operation starts, one on a block, one on a region
abbrev pub OfOperation : ℕ → Tree → ℕ → Type 0
OfOperation op t r = In r (regions_of t op)

abbrev pub OfBlock : ℕ → Tree → ℕ → Type 0
OfBlock block t r = (k : ℕ) × (parent_of t k ≡ Some block) × In r (regions_of t k)

abbrev pub OfRegion : ℕ → Tree → ℕ → Type 0
OfRegion region t r = r ≡ region

-- where a call starts, in each tree
abbrev pub Start : Type 1
Start = Tree → ℕ → Type 0

-- a visited region with SSA dominance
abbrev pub IsVisitedSsaRegion : Start → Tree → ℕ → Type 0
IsVisitedSsaRegion start t r = IsVisited t (start t) r × IsTrue (has_ssa t r)

-- a block of the region that its entry does not reach
abbrev pub IsCutOff : Tree → (r b : ℕ) → Type 0
IsCutOff t r b = (block_parent_of t b ≡ Some r) × (IsReachedIn t r b → ⊥)

-- an unreachable block of some region that the call searches
abbrev pub IsUnreachable : Start → Tree → ℕ → Type 0
IsUnreachable start t b = (r : ℕ) × IsVisitedSsaRegion start t r × IsCutOff t r b
