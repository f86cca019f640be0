-- What the parts of the check of edges find.
use Rattle.std.specs.Prelude.{◌≡◌, ◌≢◌, ℕ, Option, Some}
use Rattle.pliron_core.specs.Tree.{Tree, In, successors_of, regions_of, parent_of, block_parent_of, up_from}
use Rattle.pliron_laws.specs.Linked.{EndsBlock}

-- the region that an operation is directly in
abbrev pub region_around : Tree → ℕ → Option ℕ
region_around t k = up_from (parent_of t k) (λ b. block_parent_of t b)

-- all successors of the operation are blocks of the region of this one
abbrev pub HasOwnSuccessors : Tree → (op block : ℕ) → Type 0
HasOwnSuccessors t op block = (s : ℕ) → In s (successors_of t op) → block_parent_of t s ≡ block_parent_of t block

-- all operations that have the block as successor are in its region
abbrev pub HasOwnUsers : Tree → ℕ → Type 0
HasOwnUsers t block = (k : ℕ) → In block (successors_of t k) → region_around t k ≡ block_parent_of t block

-- this holds of all blocks of the region, and of all regions of the operation
abbrev pub RegionHasOwnUsers : Tree → ℕ → Type 0
RegionHasOwnUsers t region = (b : ℕ) → block_parent_of t b ≡ Some region → HasOwnUsers t b

abbrev pub OpHasOwnUsers : Tree → ℕ → Type 0
OpHasOwnUsers t op = (r : ℕ) → In r (regions_of t op) → RegionHasOwnUsers t r

-- an operation with successors ends its block
abbrev pub EndsBlockIf : Tree → ℕ → Type 0
EndsBlockIf t op = (s : ℕ) → In s (successors_of t op) → EndsBlock t op

-- what the walk asks of an operation on its way
pub record HasLawfulEdges (t : Tree) (root op : ℕ) : Type 0 where
  pub ends : op ≢ root → EndsBlockIf t op
  pub users : OpHasOwnUsers t op
