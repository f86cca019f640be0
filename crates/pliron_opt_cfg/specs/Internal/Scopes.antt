-- What a call visits.
use Rattle.std.specs.Prelude.{◌≡◌, ℕ, Some}
use Rattle.pliron_core.specs.Tree.{Tree, IsLive, IsBlock, IsRegion, block_parent_operation_of, region_parent_of}
use Rattle.pliron_opt_cfg.specs.Visited.{Start, OfOperation, OfBlock, OfRegion}
use Rattle.pliron_opt_cfg.specs.declared.removal.scope.RemovalScope.{RemovalScope}
use Rattle.pliron_opt_cfg.specs.declared.removal.scope.RemovalScope.TheVariants.{Operation, Block, Region}

-- where it starts
abbrev pub start_of_scope : RemovalScope → Start
start_of_scope (Operation op) = OfOperation op
start_of_scope (Block block) = OfBlock block
start_of_scope (Region region) = OfRegion region

-- what it visits is live
abbrev pub IsScopeLive : Tree → RemovalScope → Type 0
IsScopeLive t (Operation op) = IsLive t op
IsScopeLive t (Block block) = IsBlock t block
IsScopeLive t (Region region) = IsRegion t region

-- the operation itself, or the parent operation of the block or the region
abbrev pub IsHolder : Tree → RemovalScope → ℕ → Type 0
IsHolder t (Operation op) k = op ≡ k
IsHolder t (Block block) k = block_parent_operation_of t block ≡ Some k
IsHolder t (Region region) k = region_parent_of t region ≡ Some k
