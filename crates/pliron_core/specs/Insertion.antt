-- Where a rewriter inserts.
use Rattle.std.specs.Prelude.{◌≢◌, ℕ, IsSome}
use Rattle.pliron_core.specs.declared.rewriter.OpInsertionPoint.{OpInsertionPoint}
use Rattle.pliron_core.specs.declared.rewriter.IRRewriter.{IRRewriter}
use Rattle.pliron_core.specs.declared.rewriter.OpInsertionPoint.TheVariants.{Unset, BeforeOperation, AtBlockStart}
use Rattle.pliron_core.specs.Tree.{Tree, IsBlock, IsInside, HoldsBlock, parent_of}
use Rattle.pliron_core.specs.Writes.{put_next_to, put_first}

-- where the rewriter inserts
abbrev pub point_of : IRRewriter → OpInsertionPoint
point_of r = r.point

-- a point is set, and what it names is live, isn't the operation and isn't inside it; a named operation is in a
-- block
abbrev pub IsPointFor : Tree → OpInsertionPoint → ℕ → Type 0
IsPointFor t Unset op = ⊥
IsPointFor t (BeforeOperation at) op = IsSome (parent_of t at) × (at ≢ op) × (IsInside t op at → ⊥)
IsPointFor t (AtBlockStart block) op = IsBlock t block × (HoldsBlock t op block → ⊥)

-- the operation becomes the direct predecessor of the named operation, or the first of the named block
abbrev pub after_inserting : Tree → OpInsertionPoint → ℕ → Tree
after_inserting t Unset op = t
after_inserting t (BeforeOperation at) op = put_next_to t op at (parent_of t at)
after_inserting t (AtBlockStart block) op = put_first t op block
