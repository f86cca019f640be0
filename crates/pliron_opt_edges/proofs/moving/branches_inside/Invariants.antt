use Rattle.std.proofs.Common.{[], length}
use Rattle.pliron_core.specs.Walks.{contents}
use Rattle.pliron_core.specs.WalkSteps.{rest_from}
use Rattle.pliron_theory.proofs.Listing.{IsListing}
use Rattle.pliron_opt_edges.specs.MoveSteps.{branch_alone}
use Rattle.pliron_opt_edges.proofs.moving.branches_inside.Given as goal

abbrev pub invariant-loop-at : goal.invariant-loop-at
invariant-loop-at g l = IsListing (branch_alone g.D.HasMeaning.meaning.is_branch l.ctx.tree) (contents l.ctx.tree l.root) [] l.branches.items l.at

abbrev pub decreases-loop-at : goal.decreases-loop-at
decreases-loop-at g l = length (rest_from l.at (contents l.ctx.tree l.root))
