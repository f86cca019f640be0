use Rattle.std.proofs.Common.{◌≡◌, Some, length}
use Rattle.std.specs.Option.{ForSome}
use Rattle.pliron_core.specs.Tree.{layout_of, block_parent_of}
use Rattle.pliron_core.specs.WalkSteps.{rest_from}
use Rattle.pliron_laws.specs.EdgeChecks.{HasOwnUsers}
use Rattle.pliron_laws.proofs.PassedLemmas.{ArePassed}
use Rattle.pliron_laws.proofs.edges.region_has_own_users.Given as goal

abbrev pub invariant-loop-at : goal.invariant-loop-at
invariant-loop-at l = record {
  placed : ForSome l.at (λ b. block_parent_of l.ctx.tree b ≡ Some l.fn.region);
  passed : ArePassed (λ b. HasOwnUsers l.ctx.tree b) (layout_of l.ctx.tree l.fn.region) l.at;
}

abbrev pub decreases-loop-at : goal.decreases-loop-at
decreases-loop-at l = length (rest_from l.at (layout_of l.ctx.tree l.fn.region))
