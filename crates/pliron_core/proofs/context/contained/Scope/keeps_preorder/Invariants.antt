use Rattle.std.proofs.Common.{length}
use Rattle.pliron_core.specs.Walks.{preorder}
use Rattle.pliron_core.specs.WalkSteps.{rest_from}
use Rattle.pliron_core.specs.Contained.{IsOperationKept}
use Rattle.pliron_core.proofs.ContainedLemmas.{IsWalked}
use Rattle.pliron_core.proofs.context.contained.Scope.keeps_preorder.Given as goal

abbrev pub invariant-loop-at : goal.invariant-loop-at
invariant-loop-at l = IsWalked (λ k. IsOperationKept l.ctx.tree l.self k) (preorder l.ctx.tree l.root) l.at

abbrev pub decreases-loop-at : goal.decreases-loop-at
decreases-loop-at l = length (rest_from l.at (preorder l.ctx.tree l.root))
