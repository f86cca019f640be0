use Rattle.std.proofs.Common.{length}
use Rattle.pliron_core.specs.Tree.{layout_of}
use Rattle.pliron_core.specs.WalkSteps.{rest_from}
use Rattle.pliron_core.specs.Contained.{IsBlockKept}
use Rattle.pliron_core.proofs.ContainedLemmas.{IsWalked}
use Rattle.pliron_core.proofs.context.contained.Scope.keeps_region.Given as goal

abbrev pub invariant-loop-at : goal.invariant-loop-at
invariant-loop-at l = IsWalked (λ b. IsBlockKept l.ctx.tree l.self b) (layout_of l.ctx.tree l.fn.region) l.at

abbrev pub decreases-loop-at : goal.decreases-loop-at
decreases-loop-at l = length (rest_from l.at (layout_of l.ctx.tree l.fn.region))
