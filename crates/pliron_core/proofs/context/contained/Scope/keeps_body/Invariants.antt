use Rattle.std.proofs.Common.{length}
use Rattle.pliron_core.specs.Tree.{body_of}
use Rattle.pliron_core.specs.WalkSteps.{rest_from}
use Rattle.pliron_core.specs.Contained.{IsPreorderKept}
use Rattle.pliron_core.proofs.ContainedLemmas.{IsWalked}
use Rattle.pliron_core.proofs.context.contained.Scope.keeps_body.Given as goal

abbrev pub invariant-loop-at : goal.invariant-loop-at
invariant-loop-at l = IsWalked (λ k. IsPreorderKept l.ctx.tree l.self k) (body_of l.ctx.tree l.fn.block) l.at

abbrev pub decreases-loop-at : goal.decreases-loop-at
decreases-loop-at l = length (rest_from l.at (body_of l.ctx.tree l.fn.block))
