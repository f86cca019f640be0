use Rattle.std.proofs.Common.{◌≡◌, [], length}
use Rattle.pliron_core.specs.Tree.{body_of, regions_of}
use Rattle.pliron_core.specs.WalkSteps.{rest_from}
use Rattle.pliron_core.proofs.ContainedLemmas.{IsWalked}
use Rattle.pliron_rewrite_calls.proofs.copyable.is_childless.Given as goal

abbrev pub invariant-loop-at : goal.invariant-loop-at
invariant-loop-at l = IsWalked (λ k. regions_of l.ctx.tree k ≡ []) (body_of l.ctx.tree l.fn.block) l.at

abbrev pub decreases-loop-at : goal.decreases-loop-at
decreases-loop-at l = length (rest_from l.at (body_of l.ctx.tree l.fn.block))
