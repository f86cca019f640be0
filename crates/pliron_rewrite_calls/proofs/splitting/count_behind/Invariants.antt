use Rattle.std.proofs.Common.{◌≡◌, ◌+◌, length}
use Rattle.std.specs.Option.{ForSome}
use Rattle.pliron_core.specs.Tree.{In, body_of}
use Rattle.pliron_core.specs.Reads.{next_of}
use Rattle.pliron_core.specs.WalkSteps.{rest_from}
use Rattle.pliron_rewrite_calls.proofs.splitting.count_behind.Given as goal

abbrev pub invariant-loop-at : goal.invariant-loop-at
invariant-loop-at l = record {
  within : ForSome l.at (λ k. In k (body_of l.ctx.tree l.fn.block));
  counted : l.count + length (rest_from l.at (body_of l.ctx.tree l.fn.block)) ≡ length (rest_from (next_of l.ctx.tree l.fn.op) (body_of l.ctx.tree l.fn.block));
}

abbrev pub decreases-loop-at : goal.decreases-loop-at
decreases-loop-at l = length (rest_from l.at (body_of l.ctx.tree l.fn.block))
