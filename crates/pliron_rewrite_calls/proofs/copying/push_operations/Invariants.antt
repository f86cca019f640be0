use Rattle.std.proofs.Common.{◌≡◌, ◌++◌, Some, length}
use Rattle.std.specs.Option.{ForSome}
use Rattle.pliron_core.specs.Tree.{parent_of, body_of}
use Rattle.pliron_core.specs.WalkSteps.{rest_from}
use Rattle.pliron_rewrite_calls.proofs.copying.push_operations.Given as goal

abbrev pub invariant-loop-at : goal.invariant-loop-at
invariant-loop-at l = record {
  placed : ForSome l.at (λ k. parent_of l.ctx.tree k ≡ Some l.fn.block);
  whole : l.operations.items ++ rest_from l.at (body_of l.ctx.tree l.fn.block) ≡ l.fn.operations.items ++ body_of l.ctx.tree l.fn.block;
}

abbrev pub decreases-loop-at : goal.decreases-loop-at
decreases-loop-at l = length (rest_from l.at (body_of l.ctx.tree l.fn.block))
