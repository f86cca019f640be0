use Rattle.std.proofs.Common.{◌≡◌, ◌+◌, ◌-◌, ◌^◌, ◌≤◌, min, length, Some}
use Rattle.std.specs.List.{sum_by}
use Rattle.std.specs.Option.{ForSome}
use Rattle.pliron_core.specs.Tree.{parent_operation_of}
use Rattle.pliron_core.specs.Walks.{children}
use Rattle.pliron_core.specs.WalkSteps.{rest_from}
use Rattle.pliron_opt_inline.specs.Sizes.{size_at, size_inside}
use Rattle.pliron_opt_inline.proofs.size.size_of.Given as goal

abbrev pub invariant-loop-at : goal.invariant-loop-at
invariant-loop-at g l = record {
  held : ForSome l.at (λ k. parent_operation_of l.ctx.tree k ≡ Some l.fn.function);
  fits : l.total ≤ 2 ^ 64 - 1;
  sum : min (l.total + sum_by (size_at (g.P.InliningPolicy.size l.policy) l.ctx.tree) (rest_from l.at (children l.ctx.tree l.fn.function))) (2 ^ 64 - 1) ≡ size_inside (g.P.InliningPolicy.size l.policy) l.ctx.tree l.fn.function;
}

abbrev pub decreases-loop-at : goal.decreases-loop-at
decreases-loop-at g l = length (rest_from l.at (children l.ctx.tree l.fn.function))
