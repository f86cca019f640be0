use Rattle.std.proofs.Common.{◌≡◌, ◌⊎◌, ℕ, length, Some}
use Rattle.std.specs.Option.{ForSome}
use Rattle.pliron_core.specs.Tree.{In, parent_operation_of}
use Rattle.pliron_core.specs.Walks.{children}
use Rattle.pliron_core.specs.WalkSteps.{rest_from}
use Rattle.pliron_laws.specs.Answers.{HeadPasses}
use Rattle.pliron_opt_inline.proofs.size.may_be_copied.Given as goal

abbrev pub invariant-loop-at : goal.invariant-loop-at
invariant-loop-at g l = record {
  held : ForSome l.at (λ k. parent_operation_of l.ctx.tree k ≡ Some l.fn.function);
  passed : (k : ℕ) → In k (children l.ctx.tree l.fn.function) → In k (rest_from l.at (children l.ctx.tree l.fn.function)) ⊎ HeadPasses (g.P.InliningPolicy.allows_copy l.policy) l.ctx.tree k;
}

abbrev pub decreases-loop-at : goal.decreases-loop-at
decreases-loop-at g l = length (rest_from l.at (children l.ctx.tree l.fn.function))
