use Rattle.std.proofs.Common.{◌≡◌, ◌++◌, length, Some}
use Rattle.std.specs.Option.{ForSome}
use Rattle.pliron_core.specs.Tree.{parent_operation_of}
use Rattle.pliron_core.specs.Walks.{children}
use Rattle.pliron_core.specs.WalkSteps.{rest_from}
use Rattle.pliron_opt_symbols.proofs.within.all_directly_in.Given as goal

abbrev pub invariant-loop-at : goal.invariant-loop-at
invariant-loop-at l = record {
  held : ForSome l.at (λ k. parent_operation_of l.ctx.tree k ≡ Some l.fn.holder);
  all : l.found.items ++ rest_from l.at (children l.ctx.tree l.fn.holder) ≡ children l.ctx.tree l.fn.holder;
}

abbrev pub decreases-loop-at : goal.decreases-loop-at
decreases-loop-at l = length (rest_from l.at (children l.ctx.tree l.fn.holder))
