use Rattle.std.proofs.Common.{◌≡◌, ◌++◌, length}
use Rattle.std.specs.Option.{ForSome}
use Rattle.pliron_core.specs.Tree.{IsWithin}
use Rattle.pliron_core.specs.Walks.{preorder}
use Rattle.pliron_core.specs.WalkSteps.{rest_from}
use Rattle.pliron_opt_symbols.proofs.within.push_within.Given as goal

abbrev pub invariant-loop-at : goal.invariant-loop-at
invariant-loop-at l = record {
  within : ForSome l.at (λ k. IsWithin l.ctx.tree l.root k);
  split : l.ops.items ++ rest_from l.at (preorder l.ctx.tree l.root) ≡ l.fn.ops.items ++ preorder l.ctx.tree l.root;
}

abbrev pub decreases-loop-at : goal.decreases-loop-at
decreases-loop-at l = length (rest_from l.at (preorder l.ctx.tree l.root))
