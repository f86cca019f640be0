use Rattle.std.proofs.Common.{◌-◌, length, Option, ℕ}
use Rattle.pliron_core.specs.Tree.{IsWithin}
use Rattle.pliron_core.specs.Walks.{contents, preorder}
use Rattle.pliron_core.specs.WalkSteps.{IsFollowedBy}
use Rattle.pliron_core.proofs.context.walk.Ptr+Operation.next_after.Given as goal

abbrev pub invariant-loop-root : goal.invariant-loop-root
invariant-loop-root l = record {
  within : IsWithin l.ctx.tree l.root l.at;
  same : (o : Option ℕ) → IsFollowedBy (preorder l.ctx.tree l.root) (preorder l.ctx.tree l.at) o → IsFollowedBy (preorder l.ctx.tree l.root) (preorder l.ctx.tree l.fn.self) o;
}

abbrev pub decreases-loop-root : goal.decreases-loop-root
decreases-loop-root l = length l.ctx.tree.operations - length (contents l.ctx.tree l.at)
