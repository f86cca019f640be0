use Rattle.std.proofs.Common.{◌≡◌, ℕ, length, Some}
use Rattle.pliron_core.specs.Tree.{IsWithin}
use Rattle.pliron_core.specs.Walks.{preorder}
use Rattle.pliron_core.specs.WalkSteps.{rest_from}
use Rattle.pliron_opt_rotate.proofs.headers.headers_inside.Given as goal

abbrev pub invariant-loop-at : goal.invariant-loop-at
invariant-loop-at l = (k : ℕ) → l.at ≡ Some k → IsWithin l.ctx.tree l.root k

abbrev pub decreases-loop-at : goal.decreases-loop-at
decreases-loop-at l = length (rest_from l.at (preorder l.ctx.tree l.root))
