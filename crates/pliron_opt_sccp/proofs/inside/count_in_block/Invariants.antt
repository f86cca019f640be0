use Rattle.std.proofs.Common.{ℕ, length}
use Rattle.pliron_core.specs.Tree.{body_of}
use Rattle.pliron_core.specs.WalkSteps.{rest_from}
use Rattle.pliron_opt_sccp.proofs.Going.{IsWalk}
use Rattle.pliron_opt_sccp.proofs.inside.count_in_block.Given as goal

abbrev pub invariant-loop-at : goal.invariant-loop-at
invariant-loop-at l = IsWalk {S = ℕ} (λ ks p q. Unit {0}) (body_of l.ctx.tree l.fn.block) l.at 0 0

abbrev pub decreases-loop-at : goal.decreases-loop-at
decreases-loop-at l = length (rest_from l.at (body_of l.ctx.tree l.fn.block))
