use Rattle.std.proofs.Common.{◌+◌}
use Rattle.std.specs.Option.{option_map_or}
use Rattle.pliron_rewrite_calls.specs.CopySteps.{IsDropping}
use Rattle.pliron_rewrite_calls.proofs.erasing.drop_new_uses.Given as goal

abbrev pub invariant-loop-at : goal.invariant-loop-at
invariant-loop-at g l = IsDropping g.t l.ctx.tree l.fn.region l.last l.at

abbrev pub decreases-loop-at : goal.decreases-loop-at
decreases-loop-at g l = option_map_or (λ b. b + 1) l.at 0
