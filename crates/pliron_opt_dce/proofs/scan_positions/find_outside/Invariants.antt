use Rattle.std.proofs.Common.{◌≤◌, length}
use Rattle.pliron_core.specs.Tree.{uses_of}
use Rattle.pliron_opt_dce.proofs.scan_positions.find_outside.Given as goal

abbrev pub invariant-loop-left : goal.invariant-loop-left
invariant-loop-left l = l.left ≤ length (uses_of l.ctx.value_uses l.value)

abbrev pub decreases-loop-left : goal.decreases-loop-left
decreases-loop-left l = l.left
