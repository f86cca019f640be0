use Rattle.std.proofs.Common.{◌≡◌, ◌++◌, length, reverse}
use Rattle.pliron_opt_sccp.proofs.inside.stack_up.Given as goal

abbrev pub invariant-loop-item : goal.invariant-loop-item
invariant-loop-item g l = l.stack.items ++ reverse l.rest.items ≡ l.initial.stack.items ++ reverse l.fn.items.items

abbrev pub decreases-loop-item : goal.decreases-loop-item
decreases-loop-item g l = length l.rest.items
