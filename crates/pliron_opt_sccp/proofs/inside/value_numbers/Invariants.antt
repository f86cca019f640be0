use Rattle.std.proofs.Common.{length}
use Rattle.pliron_opt_sccp.proofs.Preorder.{IsOwing, owed}
use Rattle.pliron_opt_sccp.proofs.inside.value_numbers.Given as goal

abbrev pub invariant-loop-part : goal.invariant-loop-part
invariant-loop-part l = IsOwing l.ctx.tree l.fn.root l.numbered.keys l.stack.items

abbrev pub decreases-loop-part : goal.decreases-loop-part
decreases-loop-part l = length (owed l.ctx.tree l.stack.items)
