use Rattle.std.proofs.Common.{◌≡◌, take}
use Rattle.pliron_core.specs.Tree.{operands_of}
use Rattle.pliron_rewrite_equals.proofs.alike.has_same_operands.Given as goal

abbrev pub invariant-loop-i : goal.invariant-loop-i
invariant-loop-i l = take l.i (operands_of l.fn.ctx.tree l.second) ≡ take l.i (operands_of l.fn.ctx.tree l.first)
