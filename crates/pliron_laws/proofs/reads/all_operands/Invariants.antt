use Rattle.std.proofs.Common.{◌≡◌, take}
use Rattle.pliron_core.specs.Tree.{operands_of}
use Rattle.pliron_laws.proofs.reads.all_operands.Given as goal

abbrev pub invariant-loop-j : goal.invariant-loop-j
invariant-loop-j l = l.values.items ≡ take l.j (operands_of l.ctx.tree l.op)
