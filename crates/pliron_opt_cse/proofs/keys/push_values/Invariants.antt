use Rattle.std.proofs.Common.{◌≡◌, ◌++◌, take}
use Rattle.pliron_core.specs.Tree.{operands_of}
use Rattle.pliron_opt_cse.proofs.keys.push_values.Given as goal

abbrev pub invariant-loop-i : goal.invariant-loop-i
invariant-loop-i l = l.words.items ≡ l.fn.words.items ++ take l.i (operands_of l.ctx.tree l.op)
