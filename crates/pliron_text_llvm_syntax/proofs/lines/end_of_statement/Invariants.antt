use Rattle.std.proofs.Common.{◌≤◌, ◌-◌, length}
use Rattle.pliron_text_llvm_syntax.proofs.lines.end_of_statement.Given as goal

abbrev pub invariant-loop-at : goal.invariant-loop-at
invariant-loop-at l = (l.opcode_end ≤ l.end) × (l.end ≤ l.at) × (l.at ≤ length l.text)

abbrev pub decreases-loop-at : goal.decreases-loop-at
decreases-loop-at l = length l.text - l.at
