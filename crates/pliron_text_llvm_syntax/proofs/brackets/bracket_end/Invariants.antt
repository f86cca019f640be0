-- What is open here is all that is still open of what was.
use Rattle.std.proofs.Common.{◌≤◌, ◌-◌, length}
use Rattle.pliron_text_llvm_syntax.proofs.BracketLemmas.{Closes}
use Rattle.pliron_text_llvm_syntax.proofs.brackets.bracket_end.Given as goal

abbrev pub invariant-loop-end : goal.invariant-loop-end
invariant-loop-end l =
    (l.at ≤ l.end) × (l.end ≤ length l.text) × Closes l.text l.initial.stack.items l.at l.stack.items l.end

abbrev pub decreases-loop-end : goal.decreases-loop-end
decreases-loop-end l = length l.text - l.end
