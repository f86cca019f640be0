-- The parts are the text up to here.
use Rattle.std.proofs.Common.{◌≤◌, ◌-◌, length}
use Rattle.std.specs.List.{All}
use Rattle.pliron_text_llvm_syntax.specs.Parts.{AreConsecutive, IsRawOrFunction}
use Rattle.pliron_text_llvm_syntax.proofs.parts.split_into.Given as goal

abbrev pub invariant-loop-at : goal.invariant-loop-at
invariant-loop-at l =
    AreConsecutive 0 l.at l.parts.items × (l.at ≤ length l.text) × All (IsRawOrFunction l.text) l.parts.items

abbrev pub decreases-loop-at : goal.decreases-loop-at
decreases-loop-at l = length l.text - l.at
