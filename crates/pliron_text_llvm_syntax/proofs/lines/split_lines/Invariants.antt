-- The lines up to here.
use Rattle.std.proofs.Common.{◌≤◌, ◌-◌, length}
use Rattle.pliron_text_llvm_syntax.specs.Lines.{AreLines, AreGaps}
use Rattle.pliron_text_llvm_syntax.proofs.lines.split_lines.Given as goal

abbrev pub invariant-loop-at : goal.invariant-loop-at
invariant-loop-at l = AreLines l.start l.at l.lines.items × AreGaps l.text l.start l.at l.lines.items × (l.at ≤ length l.text)

abbrev pub decreases-loop-at : goal.decreases-loop-at
decreases-loop-at l = length l.text - l.at
