use Rattle.pliron_text_mlir_syntax.proofs.NumberLemmas.{LeavesSo}
use Rattle.pliron_text_mlir_syntax.proofs.numbers.hexadecimal.Given as goal

abbrev pub invariant-loop-left : goal.invariant-loop-left
invariant-loop-left l = LeavesSo l.width l.count l.digits l.left l.rest l.cases.items

abbrev pub decreases-loop-left : goal.decreases-loop-left
decreases-loop-left l = l.left
