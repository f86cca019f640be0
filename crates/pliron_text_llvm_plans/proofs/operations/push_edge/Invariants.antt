-- The sheet keeps what it has.
use Rattle.pliron_text_llvm_sheets.specs.Sheets.{KeepsSheet}
use Rattle.pliron_text_llvm_plans.proofs.operations.push_edge.Given as goal

abbrev pub invariant-loop-i : goal.invariant-loop-i
invariant-loop-i l = KeepsSheet l.fn.sheet l.sheet
