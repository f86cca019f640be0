-- The sheet keeps what it has.
use Rattle.pliron_text_llvm_sheets.specs.Sheets.{KeepsSheet}
use Rattle.pliron_text_llvm_plans.proofs.operations.plan_statements.Given as goal

abbrev pub invariant-loop-statement : goal.invariant-loop-statement
invariant-loop-statement l = KeepsSheet l.fn.sheet l.sheet
