-- What is made so far is of the text, and the sheet keeps what it has.
use Rattle.pliron_text_llvm_sheets.specs.Sheets.{KeepsSheet}
use Rattle.pliron_text_llvm_building.specs.Additions.{AddsText}
use Rattle.pliron_text_llvm_building.proofs.build.add_undefined_of.Given as goal

abbrev pub invariant-loop-number : goal.invariant-loop-number
invariant-loop-number l = AddsText l.fn.ctx.tree l.ctx.tree × KeepsSheet l.fn.sheet l.sheet
