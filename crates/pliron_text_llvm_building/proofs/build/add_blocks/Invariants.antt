-- No operation is made, and the sheet keeps what it has.
use Rattle.pliron_text_llvm_sheets.specs.Sheets.{KeepsSheet}
use Rattle.std.proofs.Common.{◌≡◌}
use Rattle.pliron_text_llvm_building.proofs.build.add_blocks.Given as goal

abbrev pub invariant-loop-number : goal.invariant-loop-number
invariant-loop-number l = (l.ctx.tree.operations ≡ l.fn.ctx.tree.operations) × KeepsSheet l.fn.sheet l.sheet
