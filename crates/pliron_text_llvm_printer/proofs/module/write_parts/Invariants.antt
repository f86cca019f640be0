use Rattle.std.proofs.Common.{take}
use Rattle.pliron_text_llvm_parts.specs.PrintedParts.{ArePrintedParts}
use Rattle.pliron_text_llvm_printer.specs.PrintedFunctions.{IsFunctionText}
use Rattle.pliron_text_llvm_printer.proofs.module.write_parts.Given as goal

abbrev pub invariant-loop-part : goal.invariant-loop-part
invariant-loop-part l = ArePrintedParts l.sheet.text.items (IsFunctionText l.sheet.functions l.ctx.tree) (take l.part-index l.parts) l.out.items
