-- The parts up to here.
use Rattle.std.proofs.Common.{◌≡◌, map, take}
use Rattle.pliron_text_llvm_modules.specs.Modules.{module_part_of}
use Rattle.pliron_text_llvm_documents.specs.Documents.{ArePartsOf}
use Rattle.pliron_text_llvm_documents.proofs.functions.build_parts.Given as goal

abbrev pub invariant-loop-part : goal.invariant-loop-part
invariant-loop-part g l =
    ArePartsOf l.text l.document.sheet.functions l.ctx.tree (map module_part_of (take l.part-index l.parts)) l.document.sheet.parts.items
    × (l.document.sheet.text ≡ l.fn.document.sheet.text)
