use Rattle.std.proofs.Common.{◌∙◌, arith, subst}
use Rattle.pliron_text_llvm_modules.specs.Modules.{module_part_of}
use Rattle.pliron_text_llvm_documents.specs.Documents.{IsOneMore}
use Rattle.pliron_text_llvm_documents.proofs.PartLemmas.{parts_more}
use Rattle.pliron_text_llvm_documents.proofs.functions.build_parts.Goals as goal

pub loop-part-preserved : goal.loop-part-preserved
loop-part-preserved g c = (
  parts_more c.args.text.now c.loop-part.document.sheet.functions c.push_part.new.document.sheet.functions c.loop-part.ctx.tree c.push_part.new.ctx.tree c.args.parts.now c.loop-part.part-index c.part-item.result
      c.loop-part.document.sheet.parts.items c.push_part.new.document.sheet.parts.items (omega arith) c.loop-part.invariant.0 c.in_ok-push_part.ensures.sheet c.in_ok-push_part.ensures.heads
      (subst (λ part. IsOneMore c.args.text.now c.push_part.new.document.sheet.functions c.push_part.new.ctx.tree (module_part_of part) c.loop-part.document.sheet.parts.items c.push_part.new.document.sheet.parts.items)
      c.part-item.is c.in_ok-push_part.ensures.part),
  c.in_ok-push_part.ensures.text ∙ c.loop-part.invariant.1,
)
