use Rattle.pliron_text_llvm_printer.proofs.ModuleLemmas.{printed_none, printed_more}
use Rattle.pliron_text_llvm_printer.proofs.module.write_parts.Goals as goal

pub loop-part-init : goal.loop-part-init
loop-part-init c = printed_none _ _ c.args.parts.now _ c.requires

pub loop-part-preserved : goal.loop-part-preserved
loop-part-preserved c = printed_more _ _ c.args.parts.now _ c.part-item.result _ _ c.loop-part-test.true c.loop-part.invariant c.part-item.is c.in_ok-write_part.ensures
