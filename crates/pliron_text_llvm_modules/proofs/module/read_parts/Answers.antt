use Rattle.std.proofs.Common.{arith}
use Rattle.pliron_text_llvm_modules.proofs.ModuleLemmas.{parts_none, readings_none, parts_more, readings_more}
use Rattle.pliron_text_llvm_modules.proofs.module.read_parts.Goals as goal

pub loop-part-init : goal.loop-part-init
loop-part-init c = (parts_none c.args.read.now.items c.args.parts.now c.requires.empty, readings_none c.args.text.now c.args.read.now.items c.requires.empty)

pub loop-part-preserved : goal.loop-part-preserved
loop-part-preserved c = (
  parts_more c.args.parts.now c.loop-part.part-index _ _ _ _ (omega arith) c.loop-part.invariant.0 c.in_ok-reading.ensures.part c.in_ok-push.ensures.items,
  readings_more c.args.text.now _ _ _ c.loop-part.invariant.1 c.in_ok-reading.ensures.read c.in_ok-push.ensures.items,
)
