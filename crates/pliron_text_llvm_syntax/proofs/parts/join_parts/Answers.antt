use Rattle.pliron_text_llvm_syntax.proofs.PartLemmas.{part_within, part_joined}
use Rattle.pliron_text_llvm_syntax.proofs.parts.join_parts.Goals as goal

pub bytes_of-requires-clause-within : goal.bytes_of-requires-clause-within
bytes_of-requires-clause-within c = part_within c.args.text.now c.args.parts.now _ c.loop-part.part-index _ c.span.result c.span.ensures c.loop-part-test.true c.loop-part.invariant.1

pub loop-part-preserved : goal.loop-part-preserved
loop-part-preserved c = part_joined c.args.text.now c.loop-part.joined.items _ c.bytes_of.result.now c.args.parts.now c.loop-part.part-index _ c.span.result c.span.ensures c.loop-part-test.true c.loop-part.invariant.0 c.loop-part.invariant.1 c.bytes_of.ensures c.in_ok-extend_from_slice.ensures.items
