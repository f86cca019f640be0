use Rattle.pliron_text_llvm_syntax.proofs.FormLemmas.{fill_put, fill_end}
use Rattle.pliron_text_llvm_syntax.proofs.forms.fill.Goals as goal

pub loop-byte-preserved : goal.loop-byte-preserved
loop-byte-preserved c = fill_put c.args.form.now _ c.loop-byte.out.items c.text_at.result.now c.piece.result.now _ _ c.loop-byte.byte-index c.loop-byte.next c.num_text-next.result c.loop-byte-test.true c.loop-byte.invariant.0 c.loop-byte.invariant.1 c.text_at.ensures c.piece.ensures c.in_ok-extend_from_slice.ensures.items c.num_text-next.ensures.exact

pub returns : goal.returns
returns c = fill_end c.args.form.now c.loop-byte.byte-index _ c.loop-byte.out.items _ c.loop-byte-test.false c.loop-byte.invariant.1
