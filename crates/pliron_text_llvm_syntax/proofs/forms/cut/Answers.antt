use Rattle.pliron_text_llvm_syntax.proofs.FormLemmas.{hole_begins, hole_within, hole_cut, cut_within, cut_end, cut_whole, cut_marks}
use Rattle.pliron_text_llvm_syntax.proofs.forms.cut.Goals as goal

pub bytes_of-before-requires-clause-ordered : goal.bytes_of-before-requires-clause-ordered
bytes_of-before-requires-clause-ordered c = hole_begins c.args.text.now c.args.holes.now c.loop-hole.at c.loop-hole.hole-index _ c.loop-hole-test.true c.loop-hole.invariant.0

pub bytes_of-before-requires-clause-within : goal.bytes_of-before-requires-clause-within
bytes_of-before-requires-clause-within c = hole_within c.args.text.now c.args.holes.now c.loop-hole.at c.loop-hole.hole-index _ c.loop-hole-test.true c.loop-hole.invariant.0

pub loop-hole-preserved : goal.loop-hole-preserved
loop-hole-preserved c = hole_cut c.args.text.now c.loop-hole.form.items c.bytes_of-before.result.now c.extend_from_slice.new.self.items _ _ c.args.holes.now c.loop-hole.at c.loop-hole.hole-index c.mark.result _ c.loop-hole-test.true c.loop-hole.invariant.0 c.loop-hole.invariant.1 c.bytes_of-before.ensures c.in_ok-extend_from_slice.ensures.items c.mark.ensures c.in_ok-push.ensures.items

pub bytes_of-behind-requires-clause-ordered : goal.bytes_of-behind-requires-clause-ordered
bytes_of-behind-requires-clause-ordered c = cut_within c.args.text.now c.args.holes.now c.loop-hole.at c.loop-hole.hole-index c.loop-hole-test.false c.loop-hole.invariant.0

pub returns-clause-form : goal.returns-clause-form
returns-clause-form c = cut_end c.args.text.now c.loop-hole.form.items c.bytes_of-behind.result.now _ _ c.args.holes.now c.loop-hole.at c.loop-hole.hole-index c.loop-hole-test.false c.loop-hole.invariant.1 c.bytes_of-behind.ensures c.in_ok-extend_from_slice-2.ensures.items

pub returns-clause-whole : goal.returns-clause-whole
returns-clause-whole c = cut_whole c.args.text.now _ c.args.holes.now (returns-clause-form c) c.requires

pub returns-clause-marks : goal.returns-clause-marks
returns-clause-marks c = cut_marks c.args.text.now _ c.args.holes.now (returns-clause-form c)
