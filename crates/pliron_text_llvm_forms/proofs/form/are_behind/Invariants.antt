-- The holes are in order if those that are left are, behind this byte.
use Rattle.std.proofs.Common.{◌↔◌, drop}
use Rattle.pliron_text_llvm_syntax.specs.Forms.{AreHoles}
use Rattle.pliron_text_llvm_forms.proofs.form.are_behind.Given as goal

abbrev pub invariant-loop-hole : goal.invariant-loop-hole
invariant-loop-hole l = AreHoles l.text l.at (drop l.hole-index l.holes) ↔ AreHoles l.text l.start l.holes
