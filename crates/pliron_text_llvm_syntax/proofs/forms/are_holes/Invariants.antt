-- If the holes that are left are in order behind this byte, all are.
use Rattle.std.proofs.Common.{drop}
use Rattle.pliron_text_llvm_syntax.specs.Forms.{AreHoles}
use Rattle.pliron_text_llvm_syntax.proofs.forms.are_holes.Given as goal

abbrev pub invariant-loop-hole : goal.invariant-loop-hole
invariant-loop-hole l = AreHoles l.text l.at (drop l.hole-index l.holes) → AreHoles l.text 0 l.holes
