-- The form up to here, and behind it that of the holes that are left.
use Rattle.std.proofs.Common.{◌≡◌, ◌++◌, drop}
use Rattle.pliron_text_llvm_syntax.specs.Forms.{AreHoles, form_behind}
use Rattle.pliron_text_llvm_syntax.proofs.forms.cut.Given as goal

abbrev pub invariant-loop-hole : goal.invariant-loop-hole
invariant-loop-hole l =
    AreHoles l.text l.at (drop l.hole-index l.holes)
    × (l.form.items ++ form_behind l.text l.at (drop l.hole-index l.holes) ≡ form_behind l.text 0 l.holes)
