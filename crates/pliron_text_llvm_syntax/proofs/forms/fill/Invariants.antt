-- What is filled so far, and behind it the rest of the form with the texts that are left.
use Rattle.std.proofs.Common.{◌≡◌, ◌≤◌, ◌++◌, drop, map}
use Rattle.pliron_text_llvm_syntax.specs.Forms.{text_of_form}
use Rattle.pliron_text_llvm_syntax.proofs.forms.fill.Given as goal

abbrev pub invariant-loop-byte : goal.invariant-loop-byte
invariant-loop-byte l =
    (l.next ≤ l.byte-index)
    × (l.out.items ++ text_of_form (drop l.byte-index l.form) (drop l.next (map (λ text. text.now) l.texts))
    ≡ text_of_form l.form (map (λ text. text.now) l.texts))
