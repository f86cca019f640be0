-- What is printed so far, and behind it the parts that are left.
use Rattle.std.proofs.Common.{◌≡◌, ◌≤◌, ◌++◌, map, drop}
use Rattle.pliron_text_llvm_modules.specs.Modules.{printed_from}
use Rattle.pliron_text_llvm_modules.proofs.print.print_module.Given as goal

abbrev pub invariant-loop-part : goal.invariant-loop-part
invariant-loop-part l =
    (l.number ≤ l.part-index)
    × (l.printed.items ++ printed_from l.text (map (λ text. text.now) l.texts) l.number (drop l.part-index l.parts)
    ≡ printed_from l.text (map (λ text. text.now) l.texts) 0 l.parts)
