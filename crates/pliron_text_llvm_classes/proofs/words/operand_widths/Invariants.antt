-- The widths so far, and behind them those of the words that are left.
use Rattle.std.proofs.Common.{◌≡◌, ◌++◌, drop, map}
use Rattle.pliron_text_llvm_classes.specs.FormWords.{widths_from}
use Rattle.pliron_text_llvm_classes.proofs.words.operand_widths.Given as goal

abbrev pub invariant-loop-number : goal.invariant-loop-number
invariant-loop-number l =
    l.widths.items ++ widths_from l.width (drop l.number (map (λ word. word.now) l.words)) ≡ widths_from 0 (map (λ word. word.now) l.words)
