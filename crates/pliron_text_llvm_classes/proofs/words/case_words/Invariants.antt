-- The cases so far, and behind them those of the words that are left.
use Rattle.std.proofs.Common.{◌≡◌, ◌++◌, [], drop, map}
use Rattle.pliron_text_llvm_classes.specs.FormWords.{cases_from}
use Rattle.pliron_text_llvm_classes.proofs.words.case_words.Given as goal

abbrev pub invariant-loop-number : goal.invariant-loop-number
invariant-loop-number l =
    map (λ case. case.now) l.cases.items ++ cases_from l.before (drop l.number (map (λ word. word.now) l.words)) ≡ cases_from [] (map (λ word. word.now) l.words)
