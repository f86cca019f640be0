-- What is behind the first `to` of the words that are left.
use Rattle.std.proofs.Common.{◌≡◌, false, drop, map}
use Rattle.pliron_text_llvm_classes.specs.FormWords.{word_behind_to}
use Rattle.pliron_text_llvm_classes.proofs.words.word_behind_to.Given as goal

abbrev pub invariant-loop-number : goal.invariant-loop-number
invariant-loop-number l =
    word_behind_to l.is_behind (drop l.number (map (λ word. word.now) l.words)) ≡ word_behind_to false (map (λ word. word.now) l.words)
