-- Whether the word is among those that are left.
use Rattle.std.proofs.Common.{◌≡◌, drop, map}
use Rattle.pliron_text_llvm_classes.specs.StatementClasses.{has_word}
use Rattle.pliron_text_llvm_classes.proofs.words.has_word.Given as goal

abbrev pub invariant-loop-number : goal.invariant-loop-number
invariant-loop-number l =
    has_word (drop l.number (map (λ known. known.now) l.words)) l.word ≡ has_word (map (λ known. known.now) l.words) l.word
