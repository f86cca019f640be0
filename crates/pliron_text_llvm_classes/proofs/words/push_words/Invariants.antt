-- The words among the parts before this one.
use Rattle.std.proofs.Common.{◌≡◌, take, map}
use Rattle.std.specs.Prelude.{filter}
use Rattle.pliron_text_llvm_classes.specs.FormWords.{has_bytes}
use Rattle.pliron_text_llvm_classes.proofs.words.push_words.Given as goal

abbrev pub invariant-loop-number : goal.invariant-loop-number
invariant-loop-number l = map (λ word. word.now) l.words.items ≡ filter has_bytes (take l.number (map (λ part. part.now) l.parts))
