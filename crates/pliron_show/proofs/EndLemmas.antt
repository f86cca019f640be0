-- What is said of how a run ended, put together.
use Rattle.std.proofs.Common.{◌≡◌, ◌++◌, ℕ, List, ap, ◌∙◌}
use Rattle.pliron_evaluator.specs.declared.evaluator.values.Sight.{Sight}
use Rattle.pliron_show.specs.Ends.{SaysEnd, end_words}

-- the words, and then the rest, come behind the effects
pub says_end : (sight : Sight) (text seen effects words rest : List ℕ) → words ≡ end_words sight → seen ≡ effects ++ words → text ≡ seen ++ rest → SaysEnd sight text
says_end sight text seen effects words rest words-are seen-is is =
    (effects, rest, is ∙ ap (λ s. s ++ rest) seen-is ∙ ap (λ w. effects ++ w ++ rest) words-are)
