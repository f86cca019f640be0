-- What is said of how a run ended.
use Rattle.std.specs.Prelude.{◌≡◌, ◌++◌, ℕ, List, codes}
use Rattle.pliron_evaluator.specs.declared.evaluator.values.Sight.{Sight}
use Rattle.pliron_evaluator.specs.declared.evaluator.values.Sight.TheVariants.{Ended, Trapped, Reached}

-- how the line begins that says how a run ended
abbrev pub end_words : Sight → List ℕ
end_words (Ended _ _) = codes "ended with"
end_words (Trapped _) = codes "trapped"
end_words (Reached _) = codes "made no further move: steps or the world's answers were used up"

-- the text says so behind the effects
abbrev pub SaysEnd : Sight → (text : List ℕ) → Type 0
SaysEnd sight text = (effects rest : List ℕ) × (text ≡ effects ++ end_words sight ++ rest)
