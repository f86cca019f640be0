-- How messages begin.
use Rattle.std.proofs.Common.{◌≡◌, ℕ, List, [], ◌∷◌, ◌++◌, codes, ap, ◌∙◌}
use Rattle.pliron_text.specs.Beginnings.{BeginsWith}
use Rattle.pliron_show_places.specs.Messages.{heading}

-- what is written behind a heading
pub begins : (severity wrong first rest message : List ℕ) → first ≡ severity ++ (codes ": " ++ (wrong ++ codes "\n")) → message ≡ first ++ rest → BeginsWith message (heading severity wrong)
begins severity wrong first rest message is e = (rest, e ∙ ap (λ x. x ++ rest) is)
