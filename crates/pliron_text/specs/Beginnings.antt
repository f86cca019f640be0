-- Texts that begin with a text.
use Rattle.std.specs.Prelude.{◌≡◌, ◌++◌, ℕ, List}

-- what comes behind it is open
abbrev pub BeginsWith : (text start : List ℕ) → Type 0
BeginsWith text start = (rest : List ℕ) × (text ≡ start ++ rest)
