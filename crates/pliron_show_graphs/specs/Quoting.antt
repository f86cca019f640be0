-- Strings of the dot language.
use Rattle.std.specs.Prelude.{◌==◌, ◌++◌, ◌∷◌, [], ℕ, List, if◌then◌else◌}
use Rattle.std.specs.List.{flat_map}

-- a quote and a backslash are written behind a backslash, and so is an l for the end of a line
abbrev pub written_byte : ℕ → List ℕ
written_byte byte = if byte == 34 then 92 ∷ 34 ∷ [] else if byte == 92 then 92 ∷ 92 ∷ [] else if byte == 10 then 92 ∷ 108 ∷ [] else byte ∷ []

-- the text between two quotes
abbrev pub quote : List ℕ → List ℕ
quote text = 34 ∷ (flat_map written_byte text ++ 34 ∷ [])
