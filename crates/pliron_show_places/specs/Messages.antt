-- How messages begin.
use Rattle.std.specs.Prelude.{ℕ, List, [], ◌∷◌, ◌++◌, codes}

-- the first line of a message: its severity, and what is wrong
abbrev pub heading : (severity wrong : List ℕ) → List ℕ
heading severity wrong = severity ++ (codes ": " ++ (wrong ++ 10 ∷ []))
