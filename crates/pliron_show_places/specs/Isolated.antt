-- A part of a text, with blanks for the rest.
use Rattle.std.specs.Prelude.{◌==◌, ◌++◌, ℕ, List, map, take, drop, if◌then◌else◌}

-- ends of lines stay
abbrev pub blank_of : ℕ → ℕ
blank_of byte = if byte == 10 then 10 else 32

abbrev pub part_alone : (start len : ℕ) → List ℕ → List ℕ
part_alone start len text = map blank_of (take start text) ++ (take len (drop start text) ++ map blank_of (drop len (drop start text)))
