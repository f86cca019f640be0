-- What layout keeps.
use Rattle.std.specs.Prelude.{◌==◌, ◌||◌, ℕ, Bool, List, [], ◌∷◌, ◌++◌, if◌then◌else◌}

-- a space, a tab or an end of a line
abbrev pub is_blank : ℕ → Bool
is_blank byte = (byte == 32) || ((byte == 10) || ((byte == 9) || (byte == 13)))

-- a brace, a semicolon or a colon, which is a word of its own
abbrev pub is_notation_mark : ℕ → Bool
is_notation_mark byte = (byte == 123) || ((byte == 125) || ((byte == 59) || (byte == 58)))

-- the words of a text that ended, and the one that goes on
pub record Words : Type 0 where
  pub ended : List (List ℕ)
  pub last : List ℕ

abbrev pub no_words : Words
no_words = record { ended = []; last = [] }

abbrev pub unless_empty : List ℕ → List (List ℕ)
unless_empty [] = []
unless_empty (byte ∷ word) = (byte ∷ word) ∷ []

abbrev pub all_words : Words → List (List ℕ)
all_words words = words.ended ++ unless_empty words.last

-- the same with the last one at its end
abbrev pub after_blank : Words → Words
after_blank words = record { ended = all_words words; last = [] }

-- the words of a text with one byte more
abbrev pub words_with_byte : Words → ℕ → Words
words_with_byte words byte = if is_blank byte then after_blank words else if is_notation_mark byte then record { ended = all_words words ++ (byte ∷ []) ∷ []; last = [] } else record { ended = words.ended; last = words.last ++ byte ∷ [] }

abbrev pub with_bytes : Words → List ℕ → Words
with_bytes words [] = words
with_bytes words (byte ∷ more) = with_bytes (words_with_byte words byte) more

-- the words of a text, in order: what blanks and marks part, and the marks
abbrev pub words_of : List ℕ → List (List ℕ)
words_of text = all_words (with_bytes no_words text)
