-- The line and column of a byte of a text.
use Rattle.std.specs.Prelude.{◌==◌, ◌+◌, ℕ, Bool, List, length, reverse, take_while, count_by, not}

abbrev pub is_line_end : ℕ → Bool
is_line_end byte = byte == 10

-- the line of what comes behind these bytes, counted from 1
abbrev pub line_behind : List ℕ → ℕ
line_behind before = 1 + count_by is_line_end before

-- its column, counted from 1: one more than the number of bytes between it and the last end of a line before it, or the
-- text's start
abbrev pub column_behind : List ℕ → ℕ
column_behind before = 1 + length (take_while (λ byte. not (is_line_end byte)) (reverse before))
