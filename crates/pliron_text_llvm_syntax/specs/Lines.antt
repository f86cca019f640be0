-- Lines of a body.
use Rattle.std.specs.Prelude.{◌<◌, ◌≤◌, ℕ, List, [], ◌∷◌}
use Rattle.pliron_text_llvm_syntax.specs.declared.lines.LineText.{LineText}
use Rattle.pliron_text_llvm_syntax.specs.declared.lines.LineText.TheVariants.{Label, Statement}
use Rattle.pliron_text_llvm_syntax.specs.declared.tokens.ByteSpan.{ByteSpan}
use Rattle.pliron_text_llvm_syntax.specs.Lexing.{AreBlanks}

-- where a line is
abbrev pub span_of_line : LineText → ByteSpan
span_of_line (Label span) = span
span_of_line (Statement span) = span

-- lines between `start` and `end`, in their order; none is empty
abbrev pub AreLines : ℕ → ℕ → List LineText → Type 0
AreLines start end [] = start ≤ end
AreLines start end (line ∷ lines) =
    (start ≤ (span_of_line line).start)
    × ((span_of_line line).start < (span_of_line line).end)
    × AreLines (span_of_line line).end end lines

-- between `start` and `end` only blanks and comments are outside the lines
abbrev pub AreGaps : List ℕ → ℕ → ℕ → List LineText → Type 0
AreGaps text start end [] = AreBlanks text start end
AreGaps text start end (line ∷ lines) =
    AreBlanks text start (span_of_line line).start × AreGaps text (span_of_line line).end end lines
