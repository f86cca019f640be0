-- Lines in their order.
use Rattle.std.proofs.Common.{◌≡◌, ℕ, ◌<◌, ◌≤◌, List, [], ◌∷◌, ◌++◌, sym, subst, arith}
use Rattle.pliron_text_llvm_syntax.specs.declared.lines.LineText.{LineText}
use Rattle.pliron_text_llvm_syntax.specs.Lines.{span_of_line, AreLines, AreGaps}
use Rattle.pliron_text_llvm_syntax.specs.Lexing.{AreBlanks}
use Rattle.pliron_text_llvm_syntax.specs.Lexing.AreBlanks.{Nothing}
use Rattle.pliron_text_llvm_syntax.proofs.BlankLemmas.{blanks_join}

-- one more line behind the last
pub lines_append : (start at : ℕ) (lines : List LineText) (line : LineText) → AreLines start at lines → at ≤ (span_of_line line).start → (span_of_line line).start < (span_of_line line).end → AreLines start (span_of_line line).end (lines ++ line ∷ [])
lines_append start at [] line h behind some = ((let le : start ≤ at = h in omega (arith, le, behind)), some, omega arith)
lines_append start at (first ∷ lines) line h behind some = (h.0, h.1, lines_append (span_of_line first).end at lines line h.2 behind some)

-- they may end later
pub lines_wider : (start at end : ℕ) (lines : List LineText) → AreLines start at lines → at ≤ end → AreLines start end lines
lines_wider start at end [] h le = omega (arith, h, le)
lines_wider start at end (line ∷ lines) h le = (h.0, h.1, lines_wider (span_of_line line).end at end lines h.2 le)

-- no line
pub lines_none : (start : ℕ) (lines : List LineText) → lines ≡ [] → AreLines start start lines
lines_none start lines e = let same : start ≤ start = omega arith in subst (AreLines start start) (sym e) same

-- one more line behind blanks
pub gaps_append : (text : List ℕ) (start at : ℕ) (lines : List LineText) (line : LineText) → AreGaps text start at lines → AreBlanks text at (span_of_line line).start → AreGaps text start (span_of_line line).end (lines ++ line ∷ [])
gaps_append text start at [] line h blanks = (blanks_join text start at (span_of_line line).start h blanks, Nothing)
gaps_append text start at (first ∷ lines) line h blanks = (h.0, gaps_append text (span_of_line first).end at lines line h.1 blanks)

-- nothing but blanks behind the last line
pub gaps_end : (text : List ℕ) (start at end : ℕ) (lines : List LineText) → AreGaps text start at lines → AreBlanks text at end → AreGaps text start end lines
gaps_end text start at end [] h blanks = blanks_join text start at end h blanks
gaps_end text start at end (line ∷ lines) h blanks = (h.0, gaps_end text (span_of_line line).end at end lines h.1 blanks)

-- nothing behind the last line
pub gaps_over : (text : List ℕ) (start at end : ℕ) (lines : List LineText) → AreGaps text start at lines → end ≤ at → at ≤ end → AreGaps text start end lines
gaps_over text start at end lines h past within = subst (λ n. AreGaps text start n lines) (let e : at ≡ end = omega (arith, past, within) in e) h

-- no line
pub gaps_none : (text : List ℕ) (start : ℕ) (lines : List LineText) → lines ≡ [] → AreGaps text start start lines
gaps_none text start lines e = subst (AreGaps text start start) (sym e) Nothing

-- what splits a body into lines
pub ruleset line_steps = (lines_append, lines_wider, lines_none, gaps_append, gaps_end, gaps_over, gaps_none)
