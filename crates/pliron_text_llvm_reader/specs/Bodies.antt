-- Lines of a body.
use Rattle.std.specs.Prelude.{◌≡◌, ℕ, List, [], ◌∷◌, ◌++◌, length, take, if◌then◌else◌}
use Rattle.pliron_text_llvm_syntax.specs.declared.lines.LineText.{LineText}
use Rattle.pliron_text_llvm_syntax.specs.declared.lines.LineText.TheVariants.{Label as LabelText, Statement as StatementText}
use Rattle.pliron_text_llvm_syntax.specs.declared.tokens.ByteSpan.{ByteSpan}
use Rattle.pliron_text_llvm_reader.specs.declared.blocks.LineRole.{LineRole}
use Rattle.pliron_text_llvm_reader.specs.declared.blocks.LineRole.TheVariants.{Label as LabelRole, Plain, Terminator}
use Rattle.pliron_text_llvm_reader.specs.declared.body.BodyLine.{BodyLine}
use Rattle.pliron_text_llvm_reader.specs.declared.body.BodyLine.TheVariants.{Label, Statement}
use Rattle.pliron_text_llvm_reader.specs.declared.body.BodyStatement.{BodyStatement}
use Rattle.pliron_text_llvm_reader.specs.declared.body.BodyStop.{BodyStop}
use Rattle.pliron_text_llvm_reader.specs.declared.body.BodyStop.TheVariants.{Kept as KeptAt, Broken as BrokenText}
use Rattle.pliron_text_llvm_reader.specs.declared.stop.StatementStop.{StatementStop}
use Rattle.pliron_text_llvm_reader.specs.declared.stop.StatementStop.TheVariants.{Kept, Broken}
use Rattle.pliron_text_llvm_syntax.specs.declared.forms.Hole.{Hole}
use Rattle.pliron_text_llvm_reader.specs.Rows.{IsStatementRow}
use Rattle.pliron_text_llvm_reader.specs.Statements.{IsStatementOf}

-- where a line is
abbrev pub span_of_body_line : BodyLine → ByteSpan
span_of_body_line (Label span) = span
span_of_body_line (Statement line) = line.span

-- the line that was read
abbrev pub line_of : BodyLine → LineText
line_of (Label span) = LabelText span
line_of (Statement line) = StatementText line.span

-- what a line is for its block: the table says which statements end one
abbrev pub role_of_line : BodyLine → LineRole
role_of_line (Label span) = LabelRole
role_of_line (Statement line) = if line.statement.row.is_terminator then Terminator else Plain

-- a statement of the text that is this span
abbrev pub IsStatementLine : List ℕ → ByteSpan → BodyStatement → Type 0
IsStatementLine text span line = (line.span ≡ span) × IsStatementOf (take span.end text) span.start line.statement

-- what stops a statement stops the body at its place
abbrev pub stop_at : ℕ → StatementStop → BodyStop
stop_at place (Kept reason) = KeptAt place reason
stop_at place (Broken fault) = BrokenText fault

-- the statement is the row of its text, and its operands and successors come behind those before
pub record AddsRow (text : List ℕ) (line : BodyStatement) (before after : List Hole) : Type 0 where
  pub own : List Hole
  pub added : after ≡ before ++ own
  pub first : line.first_hole ≡ length before
  pub last : line.end_hole ≡ length after
  pub row : IsStatementRow (take line.span.end text) line.span.start line.statement own

-- a label has no operands and successors
abbrev pub AddsLine : List ℕ → BodyLine → List Hole → List Hole → Type 0
AddsLine text (Label span) before after = after ≡ before
AddsLine text (Statement line) before after = AddsRow text line before after

-- each statement among the lines is the row of its text, and these are the operands and successors of all of them
pub data AreRows (text : List ℕ) : List BodyLine → List Hole → Type 0 where
  Nothing : AreRows text [] []
  Behind : {lines : List BodyLine} {holes : List Hole} (line : BodyLine) (after : List Hole)
      → AreRows text lines holes → AddsLine text line holes after → AreRows text (lines ++ line ∷ []) after
