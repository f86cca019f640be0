-- Forms of statements.
use Rattle.std.specs.Prelude.{◌≡◌, ◌-◌, ℕ, false, List, length, map, drop, take, slice_range, count_by}
use Rattle.std.specs.List.{list_any}
use Rattle.pliron_text_llvm_syntax.specs.declared.forms.Hole.{Hole}
use Rattle.pliron_text_llvm_syntax.specs.Forms.{is_hole_byte, bytes_of_hole, AreHoles, form_behind, text_of_form}
use Rattle.pliron_text_llvm_reader.specs.declared.body.BodyStatement.{BodyStatement}

-- the operands and successors of a statement, among those of its body
abbrev pub holes_of_statement : List Hole → BodyStatement → List Hole
holes_of_statement holes line = slice_range holes line.first_hole line.end_hole

-- the text up to the end of a statement
abbrev pub text_up_to : List ℕ → BodyStatement → List ℕ
text_up_to text line = take line.span.end text

-- from this byte on the holes are in order and don't overlap, and no byte stands for a hole
abbrev pub HasForm : List ℕ → ℕ → List Hole → Type 0
HasForm text start holes = AreHoles text start holes × (list_any is_hole_byte (drop start text) ≡ false)

-- the text from this byte on with a mark for each of the holes: filled with what they have it is that text again, and it
-- has no other marks
pub record IsForm (text : List ℕ) (start : ℕ) (holes : List Hole) (form : List ℕ) : Type 0 where
  pub exact : form ≡ form_behind text start holes
  pub whole : text_of_form form (map (bytes_of_hole text) holes) ≡ drop start text
  pub marks : count_by is_hole_byte form ≡ length holes

-- the hole in the text from this byte on
abbrev pub moved_hole : ℕ → Hole → Hole
moved_hole start hole =
    record { kind = hole.kind; span = record { start = hole.span.start - start; end = hole.span.end - start } }
