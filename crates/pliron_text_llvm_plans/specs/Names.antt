-- Names of values and blocks.
use Rattle.std.specs.Prelude.{◌≡◌, ◌-◌, ℕ, List, Option, Some}
use Rattle.pliron_text_llvm_syntax.specs.declared.tokens.ByteSpan.{ByteSpan}
use Rattle.pliron_text_llvm_syntax.specs.Tokens.{bytes_of_span}
use Rattle.pliron_text_llvm_reader.specs.declared.body.BodyLine.{BodyLine}
use Rattle.pliron_text_llvm_reader.specs.declared.body.BodyLine.TheVariants.{Label}
use Rattle.pliron_text_llvm_names.specs.declared.definitions.LocalDefinition.{LocalDefinition}
use Rattle.pliron_text_llvm_sheets.specs.declared.sheet.LlvmSheet.{LlvmSheet}
use Rattle.pliron_text_llvm_sheets.specs.Sheets.{sheet_text}

-- the text of this number is the name that the definition is written with
abbrev pub IsNameOf : List ℕ → LlvmSheet → Option LocalDefinition → ℕ → Type 0
IsNameOf text sheet definition number =
    (found : LocalDefinition) × (span : ByteSpan)
    × (definition ≡ Some found) × (found.name ≡ Some span) × (sheet_text sheet number ≡ Some (bytes_of_span text span))

-- the bytes of a label before its `:`
abbrev pub bytes_without_colon : List ℕ → ByteSpan → List ℕ
bytes_without_colon text span = bytes_of_span text (record { start = span.start; end = span.end - 1 })

-- the text of this number is the label with which the block begins
abbrev pub IsBlockNameOf : List ℕ → LlvmSheet → Option BodyLine → ℕ → Type 0
IsBlockNameOf text sheet line number =
    (span : ByteSpan) × (line ≡ Some (Label span)) × (sheet_text sheet number ≡ Some (bytes_without_colon text span))
