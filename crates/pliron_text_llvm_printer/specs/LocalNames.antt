-- What values and blocks are called.
use Rattle.std.specs.Prelude.{ℕ, List, [], ◌∷◌, Option, Some, None, unwrap_or, decimal}
use Rattle.pliron_text_llvm_sheets.specs.declared.sheet.LlvmSheet.{LlvmSheet}
use Rattle.pliron_text_llvm_sheets.specs.declared.sheet.ValueNote.{ValueNote}
use Rattle.pliron_text_llvm_sheets.specs.Notes.{note_at}
use Rattle.pliron_text_llvm_sheets.specs.Sheets.{sheet_text, value_notes, block_names}
use Rattle.pliron_text_llvm_printer.specs.declared.names.LocalNumbers.{LocalNumbers}
use Rattle.pliron_text_llvm_printer.specs.LocalNumbers.{number_of_value, number_of_block}

-- the text that has this number, if there is one
abbrev text_with : LlvmSheet → Option ℕ → List ℕ
text_with sheet None = []
text_with sheet (Some number) = unwrap_or (sheet_text sheet number) []

abbrev name_noted : Option ValueNote → Option ℕ
name_noted None = None
name_noted (Some note) = note.name

abbrev value_called : Option ℕ → List ℕ → List ℕ
value_called None read = read
value_called (Some number) read = 37 ∷ decimal number

abbrev block_called : Option ℕ → List ℕ → List ℕ
block_called None read = read
block_called (Some number) read = decimal number

-- a value is called by `%` and its number, or, if it has none, by the name that it has in the sheet
abbrev pub value_name : LlvmSheet → LocalNumbers → ℕ → List ℕ
value_name sheet numbers value = value_called (number_of_value numbers value) (text_with sheet (name_noted (note_at (value_notes sheet) value)))

-- a block by its number, or by the name that it has in the sheet
abbrev pub block_name : LlvmSheet → LocalNumbers → ℕ → List ℕ
block_name sheet numbers block = block_called (number_of_block numbers block) (text_with sheet (note_at (block_names sheet) block))
