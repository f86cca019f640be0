-- Functions as operations.
use Rattle.std.specs.Prelude.{◌≡◌, ℕ, List, Some}
use Rattle.pliron_core.specs.Tree.{Tree, head_of}
use Rattle.pliron_dialect_mlir.specs.declared.kind.Class.TheVariants.{Root}
use Rattle.pliron_dialect_mlir.specs.Heads.{plain_class_head}
use Rattle.pliron_text_llvm_syntax.specs.declared.functions.FunctionText.{FunctionText}
use Rattle.pliron_text_llvm_syntax.specs.Tokens.{bytes_of_span}
use Rattle.pliron_text_llvm_sheets.specs.declared.sheet.LlvmSheet.{LlvmSheet}
use Rattle.pliron_text_llvm_sheets.specs.Sheets.{sheet_text}

-- the bytes of a function before its body
abbrev pub header_of : List ℕ → FunctionText → List ℕ
header_of text function = bytes_of_span text (record { start = function.span.start; end = function.body.start })

-- the operation is the function: its form is what stands before the body
abbrev pub IsFunctionOf : List ℕ → FunctionText → LlvmSheet → Tree → ℕ → Type 0
IsFunctionOf text function sheet t op =
    (number : ℕ) × (head_of t op ≡ Some (plain_class_head Root number)) × (sheet_text sheet number ≡ Some (header_of text function))
