-- Texts of functions.
use Rattle.std.specs.Prelude.{◌≡◌, ℕ, List, [], ◌∷◌, ◌++◌, Some}
use Rattle.pliron_core.specs.Tree.{Tree, head_of}
use Rattle.pliron_core.specs.declared.attrs.Head.{Head}
use Rattle.pliron_dialect_mlir.specs.ClassNumbers.{class_of_number}
use Rattle.pliron_dialect_mlir.specs.Heads.{form_in}
use Rattle.pliron_text_llvm_sheets.specs.Sheets.{sheet_text}
use Rattle.pliron_text_llvm_sheets.specs.declared.sheet.LlvmSheet.{LlvmSheet}

-- the operation has a form, which has this text
pub record HasFormText (sheet : LlvmSheet) (tree : Tree) (op : ℕ) (text : List ℕ) : Type 0 where
  pub head : Head
  pub form : ℕ
  pub has_head : head_of tree op ≡ Some head
  pub has_form : form_in (class_of_number head.kind) head.attrs ≡ Some form
  pub has_text : sheet_text sheet form ≡ Some text

-- the form of the function, which was before its body, and then a body in braces
pub record IsFunctionText (sheet : LlvmSheet) (tree : Tree) (function : ℕ) (text : List ℕ) : Type 0 where
  pub header : List ℕ
  pub body : List ℕ
  pub before : HasFormText sheet tree function header
  pub is : text ≡ header ++ (123 ∷ 10 ∷ []) ++ body ++ 125 ∷ []

-- such a text is behind what was there
abbrev pub AppendsFunction : LlvmSheet → Tree → ℕ → List ℕ → List ℕ → Type 0
AppendsFunction sheet tree function before after = (text : List ℕ) × (after ≡ before ++ text) × IsFunctionText sheet tree function text
