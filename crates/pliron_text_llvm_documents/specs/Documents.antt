-- What of a module is in a tree, and what is kept as it is written.
use Rattle.std.specs.Prelude.{◌≡◌, ◌++◌, ℕ, List, [], ◌∷◌, Some, length, flat_map, ⊤}
use Rattle.pliron_core.specs.declared.attrs.Head.{Head}
use Rattle.pliron_core.specs.Tree.{Tree, head_of, regions_of, layout_of, body_of}
use Rattle.pliron_text_llvm_syntax.specs.declared.functions.FunctionText.{FunctionText}
use Rattle.pliron_text_llvm_syntax.specs.declared.parts.ModulePart.{ModulePart}
use Rattle.pliron_text_llvm_syntax.specs.declared.parts.ModulePart.TheVariants.{Raw as RawText, Function as FunctionPart}
use Rattle.pliron_text_llvm_syntax.specs.Parts.{span_of_part, AreConsecutive}
use Rattle.pliron_text_llvm_sheets.specs.declared.sheet.LlvmSheet.{LlvmSheet}
use Rattle.pliron_text_llvm_parts.specs.declared.parts.ModuleSheet.{ModuleSheet}
use Rattle.pliron_text_llvm_parts.specs.declared.parts.SheetPart.{SheetPart}
use Rattle.pliron_text_llvm_parts.specs.declared.parts.SheetPart.TheVariants.{Raw, Function}
use Rattle.pliron_text_llvm_building.specs.Functions.{IsFunctionOf}
use Rattle.pliron_text_llvm_documents.specs.declared.functions.DocumentFunction.{DocumentFunction}
use Rattle.pliron_text_llvm_documents.specs.declared.functions.DocumentFunction.TheVariants.{Tree as TreeFunction, Kept}

-- ---- parts

-- a part that is kept as it is written has its span; another one is a function, and the operation is that function
abbrev pub IsSheetPartOf : List ℕ → LlvmSheet → Tree → ModulePart → SheetPart → Type 0
IsSheetPartOf text sheet t part (Raw span) = span ≡ span_of_part part
IsSheetPartOf text sheet t (RawText span) (Function op) = ⊥
IsSheetPartOf text sheet t (FunctionPart function) (Function op) = IsFunctionOf text function sheet t op

-- these parts, one for each
abbrev pub ArePartsOf : List ℕ → LlvmSheet → Tree → List ModulePart → List SheetPart → Type 0
ArePartsOf text sheet t [] [] = ⊤
ArePartsOf text sheet t (part ∷ parts) (found ∷ others) = IsSheetPartOf text sheet t part found × ArePartsOf text sheet t parts others
ArePartsOf text sheet t _ _ = ⊥

-- behind the parts there is that of this one
abbrev pub IsOneMore : List ℕ → LlvmSheet → Tree → ModulePart → List SheetPart → List SheetPart → Type 0
IsOneMore text sheet t part old new = (found : SheetPart) × IsSheetPartOf text sheet t part found × (new ≡ old ++ found ∷ [])

-- what is made of a function, if it isn't kept, is that function
abbrev pub IsMadeOf : List ℕ → FunctionText → LlvmSheet → Tree → DocumentFunction → Type 0
IsMadeOf text function sheet t (TreeFunction op) = IsFunctionOf text function sheet t op
IsMadeOf text function sheet t (Kept kept) = ⊤

-- the parts of the text, which follow each other: each is printed as it is written, or is a function of the tree
abbrev pub IsSheetOf : List ℕ → Tree → ModuleSheet → Type 0
IsSheetOf text t sheet =
    (sheet.text.items ≡ text)
    × ((parts : List ModulePart) × AreConsecutive 0 (length text) parts × ArePartsOf text sheet.functions t parts sheet.parts.items)

-- ---- the tree

-- an operation that is live stays so, with its head
pub record KeepsHeads (t u : Tree) : Type 0 where
  pub heads : (op : ℕ) (head : Head) → head_of t op ≡ Some head → head_of u op ≡ Some head

-- the operations that are functions, in the order of the text
abbrev pub function_of : SheetPart → List ℕ
function_of (Raw span) = []
function_of (Function op) = op ∷ []

abbrev pub functions_of : List SheetPart → List ℕ
functions_of parts = flat_map function_of parts

-- the operation has one block, and in it these functions alone
abbrev pub HoldsFunctions : Tree → ℕ → List SheetPart → Type 0
HoldsFunctions t root parts =
    (region : ℕ) × (block : ℕ)
    × (regions_of t root ≡ region ∷ []) × (layout_of t region ≡ block ∷ []) × (body_of t block ≡ functions_of parts)
