-- What operands are.
use Rattle.std.specs.Prelude.{◌≡◌, ◌++◌, ◌∷◌, ℕ, Bool, true, false, List, [], length, slice_get, Option, Some, None}
use Rattle.pliron_text_llvm_functions.specs.declared.function.FunctionReading.{FunctionReading}
use Rattle.pliron_text_llvm_classes.specs.StatementClasses.{names_undef}
use Rattle.pliron_text_llvm_edges.specs.Successors.{target_at}
use Rattle.pliron_text_llvm_edges.specs.Phis.{bytes_in_hole}
use Rattle.pliron_text_llvm_sheets.specs.declared.constants.ConstantTable.{ConstantTable}
use Rattle.pliron_text_llvm_sheets.specs.declared.constants.TextConstant.{TextConstant}
use Rattle.pliron_text_llvm_sheets.specs.declared.sheet.LlvmSheet.{LlvmSheet}
use Rattle.pliron_text_llvm_sheets.specs.Constants.{constant_at, KeepsTextConstants}
use Rattle.pliron_text_llvm_sheets.specs.Sheets.{sheet_text}
use Rattle.pliron_text_llvm_plans.specs.declared.values.PlannedConstants.{PlannedConstants}
use Rattle.pliron_text_llvm_plans.specs.declared.values.PlannedValue.{PlannedValue}
use Rattle.pliron_text_llvm_plans.specs.declared.values.PlannedValue.TheVariants.{Defined, Constant, Undefined}

-- the constant of this number has this width and this text
abbrev pub HasConstant : LlvmSheet → ConstantTable → ℕ → ℕ → List ℕ → Type 0
HasConstant sheet constants number width text =
    (constant : TextConstant)
    × (constant_at constants number ≡ Some constant) × (constant.width ≡ width) × (sheet_text sheet constant.text ≡ Some text)

-- constants keep their numbers, and behind those that are made anew there may be more
pub record KeepsPlannedConstants (old new : PlannedConstants) : Type 0 where
  pub table : KeepsTextConstants old.table new.table
  pub undefined : (added : List ℕ) × (new.undefined.items ≡ old.undefined.items ++ added)

-- a constant of this width and text, which all places share that read it
abbrev pub IsSharedConstant : ℕ → List ℕ → LlvmSheet → PlannedConstants → PlannedValue → Type 0
IsSharedConstant width text sheet constants (Constant number) = HasConstant sheet constants.table number width text
IsSharedConstant width text sheet constants _ = ⊥

-- a constant of this text of which there was none before under its number
abbrev pub IsMadeAnew : List ℕ → LlvmSheet → PlannedConstants → PlannedConstants → PlannedValue → Type 0
IsMadeAnew text sheet old new (Undefined number) =
    (number ≡ length old.undefined.items)
    × ((found : ℕ) × (new.undefined.items ≡ old.undefined.items ++ found ∷ []) × (sheet_text sheet found ≡ Some text))
IsMadeAnew text sheet old new _ = ⊥

-- a constant is made anew where it may be another value each time, and else shared
abbrev pub IsConstantOf : Bool → ℕ → List ℕ → LlvmSheet → PlannedConstants → PlannedConstants → PlannedValue → Type 0
IsConstantOf true width text sheet old new value = IsMadeAnew text sheet old new value
IsConstantOf false width text sheet old new value = IsSharedConstant width text sheet new value

-- what is in a hole whose type has this width: the value that it names, or a constant of its text
abbrev pub IsValueIn : Option ℕ → ℕ → List ℕ → LlvmSheet → PlannedConstants → PlannedConstants → PlannedValue → Type 0
IsValueIn (Some number) width text sheet old new value = value ≡ Defined number
IsValueIn None width text sheet old new value = IsConstantOf (names_undef text) width text sheet old new value

abbrev pub IsPlannedValue : List ℕ → FunctionReading → LlvmSheet → PlannedConstants → PlannedConstants → ℕ → ℕ → PlannedValue → Type 0
IsPlannedValue text reading sheet old new width hole value =
    IsValueIn (target_at reading hole) width (bytes_in_hole text (slice_get reading.body.holes.items hole)) sheet old new value
