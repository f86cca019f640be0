-- The numbers of constants.
use Rattle.std.specs.Prelude.{◌≡◌, ℕ, Option, Some, slice_get}
use Rattle.pliron_text_llvm_sheets.specs.declared.constants.TextConstant.{TextConstant}
use Rattle.pliron_text_llvm_sheets.specs.declared.constants.ConstantTable.{ConstantTable}

-- the constant of this number, if one has it
abbrev pub constant_at : ConstantTable → ℕ → Option TextConstant
constant_at table number = slice_get table.constants.keys number

-- a number that has a constant keeps it
abbrev pub KeepsTextConstants : ConstantTable → ConstantTable → Type 0
KeepsTextConstants old new =
    (number : ℕ) (constant : TextConstant) → constant_at old number ≡ Some constant → constant_at new number ≡ Some constant
