-- Texts of modules.
use Rattle.std.specs.Prelude.{◌≡◌, ℕ, List, ◌++◌}
use Rattle.pliron_core.specs.Tree.{Tree}
use Rattle.pliron_text_llvm_parts.specs.declared.parts.SheetPart.{SheetPart}
use Rattle.pliron_text_llvm_parts.specs.declared.parts.ModuleSheet.{ModuleSheet}
use Rattle.pliron_text_llvm_parts.specs.PrintedParts.{IsPrintedPart, ArePrintedParts}
use Rattle.pliron_text_llvm_printer.specs.PrintedFunctions.{IsFunctionText}

-- a text of the part is behind what was there
abbrev pub AppendsPart : ModuleSheet → Tree → SheetPart → List ℕ → List ℕ → Type 0
AppendsPart sheet tree part before after =
    (text : List ℕ) × (after ≡ before ++ text) × IsPrintedPart sheet.text.items (IsFunctionText sheet.functions tree) part text

-- the parts in their order: raw text as it was, and a text of each function
abbrev pub IsModuleText : ModuleSheet → Tree → List ℕ → Type 0
IsModuleText sheet tree text = ArePrintedParts sheet.text.items (IsFunctionText sheet.functions tree) sheet.parts.items text
