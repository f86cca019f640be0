-- Parts of a module that were read.
use Rattle.std.specs.Prelude.{◌≡◌, ◌+◌, ℕ, false, List, [], ◌∷◌, ◌++◌, slice_index_or, ⊤}
use Rattle.std.specs.List.{list_any}
use Rattle.pliron_text_llvm_syntax.specs.declared.functions.FunctionText.{FunctionText}
use Rattle.pliron_text_llvm_syntax.specs.declared.parts.ModulePart.{ModulePart}
use Rattle.pliron_text_llvm_syntax.specs.declared.parts.ModulePart.TheVariants.{Raw as RawText, Function as FunctionPart}
use Rattle.pliron_text_llvm_syntax.specs.Tokens.{bytes_of_span}
use Rattle.pliron_text_llvm_syntax.specs.Forms.{is_hole_byte}
use Rattle.pliron_text_llvm_syntax.specs.Parts.{IsRawOrFunction}
use Rattle.pliron_text_llvm_functions.specs.Functions.{IsFunctionReading}
use Rattle.pliron_text_llvm_edges.specs.Stops.{AreEdgesOf}
use Rattle.pliron_text_llvm_modules.specs.declared.function.ModuleFunction.{ModuleFunction}
use Rattle.pliron_text_llvm_modules.specs.declared.function.ModuleFunction.TheVariants.{Read, Kept}
use Rattle.pliron_text_llvm_modules.specs.declared.module.ReadPart.{ReadPart}
use Rattle.pliron_text_llvm_modules.specs.declared.module.ReadPart.TheVariants.{Raw, Function}

-- which part of the text it is
abbrev pub module_part_of : ReadPart → ModulePart
module_part_of (Raw span) = RawText span
module_part_of (Function function read) = FunctionPart function

-- a function whose text has no byte that stands for a hole, with its body, what it defines and names, and its edges; or
-- one that is kept as it is written
abbrev pub IsReadingOf : List ℕ → FunctionText → ModuleFunction → Type 0
IsReadingOf text function (Read read) =
    (list_any is_hole_byte (bytes_of_span text function.span) ≡ false)
    × IsFunctionReading text function read.reading
    × AreEdgesOf text read.reading read.edges
IsReadingOf text function (Kept place reason) = ⊤

-- a part of the text with what it is read as: text outside functions, or a whole function
abbrev pub IsReadPart : List ℕ → ReadPart → Type 0
IsReadPart text (Raw span) = IsRawOrFunction text (RawText span)
IsReadPart text (Function function read) =
    IsRawOrFunction text (FunctionPart function) × IsReadingOf text function read

-- ---- printing

-- a function that was read is printed by the text given for it; each other part as it is written
abbrev pub printed_function : List ℕ → ModuleFunction → List ℕ → List ℕ
printed_function bytes (Read read) own = own
printed_function bytes (Kept place reason) own = bytes

abbrev pub printed_part : List ℕ → ReadPart → List ℕ → List ℕ
printed_part text (Raw span) own = bytes_of_span text span
printed_part text (Function function read) own = printed_function (bytes_of_span text function.span) read own

-- the functions that were read have the texts in their order
abbrev pub number_behind_function : ℕ → ModuleFunction → ℕ
number_behind_function number (Read read) = number + 1
number_behind_function number (Kept place reason) = number

abbrev pub number_behind_part : ℕ → ReadPart → ℕ
number_behind_part number (Raw span) = number
number_behind_part number (Function function read) = number_behind_function number read

-- the parts in their order, where the first function that was read has the text of this number
abbrev pub printed_from : List ℕ → List (List ℕ) → ℕ → List ReadPart → List ℕ
printed_from text texts number [] = []
printed_from text texts number (part ∷ parts) =
    printed_part text part (slice_index_or texts number []) ++ printed_from text texts (number_behind_part number part) parts
