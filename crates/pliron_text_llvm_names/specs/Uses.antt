-- Which definition each use names.
use Rattle.std.specs.Prelude.{◌≡◌, ℕ, Bool, true, false, not, List, [], ◌∷◌, slice_get, Option, Some, None, ⊤}
use Rattle.pliron_text_llvm_syntax.specs.declared.forms.Hole.{Hole}
use Rattle.pliron_text_llvm_syntax.specs.declared.forms.HoleKind.{HoleKind}
use Rattle.pliron_text_llvm_syntax.specs.declared.forms.HoleKind.TheVariants.{Operand, Successor}
use Rattle.pliron_text_llvm_syntax.specs.Lexing.{is_byte_at}
use Rattle.pliron_text_llvm_names.specs.declared.definitions.LocalDefinition.{LocalDefinition}
use Rattle.pliron_text_llvm_names.specs.Definitions.{defines_block, keys_of}
use Rattle.pliron_text_llvm_names.specs.Names.{key_of_local}

-- a local name is in the hole, and no constant
abbrev pub is_local_hole : List ℕ → Hole → Bool
is_local_hole text hole = is_byte_at (slice_get text hole.span.start) 37

-- a successor is a block, and an operand is a value
abbrev pub fits_kind : HoleKind → Option LocalDefinition → Bool
fits_kind Operand (Some definition) = not (defines_block definition)
fits_kind Successor (Some definition) = defines_block definition
fits_kind kind None = false

-- the definition with this number has the name that is in the hole, and fits there
abbrev pub Names : List ℕ → List LocalDefinition → Hole → ℕ → Type 0
Names text definitions hole number =
    (slice_get (keys_of text definitions) number ≡ Some (key_of_local text hole.span))
    × (fits_kind hole.kind (slice_get definitions number) ≡ true)

-- a constant names nothing, and a local name this definition
abbrev pub IsTarget : List ℕ → List LocalDefinition → Hole → Option ℕ → Type 0
IsTarget text definitions hole None = is_local_hole text hole ≡ false
IsTarget text definitions hole (Some number) = (is_local_hole text hole ≡ true) × Names text definitions hole number

-- what each hole names, in their order
abbrev pub AreTargets : List ℕ → List LocalDefinition → List Hole → List (Option ℕ) → Type 0
AreTargets text definitions [] [] = ⊤
AreTargets text definitions (hole ∷ holes) (target ∷ targets) =
    IsTarget text definitions hole target × AreTargets text definitions holes targets
AreTargets text definitions _ _ = ⊥
