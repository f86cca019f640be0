-- The definitions of what lines give.
use Rattle.std.specs.Prelude.{◌≡◌, ℕ, Bool, true, false, List, slice_get, Option, Some, None, ⊤}
use Rattle.pliron_text_llvm_names.specs.declared.definitions.DefinitionKind.{DefinitionKind}
use Rattle.pliron_text_llvm_names.specs.declared.definitions.DefinitionKind.TheVariants.{Argument, Block, Result}
use Rattle.pliron_text_llvm_names.specs.declared.definitions.LocalDefinition.{LocalDefinition}

abbrev pub is_parameter_kind : DefinitionKind → Bool
is_parameter_kind (Argument number) = true
is_parameter_kind (Block line) = false
is_parameter_kind (Result line) = false

abbrev pub is_parameter : LocalDefinition → Bool
is_parameter definition = is_parameter_kind definition.what

-- the definition of this number is what the line gives
abbrev pub IsResultAt : List LocalDefinition → ℕ → ℕ → Type 0
IsResultAt definitions line number =
    (definition : LocalDefinition) × (slice_get definitions number ≡ Some definition) × (definition.what ≡ Result line)

-- what a line gives has a definition, and one that gives nothing has none
abbrev pub HasResult : List LocalDefinition → ℕ → Bool → Option ℕ → Type 0
HasResult definitions line true (Some number) = IsResultAt definitions line number
HasResult definitions line false None = ⊤
HasResult definitions line gives result = ⊥
