-- How one more definition gets its name.
use Rattle.std.specs.Prelude.{◌≡◌, ◌≢◌, ℕ, List, Some, None}
use Rattle.pliron_text_llvm_names.specs.declared.definitions.LocalDefinition.{LocalDefinition}
use Rattle.pliron_text_llvm_names.specs.declared.table.LocalNameTable.{LocalNameTable}
use Rattle.pliron_text_llvm_names.specs.Definitions.{written_key, key_at, next_behind, IsNotBelow}
use Rattle.pliron_text_llvm_names.specs.Names.{NameKey}
use Rattle.pliron_text_llvm_names.specs.Tables.{number_named}

-- the name had no number, and has this one; other names keep theirs
abbrev pub AddsName : NameKey → ℕ → LocalNameTable → LocalNameTable → Type 0
AddsName key number before after =
    (number_named before key ≡ None)
    × (number_named after key ≡ Some number)
    × ((other : NameKey) → other ≢ key → number_named after other ≡ number_named before other)

-- the definition of this number gets its name, where `next` is the next number; behind it `behind` is
abbrev pub IsNamed : List ℕ → LocalDefinition → ℕ → ℕ → LocalNameTable → LocalNameTable → ℕ → Type 0
IsNamed text definition number next before after behind =
    IsNotBelow next (written_key text definition)
    × AddsName (key_at next (written_key text definition)) number before after
    × (behind ≡ next_behind next (key_at next (written_key text definition)))
