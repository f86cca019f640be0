-- What definitions of a function are called.
use Rattle.std.specs.Prelude.{◌≡◌, ◌≤◌, ℕ, suc, Bool, true, false, List, [], ◌∷◌, slice_get, Option, Some, None, ⊤, if◌then◌else◌}
use Rattle.pliron_text_llvm_syntax.specs.declared.tokens.ByteSpan.{ByteSpan}
use Rattle.pliron_text_llvm_names.specs.declared.definitions.DefinitionKind.{DefinitionKind}
use Rattle.pliron_text_llvm_names.specs.declared.definitions.DefinitionKind.TheVariants.{Argument, Block, Result}
use Rattle.pliron_text_llvm_names.specs.declared.definitions.LocalDefinition.{LocalDefinition}
use Rattle.pliron_text_llvm_names.specs.declared.definitions.NamingFault.{NamingFault}
use Rattle.pliron_text_llvm_names.specs.declared.definitions.NamingFault.TheVariants.{Unread, Taken, Falls, Numberless, NoMemory}
use Rattle.pliron_text_llvm_names.specs.Names.{NameKey, key_of_local, key_of_label}
use Rattle.pliron_text_llvm_names.specs.Names.NameKey.{Number, Text}

abbrev pub is_block_kind : DefinitionKind → Bool
is_block_kind (Argument number) = false
is_block_kind (Block line) = true
is_block_kind (Result line) = false

abbrev pub defines_block : LocalDefinition → Bool
defines_block definition = is_block_kind definition.what

-- ---- names

-- a block is named by its label, a value by a local name
abbrev pub key_in : List ℕ → Bool → ByteSpan → NameKey
key_in text is_label span = if is_label then key_of_label text span else key_of_local text span

abbrev pub key_of_name : List ℕ → Bool → Option ByteSpan → Option NameKey
key_of_name text is_label None = None
key_of_name text is_label (Some span) = Some (key_in text is_label span)

-- the name that the text has for a definition
abbrev pub written_key : List ℕ → LocalDefinition → Option NameKey
written_key text definition = key_of_name text (defines_block definition) definition.name

-- what has no name is called by the next number
abbrev pub key_at : ℕ → Option NameKey → NameKey
key_at next None = Number next
key_at next (Some key) = key

-- the next number behind a name
abbrev pub next_behind : ℕ → NameKey → ℕ
next_behind next (Number number) = suc number
next_behind next (Text bytes) = next

-- what definitions are called, in their order, where this number is next
abbrev pub keys_from : List ℕ → ℕ → List LocalDefinition → List NameKey
keys_from text next [] = []
keys_from text next (definition ∷ definitions) =
    key_at next (written_key text definition)
    ∷ keys_from text (next_behind next (key_at next (written_key text definition))) definitions

-- what the definitions of a function are called
abbrev pub keys_of : List ℕ → List LocalDefinition → List NameKey
keys_of text definitions = keys_from text 0 definitions

-- ---- what the text has to keep to

-- a number that is written isn't below the next one
abbrev pub IsNotBelow : ℕ → Option NameKey → Type 0
IsNotBelow next (Some (Number number)) = next ≤ number
IsNotBelow next _ = ⊤

-- no number falls
abbrev pub AreRisingNumbers : List ℕ → ℕ → List LocalDefinition → Type 0
AreRisingNumbers text next [] = ⊤
AreRisingNumbers text next (definition ∷ definitions) =
    IsNotBelow next (written_key text definition)
    × AreRisingNumbers text (next_behind next (key_at next (written_key text definition))) definitions

-- what has the same name is the same
abbrev pub AreDistinct : List NameKey → Type 0
AreDistinct keys = (i j : ℕ) (key : NameKey) → slice_get keys i ≡ Some key → slice_get keys j ≡ Some key → i ≡ j
