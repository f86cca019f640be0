-- What is known of operations by their names.
use Rattle.std.specs.Prelude.{◌≡◌, ℕ, List, Some, slice_get, option_map, codes, bytes_eq}
use Rattle.pliron_dialect_mlir.specs.Names.{class_named}
use Rattle.pliron_text_mlir_syntax.specs.declared.texts.Texts.{Texts}
use Rattle.pliron_text_mlir_syntax.specs.Sheets.{text_in}
use Rattle.pliron_text_mlir_reader.specs.Owners.{owned_named}
use Rattle.pliron_text_mlir_reader.specs.Said.{without_quotes}
use Rattle.pliron_text_mlir_reader.specs.declared.known.KnownName.{KnownName}

abbrev pub known_name : (name : List ℕ) → KnownName
known_name name = record { class = class_named name; owned = owned_named name; is_tag = bytes_eq name (codes "llvm.blocktag") }

abbrev pub known_in_quotes : (name : List ℕ) → KnownName
known_in_quotes name = known_name (without_quotes name)

-- each entry is what is known of the name with its number
abbrev pub AreKnownNames : (names : Texts) → List KnownName → Type 0
AreKnownNames names entries = (number : ℕ) (known : KnownName) → slice_get entries number ≡ Some known → option_map known_in_quotes (text_in names number) ≡ Some known
