-- Names of values and blocks.
use Rattle.std.specs.Prelude.{◌≡◌, ◌==◌, ◌+◌, ◌-◌, ◌*◌, ◌<◌, ℕ, Bool, true, List, [], ◌∷◌, length, take, if◌then◌else◌}
use Rattle.std.specs.List.{list_all, list_any}
use Rattle.std.specs.Char.{is_ascii_digit}
use Rattle.pliron_text_llvm_syntax.specs.declared.tokens.ByteSpan.{ByteSpan}
use Rattle.pliron_text_llvm_syntax.specs.Tokens.{bytes_of_span}
use Rattle.pliron_text_llvm_names.specs.declared.names.LocalName.{LocalName}
use Rattle.pliron_text_llvm_names.specs.declared.names.LocalName.TheVariants.{Number as NumberName, Text as TextName}
use Rattle.pliron_text_llvm_names.specs.declared.names.NameFault.{NameFault}
use Rattle.pliron_text_llvm_names.specs.declared.names.NameFault.TheVariants.{Escape, LargeNumber}

-- what a name says: a number, or bytes
pub data NameKey : Type 0 where
  Number : ℕ → NameKey
  Text : List ℕ → NameKey

abbrev pub key_of : LocalName → NameKey
key_of (NumberName number) = Number number
key_of (TextName bytes) = Text bytes.now

-- the number with these digits behind that one
abbrev pub decimal_behind : ℕ → List ℕ → ℕ
decimal_behind number [] = number
decimal_behind number (digit ∷ digits) = decimal_behind (number * 10 + (digit - 48)) digits

abbrev pub decimal : List ℕ → ℕ
decimal digits = decimal_behind 0 digits

abbrev pub all_but_first : List ℕ → List ℕ
all_but_first [] = []
all_but_first (first ∷ rest) = rest

abbrev pub all_but_last : List ℕ → List ℕ
all_but_last bytes = take (length bytes - 1) bytes

-- `\` is among the bytes
abbrev pub has_escape : List ℕ → Bool
has_escape bytes = list_any (λ byte. byte == 92) bytes

-- what is between quotes; or the number of a word that is digits alone; or else the word
abbrev pub key_of_word : List ℕ → NameKey
key_of_word [] = Text []
key_of_word (first ∷ rest) =
    if first == 34 then Text (all_but_last rest)
    else if list_all is_ascii_digit (first ∷ rest) then Number (decimal (first ∷ rest))
    else Text (first ∷ rest)

-- there is an escape in quotes, or the number has more than 32 bits
abbrev pub IsUnspelled : List ℕ → NameFault → Type 0
IsUnspelled word Escape = has_escape (all_but_last (all_but_first word)) ≡ true
IsUnspelled word LargeNumber = 4294967295 < decimal word

-- the name that `%` and a word say
abbrev pub key_of_local : List ℕ → ByteSpan → NameKey
key_of_local text span = key_of_word (all_but_first (bytes_of_span text span))

-- the name that a word and `:` say
abbrev pub key_of_label : List ℕ → ByteSpan → NameKey
key_of_label text span = key_of_word (all_but_last (bytes_of_span text span))
