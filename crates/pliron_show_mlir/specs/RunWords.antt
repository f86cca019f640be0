-- Which words say which data of runs of functions.
use Rattle.std.specs.Prelude.{◌≡◌, ◌≤◌, ◌<◌, ◌⊎◌, ◌==◌, ◌++◌, ◌∷◌, [], ⊤, ℕ, ℤ, pos, negsuc, List, length, codes, if◌then◌else◌, nat_lt}
use Rattle.std.specs.List.{before_first, after_first, position_or_len, slice_split}
use Rattle.std.specs.Str.{trim}
use Rattle.std.specs.Str.Parse.{IsNumeral, digits_value, without_leading_plus}
use Rattle.pliron_laws.specs.Datum.{Datum, Empty, Number}
use Rattle.pliron_dialect.specs.Roles.{chain_of}
use Rattle.pliron_dialect_mlir.specs.Data.{number, IsInteger}
use Rattle.pliron_show.specs.Words.{DataWords, SaysNumber}

-- the digits are this number, without a sign
abbrev pub SaysCount : (digits : List ℕ) → (count : ℕ) → Type 0
SaysCount digits count = IsNumeral 10 (without_leading_plus digits) × (count ≡ digits_value 10 (without_leading_plus digits))

-- the name is that of the type of integers of this width: `index`, or `i` with 1 to 64
abbrev pub NamesWidth : (name : List ℕ) → (width : ℕ) → Type 0
NamesWidth name width = ((name ≡ codes "index") × (width ≡ 65))
    ⊎ ((digits : List ℕ) × (name ≡ codes "i" ++ digits) × SaysCount digits width × (1 ≤ width) × (width ≤ 64))

-- what a word says before its first colon, and the name of the type behind it, which is `i64` without a colon
abbrev pub value_word : List ℕ → List ℕ
value_word word = before_first (λ byte. byte == 58) word

abbrev pub type_word : List ℕ → List ℕ
type_word word = if nat_lt (position_or_len (λ byte. byte == 58) word) (length word) then after_first (λ byte. byte == 58) word else codes "i64"

-- the word is an integer with its type
abbrev pub SaysInteger : (word : List ℕ) → (datum : ℤ) → Type 0
SaysInteger word datum = (width : ℕ) × (value : ℤ) × NamesWidth (trim (type_word word)) width × SaysNumber (trim (value_word word)) value
    × IsInteger width value datum

-- the words of inputs: nothing, a truth, or an integer
abbrev pub says_input : DataWords
says_input word datum = ((word ≡ codes "()") × (datum ≡ Empty)) ⊎ ((word ≡ codes "true") × (datum ≡ Number (number 1 1)))
    ⊎ ((word ≡ codes "false") × (datum ≡ Number (number 1 0))) ⊎ ((n : ℤ) × SaysInteger word n × (datum ≡ Number n))

-- the words of parts of answers: also a region or a successor by its number, and that there is none
abbrev pub says_part : DataWords
says_part word datum = ((word ≡ codes "end") × (datum ≡ Number (negsuc 0)))
    ⊎ ((digits : List ℕ) × (count : ℕ) × (word ≡ codes "^" ++ digits) × SaysCount digits count × (datum ≡ Number (pos count)))
    ⊎ says_input word datum

-- each of these parts, without blanks around it, says the datum at its place
abbrev pub AreSaidBy : (parts : List (List ℕ)) → (said : List Datum) → Type 0
AreSaidBy [] [] = ⊤
AreSaidBy (part ∷ parts) (datum ∷ said) = says_part (trim part) datum × AreSaidBy parts said
AreSaidBy _ _ = ⊥

-- the parts of a word between its commas
abbrev pub comma_parts : List ℕ → List (List ℕ)
comma_parts word = slice_split (λ byte. byte == 44) word

-- the words of answers: nothing, or parts with commas between them
abbrev pub says_answer : DataWords
says_answer word datum = ((word ≡ []) × (datum ≡ Empty))
    ⊎ ((said : List Datum) × AreSaidBy (comma_parts word) said × (datum ≡ chain_of said))
