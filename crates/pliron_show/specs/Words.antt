-- What words say of the data of runs.
use Rattle.std.specs.Prelude.{◌≡◌, ℕ, ℤ, List, FitsSigned}
use Rattle.std.specs.Int.{w64}
use Rattle.std.specs.Str.Parse.{IsNumeral, signed_digits_value, without_leading_sign}
use Rattle.pliron_laws.specs.Datum.{Datum, Number}

-- the word is this number in decimals, perhaps behind a sign
abbrev pub SaysNumber : (word : List ℕ) → (value : ℤ) → Type 0
SaysNumber word value = IsNumeral 10 (without_leading_sign word) × (value ≡ signed_digits_value 10 word)

-- which words say which data
abbrev pub DataWords : Type 1
DataWords = (word : List ℕ) → Datum → Type 0

-- the words of numbers of 64 signed bits
abbrev pub says_long_number : DataWords
says_long_number word datum = (value : ℤ) × SaysNumber word value × FitsSigned w64 value × (datum ≡ Number value)
