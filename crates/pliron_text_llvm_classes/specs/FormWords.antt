-- The words of a form.
use Rattle.std.specs.Prelude.{◌==◌, ◌&&◌, ◌||◌, ℕ, Bool, false, true, not, List, [], ◌∷◌, ◌++◌, length, filter, nat_lt, if◌then◌else◌, codes, bytes_eq}
use Rattle.std.specs.List.{list_any, slice_split}
use Rattle.pliron_text_mlir_syntax.specs.Numbers.{width_written}

-- blanks, ends of lines and commas
abbrev pub is_separator : ℕ → Bool
is_separator byte = byte == 32 || byte == 9 || byte == 10 || byte == 13 || byte == 44

abbrev pub has_bytes : List ℕ → Bool
has_bytes word = nat_lt 0 (length word)

-- what stands between separators
abbrev pub words_of_form : List ℕ → List (List ℕ)
words_of_form form = filter has_bytes (slice_split is_separator form)

-- a byte of a string or of a comment, in which blanks separate nothing
abbrev pub is_of_other_text : ℕ → Bool
is_of_other_text byte = byte == 34 || byte == 59 || byte == 47

-- all words are words of LLVM: no string and no comment is in the form
abbrev pub is_plain_form : List ℕ → Bool
is_plain_form form = not (list_any is_of_other_text form)

-- the mark of an operand
abbrev pub is_operand_word : List ℕ → Bool
is_operand_word word = bytes_eq word (0 ∷ [])

-- the mark of a successor, or a bracket around entries or cases
abbrev pub is_between_operands : List ℕ → Bool
is_between_operands word = bytes_eq word (1 ∷ []) || bytes_eq word (codes "[") || bytes_eq word (codes "]")

-- the width that the last type said behind this word: 0 of what is no integer of at most 64 bits
abbrev pub width_behind : ℕ → List ℕ → ℕ
width_behind width word = if is_operand_word word || is_between_operands word then width else width_written word

abbrev pub widths_of_word : ℕ → List ℕ → List ℕ
widths_of_word width word = if is_operand_word word then width ∷ [] else []

-- the width of the type of each operand, as the last type before it says it
abbrev pub widths_from : ℕ → List (List ℕ) → List ℕ
widths_from width [] = []
widths_from width (word ∷ words) = widths_of_word width word ++ widths_from (width_behind width word) words

-- the word behind the first `to`, where this is right behind one or not
abbrev pub word_behind_to : Bool → List (List ℕ) → List ℕ
word_behind_to is_behind [] = []
word_behind_to is_behind (word ∷ words) =
    if is_behind then word else word_behind_to (bytes_eq word (codes "to")) words

-- the word, where `label` is behind it and it is no mark
abbrev pub case_before : List ℕ → List ℕ → List (List ℕ)
case_before before word =
    if bytes_eq word (codes "label") && not (is_operand_word before) then before ∷ [] else []

-- the words before `label` that are no marks, from this one on
abbrev pub cases_from : List ℕ → List (List ℕ) → List (List ℕ)
cases_from before [] = []
cases_from before (word ∷ words) = case_before before word ++ cases_from word words
