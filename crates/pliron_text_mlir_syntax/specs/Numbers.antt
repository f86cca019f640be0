-- The numbers that the texts of attributes write, and the widths of the types that texts name.
use Rattle.std.specs.Prelude.{◌+◌, ◌-◌, ◌*◌, ◌^◌, ◌/◌, ◌&&◌, ◌||◌, ℕ, zero, suc, Bool, false, true, not, min, nat_eq, nat_lt, nat_le, if◌then◌else◌, codes, bytes_eq}
use Rattle.std.specs.Prelude.{List, [], ◌∷◌, length, map, take, drop, replicate, Option, Some, None, option_map, option_and_then}
use Rattle.std.specs.Char.{digit_value, is_ascii_whitespace}
use Rattle.std.specs.List.{prefix_len, suffix_len, slice_split, position_or_len, before_first, after_first}
use Rattle.pliron_text_mlir_syntax.specs.declared.numbers.SignedNumber.{SignedNumber}

-- ---- parts of texts

-- without the blanks at its start, and at its end
abbrev pub without_first_blanks : List ℕ → List ℕ
without_first_blanks text = drop (prefix_len is_ascii_whitespace text) text

abbrev pub without_last_blanks : List ℕ → List ℕ
without_last_blanks text = take (length text - suffix_len is_ascii_whitespace text) text

abbrev pub without_blanks : List ℕ → List ℕ
without_blanks text = without_last_blanks (without_first_blanks text)

abbrev pub begins : (start text : List ℕ) → Bool
begins start text = bytes_eq (take (length start) text) start

-- what follows the start, where the text begins with it
abbrev pub behind : (start text : List ℕ) → Option (List ℕ)
behind start text = if begins start text then Some (drop (length start) text) else None

-- what is before the end, where the text ends with it
abbrev pub before : (end text : List ℕ) → Option (List ℕ)
before end text = if bytes_eq (drop (length text - length end) text) end then Some (take (length text - length end) text) else None

-- what is between both
abbrev pub between : (start end text : List ℕ) → Option (List ℕ)
between start end text = option_and_then (before end) (behind start (without_blanks text))

abbrev pub is_colon : ℕ → Bool
is_colon byte = nat_eq byte 58

abbrev pub is_comma : ℕ → Bool
is_comma byte = nat_eq byte 44

-- all of them, where each is some
abbrev pub all_of : {A : Type 0} → List (Option A) → Option (List A)
all_of [] = Some []
all_of (None ∷ found) = None
all_of (Some x ∷ found) = option_map (λ xs. x ∷ xs) (all_of found)

-- ---- numbers

-- the number with one more digit in the base, below 2 ^ 64
abbrev pub with_digit : (base number byte : ℕ) → Option ℕ
with_digit base number byte =
    let next = number * base + digit_value byte in
    if nat_lt (digit_value byte) base && nat_lt next (2 ^ 64) then Some next else None

abbrev pub with_digits : (base number : ℕ) → List ℕ → Option ℕ
with_digits base number [] = Some number
with_digits base number (byte ∷ text) = option_and_then (λ next. with_digits base next text) (with_digit base number byte)

-- the number below 2 ^ 64 that digits in the base write, at least one
abbrev pub digits_written : (base : ℕ) → List ℕ → Option ℕ
digits_written base [] = None
digits_written base (byte ∷ text) = with_digits base 0 (byte ∷ text)

abbrev pub signed_as : (is_negative : Bool) (magnitude : ℕ) → SignedNumber
signed_as is_negative magnitude = record { is_negative = is_negative; magnitude = magnitude }

-- hexadecimal behind `0x`, else decimal
abbrev pub magnitude_behind : (hexadecimal : Option (List ℕ)) → List ℕ → Option ℕ
magnitude_behind None text = digits_written 10 text
magnitude_behind (Some digits) text = digits_written 16 digits

abbrev pub magnitude_written : List ℕ → Option ℕ
magnitude_written text = magnitude_behind (behind (codes "0x") text) text

abbrev pub signed_behind : (minus : Option (List ℕ)) → List ℕ → Option SignedNumber
signed_behind None text = option_map (signed_as false) (magnitude_written text)
signed_behind (Some rest) text = option_map (signed_as true) (magnitude_written rest)

-- a truth is 1 or 0
abbrev pub signed_in : List ℕ → Option SignedNumber
signed_in text =
    if bytes_eq text (codes "true") then Some (signed_as false 1)
    else if bytes_eq text (codes "false") then Some (signed_as false 0)
    else signed_behind (behind (codes "-") text) text

abbrev pub signed_written : List ℕ → Option SignedNumber
signed_written text = signed_in (without_blanks text)

-- the type of a number that says none
abbrev pub unsaid_type : List ℕ → List ℕ
unsaid_type text = if bytes_eq text (codes "true") || bytes_eq text (codes "false") then codes "i1" else codes "i64"

-- a number, and the type behind a colon
abbrev pub typed_written : List ℕ → Option (SignedNumber × List ℕ)
typed_written text =
    if nat_lt (position_or_len is_colon text) (length text)
    then option_map (λ number. (number, without_blanks (after_first is_colon text))) (signed_written (before_first is_colon text))
    else option_map (λ number. (number, unsaid_type (without_blanks text))) (signed_written text)

-- ---- widths

abbrev pub width_at_most_64 : Option ℕ → ℕ
width_at_most_64 None = 0
width_at_most_64 (Some width) = if nat_le width 64 then width else 0

-- of i1 to i64
abbrev pub integer_width : List ℕ → ℕ
integer_width [] = 0
integer_width (first ∷ digits) = if nat_eq first 105 && nat_le (length digits) 2 then width_at_most_64 (digits_written 10 digits) else 0

-- 65 for `index`, and 0 for what is no integer of at most 64 bits
abbrev pub width_written : List ℕ → ℕ
width_written text = if bytes_eq text (codes "index") then 65 else integer_width text

-- ---- bits

-- the largest number of so many bits; `index` has 64
abbrev pub largest : (width : ℕ) → ℕ
largest width = 2 ^ min width 64 - 1

-- the bits of a number in two's complement, where they fit, read as signed or unsigned
abbrev pub bits_written : (width : ℕ) → SignedNumber → Option ℕ
bits_written width number =
    if nat_eq width 0 then None
    else if not number.is_negative then (if nat_le number.magnitude (largest width) then Some number.magnitude else None)
    else if nat_eq number.magnitude 0 then Some 0
    else if nat_le number.magnitude (largest width / 2 + 1) then Some (largest width - number.magnitude + 1)
    else None

-- ---- lists

-- the numbers between commas, none of them where there are only blanks
abbrev pub numbers_written : List ℕ → Option (List SignedNumber)
numbers_written text = if nat_eq (length (without_blanks text)) 0 then Some [] else all_of (map signed_written (slice_split is_comma text))

abbrev pub count_of_number : SignedNumber → Option ℕ
count_of_number number = if number.is_negative then None else Some number.magnitude

-- the counts of `i32: 1, 0`, and of `i32`
abbrev pub counts_inside : List ℕ → Option (List ℕ)
counts_inside inner =
    if nat_lt (position_or_len is_colon inner) (length inner)
    then option_and_then (λ numbers. all_of (map count_of_number numbers)) (numbers_written (after_first is_colon inner))
    else Some []

-- those of `array<i32: 1, 0>`
abbrev pub counts_written : List ℕ → Option (List ℕ)
counts_written text = option_and_then counts_inside (between (codes "array<") (codes ">") text)

-- ---- elements

-- two digits to each byte, the lowest byte first; below 2 ^ 64
abbrev pub with_byte : (number byte : ℕ) → Option ℕ
with_byte number byte = let next = number * 256 + byte in if nat_lt next (2 ^ 64) then Some next else None

abbrev pub low_first : List ℕ → Option ℕ
low_first [] = Some 0
low_first (high ∷ []) = None
low_first (high ∷ low ∷ rest) = option_and_then (λ number. option_and_then (with_byte number) (digits_written 16 (high ∷ low ∷ []))) (low_first rest)

abbrev pub at_most : (most : ℕ) → ℕ → Option ℕ
at_most most number = if nat_le number most then Some number else None

-- how many digits write an element of the width, which takes whole bytes
abbrev pub digits_of_element : (width : ℕ) → ℕ
digits_of_element width = (min width 64 + 7) / 8 * 2

abbrev pub element_in : (width : ℕ) → List ℕ → Option ℕ
element_in width digits = option_and_then (at_most (largest width)) (low_first digits)

-- so many elements of so many digits each, and no digit behind them
abbrev pub elements_in : (width count : ℕ) → List ℕ → Option (List ℕ)
elements_in width zero digits = if nat_eq (length digits) 0 then Some [] else None
elements_in width (suc count) digits =
    let size = digits_of_element width in
    if nat_lt (length digits) size then None
    else option_and_then (λ bits. option_map (λ others. bits ∷ others) (elements_in width count (drop size digits)))
    (element_in width (take size digits))

-- digits in quotes, a list in brackets, or one number for all; elements of i1 share bytes, and aren't read
abbrev pub elements_by : (digits list : Option (List ℕ)) → (width count : ℕ) → List ℕ → Option (List ℕ)
elements_by (Some digits) list width count text = if nat_eq width 1 then None else elements_in width count digits
elements_by None (Some list) width count text = option_and_then (λ numbers. all_of (map (bits_written width) numbers)) (numbers_written list)
elements_by None None width count text = option_map (replicate count) (option_and_then (bits_written width) (signed_written text))

abbrev pub elements_written : (width count : ℕ) → List ℕ → Option (List ℕ)
elements_written width count text = elements_by (between (codes "\"0x") (codes "\"") text) (between (codes "[") (codes "]") text) width count text

abbrev pub of_length : (count : ℕ) → List ℕ → Option (List ℕ)
of_length count xs = if nat_eq (length xs) count then Some xs else None

-- what is before the last colon
abbrev pub before_last_colon : List ℕ → Option (List ℕ)
before_last_colon text =
    let behind_it = suffix_len (λ byte. not (is_colon byte)) text in
    if nat_lt behind_it (length text) then Some (take (length text - behind_it - 1) text) else None

-- the bits of so many elements of `dense<..> : vector<..>`
abbrev pub dense_written : (width count : ℕ) → List ℕ → Option (List ℕ)
dense_written width count text =
    option_and_then (λ inner. option_and_then (of_length count) (elements_written width count inner))
    (option_and_then (between (codes "dense<") (codes ">")) (before_last_colon text))
