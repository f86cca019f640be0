-- Data: an integer says its type, and every other constant says the form of its text.
use Rattle.std.specs.Prelude.{◌≡◌, ◌⊎◌, ◌<◌, ◌≤◌, ◌+ℤ◌, ℕ, suc, ◌+◌, ◌*◌, ◌/◌, ◌%◌, ◌^◌, nat_eq, nat_lt, nat_le, if◌then◌else◌, Bool, true, false, ◌&&◌, Option, Some, None, ℤ, pos, negsuc}
use Rattle.std.specs.Option.{option_map}

-- a width is 1 to 64, or 65 for `index`, which counts 64 bits
abbrev pub is_width : ℕ → Bool
is_width width = nat_le 1 width && nat_le width 65

abbrev pub bits_of_width : ℕ → ℕ
bits_of_width width = if nat_eq width 65 then 64 else width

-- an integer: its bits, and above 64 of them its width
abbrev pub number : (width bits : ℕ) → ℤ
number width bits = pos (width * 2 ^ 64 + bits)

abbrev pub some_if : {A : Type 0} → Bool → A → Option A
some_if true x = Some x
some_if false x = None

-- the bits, where the datum is an integer of this width
abbrev pub is_number : (width n : ℕ) → Bool
is_number width n = is_width width && (nat_eq (n / 2 ^ 64) width && nat_lt (n % 2 ^ 64) (2 ^ bits_of_width width))

abbrev pub bits_at : ℕ → ℤ → Option ℕ
bits_at width (pos n) = some_if (is_number width n) (n % 2 ^ 64)
bits_at width (negsuc n) = None

-- the width that a datum says
abbrev pub width_in : ℤ → ℕ
width_in (pos n) = n / 2 ^ 64
width_in (negsuc n) = 0

-- a constant that is no integer of such a width, by the form of its text
abbrev pub other_constant : ℕ → ℤ
other_constant form = negsuc form

abbrev pub form_in : ℤ → Option ℕ
form_in (pos n) = None
form_in (negsuc n) = Some n

-- the truth of an integer of one bit
abbrev pub is_one : ℕ → Bool
is_one n = nat_eq n 1

abbrev pub truth : ℤ → Option Bool
truth c = option_map is_one (bits_at 1 c)

abbrev pub bit : Bool → ℕ
bit true = 1
bit false = 0

-- the width and the bits of a datum that is an integer
abbrev pub with_width : (width bits : ℕ) → ℕ × ℕ
with_width width bits = (width, bits)

abbrev pub integer_in : ℤ → Option (ℕ × ℕ)
integer_in datum = option_map (with_width (width_in datum)) (bits_at (width_in datum) datum)

-- these bits of the width are this value, or where that is negative, what is left of it
abbrev pub IsValue : (width : ℕ) → (value : ℤ) → (bits : ℕ) → Type 0
IsValue width value bits = (value ≡ pos bits) ⊎ (value +ℤ pos (2 ^ bits_of_width width) ≡ pos bits)

-- from the least number with a sign to the greatest one without
abbrev pub FitsWidth : (width : ℕ) → (value : ℤ) → Type 0
FitsWidth width (pos n) = n < 2 ^ bits_of_width width
FitsWidth width (negsuc n) = 2 * suc n ≤ 2 ^ bits_of_width width

-- the datum is this value at this width
abbrev pub IsInteger : (width : ℕ) → (value datum : ℤ) → Type 0
IsInteger width value datum = (bits : ℕ) × (bits_at width datum ≡ Some bits) × IsValue width value bits
