-- What LLVM's operations on integers compute: none where the answer has no meaning, which LLVM calls poison, or where
-- the operation must not be run. Operands are numbers of the width.
use Rattle.std.specs.Prelude.{ℕ, ◌+◌, ◌-◌, ◌*◌, ◌/◌, ◌%◌, ◌^◌, min, max, nat_eq, nat_lt, nat_le, if◌then◌else◌, Bool, not, ◌&&◌, ◌||◌, Option, Some, None, ℤ, pos, neg_ℤ, ◌+ℤ◌, ◌-ℤ◌, ◌*ℤ◌, int_lt, int_div, int_rem, unsigned_abs, bit_and, bit_or, bit_xor}
use Rattle.std.specs.Int.{int_div_euclid, div_ceil}
use Rattle.pliron_bits.specs.declared.flags.Flags.{Flags}
use Rattle.pliron_bits.specs.Numbers.{signed_value, is_signed, bits_of}

-- a number, unless something speaks against it
abbrev pub unless_flagged : Bool → ℕ → Option ℕ
unless_flagged b n = if b then None else Some n

-- ---- what may wrap: by the exact result read as signed, whether the unsigned one is exact, and the unsigned one

abbrev pub wraps : Flags → (width : ℕ) → ℤ → Bool → Bool
wraps f width z exact = (f.no_signed_wrap && not (is_signed width z)) || (f.no_unsigned_wrap && not exact)

abbrev pub wrap : Flags → (width : ℕ) → ℤ → Bool → ℕ → Option ℕ
wrap f width z exact n = unless_flagged (wraps f width z exact) (n % 2 ^ width)

abbrev pub sum : Flags → (width a b : ℕ) → Option ℕ
sum f width a b = wrap f width (signed_value width a +ℤ signed_value width b) (nat_lt (a + b) (2 ^ width)) (a + b)

abbrev pub difference : Flags → (width a b : ℕ) → Option ℕ
difference f width a b = wrap f width (signed_value width a -ℤ signed_value width b) (nat_le b a) (a + (2 ^ width - b))

abbrev pub product : Flags → (width a b : ℕ) → Option ℕ
product f width a b = wrap f width (signed_value width a *ℤ signed_value width b) (nat_lt (a * b) (2 ^ width)) (a * b)

-- a shift to the left is a product; one by the width or more has no meaning
abbrev pub shifted_left : Flags → (width a b : ℕ) → Option ℕ
shifted_left f width a b =
    if nat_lt b width
    then wrap f width (signed_value width a *ℤ pos (2 ^ b)) (nat_lt (a * 2 ^ b) (2 ^ width)) (a * 2 ^ b)
    else None

abbrev pub truncation : Flags → (width to a : ℕ) → Option ℕ
truncation f width to a = wrap f to (signed_value width a) (nat_lt a (2 ^ to)) a

-- ---- division: not by 0, not the least signed number by -1, and where it has to be exact without a remainder

abbrev pub unsigned_quotient : Flags → (a b : ℕ) → Option ℕ
unsigned_quotient f a b = unless_flagged (nat_eq b 0 || (f.exact && not (nat_eq (a % b) 0))) (a / b)

abbrev pub unsigned_quotient_up : (a b : ℕ) → Option ℕ
unsigned_quotient_up a b = unless_flagged (nat_eq b 0) (div_ceil a b)

abbrev pub unsigned_remainder : (a b : ℕ) → Option ℕ
unsigned_remainder a b = unless_flagged (nat_eq b 0) (a % b)

-- the signed quotient, which rounds to 0
abbrev pub quotient_in : (width a b : ℕ) → ℤ
quotient_in width a b = int_div (signed_value width a) (signed_value width b)

abbrev pub remainder_in : (width a b : ℕ) → ℤ
remainder_in width a b = int_rem (signed_value width a) (signed_value width b)

abbrev pub divides : (width a b : ℕ) → Bool
divides width a b = not (nat_eq b 0) && is_signed width (quotient_in width a b)

abbrev pub signed_quotient : Flags → (width a b : ℕ) → Option ℕ
signed_quotient f width a b =
    unless_flagged (not (divides width a b) || (f.exact && not (nat_eq (unsigned_abs (remainder_in width a b)) 0))) (bits_of width (quotient_in width a b))

abbrev pub signed_remainder : (width a b : ℕ) → Option ℕ
signed_remainder width a b = unless_flagged (not (divides width a b)) (bits_of width (remainder_in width a b))

-- the greatest whole number that isn't past the quotient, and the least one that the quotient isn't past
abbrev pub floor_of : (a b : ℤ) → ℤ
floor_of a b = if int_lt (pos 0) b then int_div_euclid a b else int_div_euclid (neg_ℤ a) (neg_ℤ b)

abbrev pub ceiling_of : (a b : ℤ) → ℤ
ceiling_of a b = if int_lt (pos 0) b then int_div_euclid (neg_ℤ a) (neg_ℤ b) else int_div_euclid a b

-- the bits of a quotient that the signed numbers of the width reach
abbrev pub bits_in_reach : (width : ℕ) → ℤ → Option ℕ
bits_in_reach width quotient = unless_flagged (not (is_signed width quotient)) (bits_of width quotient)

abbrev pub signed_quotient_up : (width a b : ℕ) → Option ℕ
signed_quotient_up width a b = if nat_eq b 0 then None else bits_in_reach width (ceiling_of (signed_value width a) (signed_value width b))

abbrev pub signed_quotient_down : (width a b : ℕ) → Option ℕ
signed_quotient_down width a b = if nat_eq b 0 then None else bits_in_reach width (floor_of (signed_value width a) (signed_value width b))

-- ---- shifts to the right: quotients by a power of two that round down

-- whether a shift to the right has no meaning: one by the width or more, or one that loses a bit where it must not
abbrev pub shift_fails : Flags → (width a b : ℕ) → Bool
shift_fails f width a b = nat_le width b || (f.exact && not (nat_eq (a % 2 ^ b) 0))

abbrev pub logical_shift : Flags → (width a b : ℕ) → Option ℕ
logical_shift f width a b = unless_flagged (shift_fails f width a b) (a / 2 ^ b)

abbrev pub arithmetic_shift : Flags → (width a b : ℕ) → Option ℕ
arithmetic_shift f width a b = unless_flagged (shift_fails f width a b) (bits_of width (int_div_euclid (signed_value width a) (pos (2 ^ b))))

-- ---- bits

abbrev pub conjunction : (a b : ℕ) → Option ℕ
conjunction a b = Some (bit_and a b)

abbrev pub disjunction : Flags → (a b : ℕ) → Option ℕ
disjunction f a b = unless_flagged (f.disjoint && not (nat_eq (bit_and a b) 0)) (bit_or a b)

abbrev pub exclusion : (a b : ℕ) → Option ℕ
exclusion a b = Some (bit_xor a b)

-- ---- order

abbrev pub signed_less : (width a b : ℕ) → Bool
signed_less width a b = int_lt (signed_value width a) (signed_value width b)

abbrev pub unsigned_minimum : (a b : ℕ) → Option ℕ
unsigned_minimum a b = Some (min a b)

abbrev pub unsigned_maximum : (a b : ℕ) → Option ℕ
unsigned_maximum a b = Some (max a b)

abbrev pub signed_minimum : (width a b : ℕ) → Option ℕ
signed_minimum width a b = Some (if signed_less width b a then b else a)

abbrev pub signed_maximum : (width a b : ℕ) → Option ℕ
signed_maximum width a b = Some (if signed_less width a b then b else a)

-- ---- extensions

abbrev pub zero_extended : Flags → (width a : ℕ) → Option ℕ
zero_extended f width a = unless_flagged (f.nonnegative && nat_le (2 ^ (width - 1)) a) a

abbrev pub sign_extended : (width to a : ℕ) → Option ℕ
sign_extended width to a = Some (bits_of to (signed_value width a))
