-- A number of a width is one below 2 ^ width. It is read as itself, or as a signed one.
use Rattle.std.specs.Prelude.{ℕ, ◌-◌, ◌%◌, ◌^◌, nat_lt, if◌then◌else◌, Bool, ◌&&◌, ℤ, pos, negsuc, neg_ℤ, ◌-ℤ◌, int_lt, int_le}

-- the number read as signed: those of the upper half are negative
abbrev pub signed_value : (width n : ℕ) → ℤ
signed_value width n = if nat_lt n (2 ^ (width - 1)) then pos n else pos n -ℤ pos (2 ^ width)

-- whether the signed numbers of this width reach so far
abbrev pub is_signed : ℕ → ℤ → Bool
is_signed width z = int_le (neg_ℤ (pos (2 ^ (width - 1)))) z && int_lt z (pos (2 ^ (width - 1)))

-- the number of this width that differs from the whole number by a multiple of 2 ^ width
abbrev pub bits_of : ℕ → ℤ → ℕ
bits_of width (pos n) = n % 2 ^ width
bits_of width (negsuc n) = 2 ^ width - 1 - n % 2 ^ width
