-- Numbers of 64 signed bits, and what is known of sums, products and quotients.
use Rattle.std.specs.Prelude.{ℕ, zero, suc, ◌^◌, nat_lt, if◌then◌else◌, Bool, true, false, List, Option, Some, None, option_map, slice_index_or, ℤ, pos, negsuc, ◌+ℤ◌, ◌*ℤ◌, int_div}
use Rattle.std.specs.Int.{w64, int_wrap}
use Rattle.pliron_core.specs.declared.attrs.Head.{Head}
use Rattle.pliron_dialect.specs.Roles.{is_zero}

-- whether the number lies within 64 signed bits
abbrev pub fits : ℤ → Bool
fits (pos n) = nat_lt n (2 ^ 63)
fits (negsuc n) = nat_lt n (2 ^ 63)

-- sums and products wrap
abbrev pub wrapping_sum : ℤ → ℤ → ℤ
wrapping_sum a b = int_wrap w64 (a +ℤ b)

abbrev pub wrapping_product : ℤ → ℤ → ℤ
wrapping_product a b = int_wrap w64 (a *ℤ b)

-- the quotient cut toward zero, unless b is 0 or the quotient doesn't fit
abbrev pub quotient : ℤ → ℤ → Option ℤ
quotient a b = if is_zero b then None else if fits (int_div a b) then Some (int_div a b) else None

-- what is known of a sum, a product or a quotient; of a product one factor that is 0 suffices
abbrev pub known_sum : Option ℤ → Option ℤ → Option ℤ
known_sum (Some a) (Some b) = Some (wrapping_sum a b)
known_sum _ _ = None

-- 0, if the number is 0
abbrev pub zero_only : ℤ → Option ℤ
zero_only n = if is_zero n then Some (pos 0) else None

abbrev pub known_product : Option ℤ → Option ℤ → Option ℤ
known_product (Some a) (Some b) = Some (wrapping_product a b)
known_product (Some a) None = zero_only a
known_product None (Some b) = zero_only b
known_product None None = None

abbrev pub known_quotient : Option ℤ → Option ℤ → Option ℤ
known_quotient (Some a) (Some b) = quotient a b
known_quotient _ _ = None

-- the number that is known at this place, brought into 64 signed bits
abbrev pub wrapped_known_at : List (Option ℤ) → ℕ → Option ℤ
wrapped_known_at known i = option_map (int_wrap w64) (slice_index_or known i None)

-- what a table says of what is known of the first two numbers
abbrev pub of_both : (Option ℤ → Option ℤ → Option ℤ) → Head → List (Option ℤ) → Option ℤ
of_both table h known = table (wrapped_known_at known 0) (wrapped_known_at known 1)
