-- Data as numbers of 64 signed bits, sums and products that wrap, and numbers that are known.
use Rattle.std.specs.Prelude.{ℕ, ◌^◌, nat_lt, if◌then◌else◌, ◌&&◌, Bool, true, false, List, [], ◌∷◌, Option, Some, None, is_some, slice_index_or, ℤ, pos, negsuc, int_lt, ◌+ℤ◌, ◌*ℤ◌}
use Rattle.std.specs.Int.{w64, int_wrap}
use Rattle.pliron_core.specs.declared.attrs.AttrObj.{AttrObj}
use Rattle.pliron_core.specs.declared.attrs.AttrObj.TheVariants.{Int, Text as Words}
use Rattle.pliron_laws.specs.Datum.{Datum, Empty, Number, Text, Join}
use Rattle.pliron_dialect.specs.Roles.{is_zero}
use Rattle.pliron_dialect_bench.specs.BenchNumbers.{fits}

-- a datum as a number: a number is brought into 64 signed bits, all else counts as 0
abbrev pub whole_number_of : Datum → ℤ
whole_number_of (Number n) = int_wrap w64 n
whole_number_of Empty = pos 0
whole_number_of (Text s) = pos 0
whole_number_of (Join a b) = pos 0

-- whether the attribute is such a number
abbrev pub is_whole_number : AttrObj → Bool
is_whole_number (Int n) = fits n
is_whole_number (Words s) = false

-- sums and products wrap
abbrev pub wrapped_sum : ℤ → ℤ → ℤ
wrapped_sum a b = int_wrap w64 (a +ℤ b)

abbrev pub wrapped_product : ℤ → ℤ → ℤ
wrapped_product a b = int_wrap w64 (a *ℤ b)

-- 1 if a is below b, else 0
abbrev pub less : ℤ → ℤ → ℤ
less a b = if int_lt a b then pos 1 else pos 0

-- what a branch decides by: the first of the data; its second edge where that is 0, else its first one
abbrev pub condition_of : List Datum → ℤ
condition_of [] = pos 0
condition_of (d ∷ ds) = whole_number_of d

abbrev pub edge_by_condition : ℤ → ℕ
edge_by_condition n = if is_zero n then 1 else 0

-- what is known of an operand, in 64 signed bits, by default 0, and that of the operand at a place
abbrev pub wrapped_or_zero : Option ℤ → ℤ
wrapped_or_zero None = pos 0
wrapped_or_zero (Some n) = int_wrap w64 n

abbrev pub known_at : List (Option ℤ) → ℕ → ℤ
known_at os i = wrapped_or_zero (slice_index_or os i None)

abbrev pub are_known : List (Option ℤ) → Bool
are_known [] = true
are_known (o ∷ os) = is_some o && are_known os

-- a number, where all operands are known
abbrev pub where_known : List (Option ℤ) → ℤ → Option ℤ
where_known os n = if are_known os then Some n else None
