-- What leaves an operand as it is, or gives one number, whatever the other data are: where LLVM says poison of these,
-- any answer will do.
use Rattle.std.specs.Prelude.{ℕ, ◌-◌, ◌^◌, nat_eq, nat_lt, if◌then◌else◌, Bool, true, false, not, ◌&&◌, Option, Some, None, option_map, ℤ}
use Rattle.pliron_bits.specs.declared.flags.Flags.{Flags}
use Rattle.pliron_bits.specs.declared.operators.BinaryOperator.{BinaryOperator}
use Rattle.pliron_bits.specs.declared.operators.BinaryOperator.TheVariants.{Add, Subtract, Multiply, UnsignedDivide, SignedDivide, UnsignedRemainder, SignedRemainder, ShiftLeft, LogicalShiftRight, ArithmeticShiftRight, And, Or, Xor, UnsignedMinimum, SignedMinimum, UnsignedMaximum, SignedMaximum, UnsignedDivideUp, SignedDivideUp, SignedDivideDown}
use Rattle.pliron_bits.specs.declared.operators.Predicate.{Predicate}
use Rattle.pliron_bits.specs.declared.operators.Predicate.TheVariants.{Equal, NotEqual, SignedLess, SignedLessEqual, SignedGreater, SignedGreaterEqual, UnsignedLess, UnsignedLessEqual, UnsignedGreater, UnsignedGreaterEqual}
use Rattle.pliron_dialect.specs.declared.identity.Absorption.{Absorption}
use Rattle.pliron_dialect.specs.declared.identity.Identity.{Identity}
use Rattle.pliron_dialect.specs.Identities.{no_identity}
use Rattle.pliron_dialect_mlir.specs.Data.{is_width, bits_of_width, number, some_if, bit}

-- the number of the width with these bits, where it is one
abbrev pub number_at : (width bits : ℕ) → Option ℤ
number_at width bits = some_if (is_width width) (number width bits)

-- 0, 1 read as signed, which is none at one bit, and all bits of the width
abbrev pub zero_at : ℕ → Option ℤ
zero_at width = number_at width 0

abbrev pub one_at : ℕ → Option ℤ
one_at width = some_if (is_width width && nat_lt 1 width) (number width 1)

abbrev pub all_ones_at : ℕ → Option ℤ
all_ones_at width = number_at width (2 ^ bits_of_width width - 1)

-- the least and the greatest number that is read as signed
abbrev pub least_at : ℕ → Option ℤ
least_at width = number_at width (2 ^ (bits_of_width width - 1))

abbrev pub greatest_at : ℕ → Option ℤ
greatest_at width = number_at width (2 ^ (bits_of_width width - 1) - 1)

-- the number leaves the first operand; either operand, and of equal ones the first
abbrev pub as_second : Option ℤ → Identity
as_second n = record no_identity { neutral = n }

abbrev pub as_either : Option ℤ → Bool → Identity
as_either n idempotent = record no_identity { neutral = n; either_side = true; idempotent = idempotent }

-- equal operands give the number; the number gives itself; the one number gives the other
abbrev pub with_equal : Identity → Option ℤ → Identity
with_equal i n = record i { equal = n }

abbrev pub to_itself : ℤ → Absorption
to_itself n = record { operand = n; result = n }

abbrev pub with_absorbing : Identity → Option ℤ → Identity
with_absorbing i n = record i { absorbing = option_map to_itself n }

abbrev pub zero_by : ℕ → ℤ → Absorption
zero_by width n = record { operand = n; result = number width 0 }

abbrev pub rest_by : ℕ → Option ℤ → Identity
rest_by width n = record no_identity { absorbing = option_map (zero_by width) n }

-- a cast to the same width leaves its operand
abbrev pub of_cast : (width to : ℕ) → Identity
of_cast width to = record no_identity { only = is_width width && nat_eq width to }

-- what a comparison of equal numbers gives
abbrev pub holds_of_equal : Predicate → Bool
holds_of_equal Equal = true
holds_of_equal NotEqual = false
holds_of_equal SignedLess = false
holds_of_equal SignedLessEqual = true
holds_of_equal SignedGreater = false
holds_of_equal SignedGreaterEqual = true
holds_of_equal UnsignedLess = false
holds_of_equal UnsignedLessEqual = true
holds_of_equal UnsignedGreater = false
holds_of_equal UnsignedGreaterEqual = true

abbrev pub truth_of_equal : Predicate → ℤ
truth_of_equal predicate = number 1 (bit (holds_of_equal predicate))

abbrev pub of_compare : Option Predicate → ℕ → Identity
of_compare predicate width = if is_width width then with_equal no_identity (option_map truth_of_equal predicate) else no_identity

-- an `or` that promises operands without a common bit has none that are equal, but for 0, and none beside all bits
abbrev pub or_identity : Bool → ℕ → Identity
or_identity true width = as_either (zero_at width) false
or_identity false width = with_absorbing (as_either (zero_at width) true) (all_ones_at width)

abbrev pub identity_at : BinaryOperator → Flags → ℕ → Identity
identity_at Add flags width = as_either (zero_at width) false
identity_at Subtract flags width = with_equal (as_second (zero_at width)) (zero_at width)
identity_at Multiply flags width = with_absorbing (as_either (one_at width) false) (zero_at width)
identity_at UnsignedDivide flags width = as_second (one_at width)
identity_at SignedDivide flags width = as_second (one_at width)
identity_at UnsignedRemainder flags width = rest_by width (number_at width 1)
identity_at SignedRemainder flags width = rest_by width (one_at width)
identity_at ShiftLeft flags width = as_second (zero_at width)
identity_at LogicalShiftRight flags width = as_second (zero_at width)
identity_at ArithmeticShiftRight flags width = as_second (zero_at width)
identity_at And flags width = with_absorbing (as_either (all_ones_at width) true) (zero_at width)
identity_at Or flags width = or_identity flags.disjoint width
identity_at Xor flags width = with_equal (as_either (zero_at width) false) (zero_at width)
identity_at UnsignedMinimum flags width = with_absorbing (as_either None true) (zero_at width)
identity_at SignedMinimum flags width = with_absorbing (as_either None true) (least_at width)
identity_at UnsignedMaximum flags width = with_absorbing (as_either None true) (all_ones_at width)
identity_at SignedMaximum flags width = with_absorbing (as_either None true) (greatest_at width)
identity_at UnsignedDivideUp flags width = as_second (one_at width)
identity_at SignedDivideUp flags width = as_second (one_at width)
identity_at SignedDivideDown flags width = as_second (one_at width)
