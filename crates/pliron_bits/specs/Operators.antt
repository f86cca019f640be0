-- The operations by name.
use Rattle.std.specs.Prelude.{ℕ, nat_eq, nat_lt, nat_le, not, if◌then◌else◌, Bool, Option, Some, None}
use Rattle.pliron_bits.specs.declared.flags.Flags.{Flags}
use Rattle.pliron_bits.specs.declared.operators.BinaryOperator.{BinaryOperator}
use Rattle.pliron_bits.specs.declared.operators.BinaryOperator.TheVariants.{Add, Subtract, Multiply, UnsignedDivide, SignedDivide, UnsignedRemainder, SignedRemainder, ShiftLeft, LogicalShiftRight, ArithmeticShiftRight, And, Or, Xor, UnsignedMinimum, SignedMinimum, UnsignedMaximum, SignedMaximum, UnsignedDivideUp, SignedDivideUp, SignedDivideDown}
use Rattle.pliron_bits.specs.declared.operators.Predicate.{Predicate}
use Rattle.pliron_bits.specs.declared.operators.Predicate.TheVariants.{Equal, NotEqual, SignedLess, SignedLessEqual, SignedGreater, SignedGreaterEqual, UnsignedLess, UnsignedLessEqual, UnsignedGreater, UnsignedGreaterEqual}
use Rattle.pliron_bits.specs.declared.operators.Cast.{Cast}
use Rattle.pliron_bits.specs.declared.operators.Cast.TheVariants.{ZeroExtend, SignExtend, Truncate}
use Rattle.pliron_bits.specs.Arithmetic.{sum, difference, product, shifted_left, truncation, unsigned_quotient, unsigned_remainder, signed_quotient, signed_remainder, unsigned_quotient_up, signed_quotient_up, signed_quotient_down, logical_shift, arithmetic_shift, conjunction, disjunction, exclusion, signed_less, unsigned_minimum, unsigned_maximum, signed_minimum, signed_maximum, zero_extended, sign_extended}

abbrev pub binary : BinaryOperator → Flags → (width a b : ℕ) → Option ℕ
binary Add f width a b = sum f width a b
binary Subtract f width a b = difference f width a b
binary Multiply f width a b = product f width a b
binary UnsignedDivide f width a b = unsigned_quotient f a b
binary SignedDivide f width a b = signed_quotient f width a b
binary UnsignedRemainder f width a b = unsigned_remainder a b
binary SignedRemainder f width a b = signed_remainder width a b
binary ShiftLeft f width a b = shifted_left f width a b
binary LogicalShiftRight f width a b = logical_shift f width a b
binary ArithmeticShiftRight f width a b = arithmetic_shift f width a b
binary And f width a b = conjunction a b
binary Or f width a b = disjunction f a b
binary Xor f width a b = exclusion a b
binary UnsignedMinimum f width a b = unsigned_minimum a b
binary SignedMinimum f width a b = signed_minimum width a b
binary UnsignedMaximum f width a b = unsigned_maximum a b
binary SignedMaximum f width a b = signed_maximum width a b
binary UnsignedDivideUp f width a b = unsigned_quotient_up a b
binary SignedDivideUp f width a b = signed_quotient_up width a b
binary SignedDivideDown f width a b = signed_quotient_down width a b

abbrev pub comparison : Predicate → (width a b : ℕ) → Bool
comparison Equal width a b = nat_eq a b
comparison NotEqual width a b = not (nat_eq a b)
comparison SignedLess width a b = signed_less width a b
comparison SignedLessEqual width a b = not (signed_less width b a)
comparison SignedGreater width a b = signed_less width b a
comparison SignedGreaterEqual width a b = not (signed_less width a b)
comparison UnsignedLess width a b = nat_lt a b
comparison UnsignedLessEqual width a b = nat_le a b
comparison UnsignedGreater width a b = nat_lt b a
comparison UnsignedGreaterEqual width a b = nat_le b a

-- an extension is to no narrower type, a truncation to no wider one
abbrev pub cast_to : Cast → Flags → (width to a : ℕ) → Option ℕ
cast_to ZeroExtend f width to a = if nat_le width to then zero_extended f width a else None
cast_to SignExtend f width to a = if nat_le width to then sign_extended width to a else None
cast_to Truncate f width to a = if nat_le to width then truncation f width to a else None

-- ---- numbers of names

abbrev pub number_of_operator : BinaryOperator → ℕ
number_of_operator Add = 0
number_of_operator Subtract = 1
number_of_operator Multiply = 2
number_of_operator UnsignedDivide = 3
number_of_operator SignedDivide = 4
number_of_operator UnsignedRemainder = 5
number_of_operator SignedRemainder = 6
number_of_operator ShiftLeft = 7
number_of_operator LogicalShiftRight = 8
number_of_operator ArithmeticShiftRight = 9
number_of_operator And = 10
number_of_operator Or = 11
number_of_operator Xor = 12
number_of_operator UnsignedMinimum = 13
number_of_operator SignedMinimum = 14
number_of_operator UnsignedMaximum = 15
number_of_operator SignedMaximum = 16
number_of_operator UnsignedDivideUp = 17
number_of_operator SignedDivideUp = 18
number_of_operator SignedDivideDown = 19

abbrev pub operator_of_number : ℕ → Option BinaryOperator
operator_of_number n =
    if nat_eq n 0 then Some Add
    else if nat_eq n 1 then Some Subtract
    else if nat_eq n 2 then Some Multiply
    else if nat_eq n 3 then Some UnsignedDivide
    else if nat_eq n 4 then Some SignedDivide
    else if nat_eq n 5 then Some UnsignedRemainder
    else if nat_eq n 6 then Some SignedRemainder
    else if nat_eq n 7 then Some ShiftLeft
    else if nat_eq n 8 then Some LogicalShiftRight
    else if nat_eq n 9 then Some ArithmeticShiftRight
    else if nat_eq n 10 then Some And
    else if nat_eq n 11 then Some Or
    else if nat_eq n 12 then Some Xor
    else if nat_eq n 13 then Some UnsignedMinimum
    else if nat_eq n 14 then Some SignedMinimum
    else if nat_eq n 15 then Some UnsignedMaximum
    else if nat_eq n 16 then Some SignedMaximum
    else if nat_eq n 17 then Some UnsignedDivideUp
    else if nat_eq n 18 then Some SignedDivideUp
    else if nat_eq n 19 then Some SignedDivideDown
    else None

abbrev pub number_of_predicate : Predicate → ℕ
number_of_predicate Equal = 0
number_of_predicate NotEqual = 1
number_of_predicate SignedLess = 2
number_of_predicate SignedLessEqual = 3
number_of_predicate SignedGreater = 4
number_of_predicate SignedGreaterEqual = 5
number_of_predicate UnsignedLess = 6
number_of_predicate UnsignedLessEqual = 7
number_of_predicate UnsignedGreater = 8
number_of_predicate UnsignedGreaterEqual = 9

abbrev pub predicate_of_number : ℕ → Option Predicate
predicate_of_number n =
    if nat_eq n 0 then Some Equal
    else if nat_eq n 1 then Some NotEqual
    else if nat_eq n 2 then Some SignedLess
    else if nat_eq n 3 then Some SignedLessEqual
    else if nat_eq n 4 then Some SignedGreater
    else if nat_eq n 5 then Some SignedGreaterEqual
    else if nat_eq n 6 then Some UnsignedLess
    else if nat_eq n 7 then Some UnsignedLessEqual
    else if nat_eq n 8 then Some UnsignedGreater
    else if nat_eq n 9 then Some UnsignedGreaterEqual
    else None
