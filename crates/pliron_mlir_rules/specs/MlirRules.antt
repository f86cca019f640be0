-- Rules on integers, as a table from views to terms.
use Rattle.std.specs.Prelude.{if◌then◌else◌, nat_eq, nat_lt, nat_le, not, int_le, bit_and, bit_or, bit_xor, ℕ, ◌+◌, ◌-◌, ◌%◌, ◌^◌, Bool, true, false, ◌&&◌, ◌||◌, List, [], ◌∷◌, Option, Some, None, ℤ, pos}
use Rattle.std.specs.Option.{option_or}
use Rattle.std.specs.Int.{w64, trailing_zeros}
use Rattle.pliron_core.specs.declared.attrs.AttrObj.{AttrObj}
use Rattle.pliron_core.specs.declared.attrs.AttrObj.TheVariants.{Int, Text}
use Rattle.pliron_core.specs.declared.attrs.Head.{Head}
use Rattle.pliron_bits.specs.declared.flags.Flags.{Flags}
use Rattle.pliron_bits.specs.declared.operators.BinaryOperator.{BinaryOperator}
use Rattle.pliron_bits.specs.declared.operators.BinaryOperator.TheVariants.{Add, Subtract, Multiply, UnsignedDivide, UnsignedRemainder, ShiftLeft, LogicalShiftRight, And, Or, Xor}
use Rattle.pliron_bits.specs.declared.operators.Predicate.{Predicate}
use Rattle.pliron_bits.specs.declared.operators.Predicate.TheVariants.{Equal, NotEqual, SignedLess, SignedLessEqual, SignedGreater, SignedGreaterEqual, UnsignedLess, UnsignedLessEqual, UnsignedGreater, UnsignedGreaterEqual}
use Rattle.pliron_bits.specs.declared.operators.Cast.{Cast}
use Rattle.pliron_bits.specs.declared.operators.Cast.TheVariants.{ZeroExtend, SignExtend, Truncate}
use Rattle.pliron_bits.specs.Numbers.{signed_value}
use Rattle.pliron_bits.specs.Arithmetic.{sum}
use Rattle.pliron_dialect_mlir.specs.declared.computations.Comparison.{Comparison}
use Rattle.pliron_dialect_mlir.specs.declared.computations.Arithmetic.{Arithmetic}
use Rattle.pliron_dialect_mlir.specs.declared.computations.Conversion.{Conversion}
use Rattle.pliron_dialect_mlir.specs.Data.{bits_of_width, number, bits_at, some_if}
use Rattle.pliron_dialect_mlir.specs.declared.kind.Class.TheVariants.{Compare}
use Rattle.pliron_dialect_mlir.specs.ClassNumbers.{number_of_class}
use Rattle.pliron_dialect_mlir.specs.Computations.{comparison_of, conversion_of, arithmetic_of, head_of_comparison, head_of_conversion, head_of_arithmetic}
use Rattle.pliron_rewrite_rules.specs.declared.view.Leaf.{Leaf}
use Rattle.pliron_rewrite_rules.specs.declared.view.Leaf.TheVariants.{Unknown, Known}
use Rattle.pliron_rewrite_rules.specs.declared.view.Operand.{Operand}
use Rattle.pliron_rewrite_rules.specs.declared.view.Operand.TheVariants.{Plain, Made}
use Rattle.pliron_rewrite_rules.specs.declared.view.View.{View}
use Rattle.pliron_rewrite_rules.specs.declared.term.Atom.{Atom}
use Rattle.pliron_rewrite_rules.specs.declared.term.Atom.TheVariants.{Named, Constant}
use Rattle.pliron_rewrite_rules.specs.declared.term.Term.{Term}
use Rattle.pliron_rewrite_rules.specs.declared.term.Term.TheVariants.{Atomic, Make}
use Rattle.pliron_rewrite_rules.specs.Views.{leaf_value, operand_value}
use Rattle.pliron_mlir_rules.specs.declared.seen.CastSource.{CastSource}
use Rattle.pliron_mlir_rules.specs.declared.seen.ConstantOperation.{ConstantOperation}
use Rattle.pliron_mlir_rules.specs.declared.constants.AssociativeOperator.{AssociativeOperator}
use Rattle.pliron_mlir_rules.specs.declared.constants.AssociativeOperator.TheVariants.{Conjunction, Disjunction, Exclusion}

-- ---- what is seen of an operand

-- the bits of the constant of this width that it is known to be
abbrev pub constant_bits : (width : ℕ) → AttrObj → Option ℕ
constant_bits width (Int n) = bits_at width n
constant_bits width (Text s) = None

abbrev pub leaf_bits : (width : ℕ) → Leaf → Option ℕ
leaf_bits width (Unknown v) = None
leaf_bits width (Known v c) = constant_bits width c

abbrev pub known_bits : (width : ℕ) → Operand → Option ℕ
known_bits width (Plain leaf) = leaf_bits width leaf
known_bits width (Made v head leaves) = None

-- whether the cast has more bits, or fewer, as its name says, and promises nothing
abbrev pub is_plain_cast : Cast → Conversion → Bool
is_plain_cast ZeroExtend c = nat_lt (bits_of_width c.width) (bits_of_width c.to) && not c.flags.nonnegative
is_plain_cast SignExtend c = nat_lt (bits_of_width c.width) (bits_of_width c.to)
is_plain_cast Truncate c = nat_lt (bits_of_width c.to) (bits_of_width c.width) && (not c.flags.no_signed_wrap && not c.flags.no_unsigned_wrap)

abbrev pub source_leaf : Cast → (to : ℕ) → Option Conversion → List Leaf → Option CastSource
source_leaf cast to (Some c) (leaf ∷ []) = some_if (nat_eq c.to to && is_plain_cast cast c) (record { value = leaf_value leaf; width = c.width })
source_leaf cast to _ _ = None

-- the value that the operand casts to this width
abbrev pub source_of : Cast → (to : ℕ) → Operand → Option CastSource
source_of cast to (Plain leaf) = None
source_of cast to (Made v head leaves) = source_leaf cast to (conversion_of cast head) leaves

-- whether results may wrap, and operands may have bits in common
abbrev pub wraps_freely : Flags → Bool
wraps_freely flags = not flags.no_signed_wrap && not flags.no_unsigned_wrap

abbrev pub promises_nothing : Flags → Bool
promises_nothing flags = wraps_freely flags && not flags.disjoint

abbrev pub no_flags : Flags
no_flags = record { no_signed_wrap = false; no_unsigned_wrap = false; exact = false; disjoint = false; nonnegative = false }

abbrev pub are_alike : (x y : Bool) → Bool
are_alike true y = y
are_alike false y = not y

-- whether both promise the same of how results wrap, and neither that operands have no bits in common
abbrev pub promise_alike : (f g : Flags) → Bool
promise_alike f g =
    (are_alike f.no_signed_wrap g.no_signed_wrap && are_alike f.no_unsigned_wrap g.no_unsigned_wrap) && (not f.disjoint && not g.disjoint)

abbrev pub operation_with : (value : ℕ) → Option ℕ → Option ConstantOperation
operation_with value (Some c) = Some (record { value = value; constant = c })
operation_with value None = None

abbrev pub constant_leaves : Flags → (width : ℕ) → Option Arithmetic → List Leaf → Option ConstantOperation
constant_leaves flags width (Some s) (x ∷ c ∷ []) =
    if nat_eq s.width width && promise_alike flags s.flags then operation_with (leaf_value x) (leaf_bits width c) else None
constant_leaves flags width _ _ = None

-- the value and the constant of which the operator makes the operand, where it promises what these flags do
abbrev pub operation_alike : BinaryOperator → Flags → (width : ℕ) → Operand → Option ConstantOperation
operation_alike operator flags width (Plain leaf) = None
operation_alike operator flags width (Made v head leaves) = constant_leaves flags width (arithmetic_of operator head) leaves

-- the same, where it promises nothing
abbrev pub constant_operation : BinaryOperator → (width : ℕ) → Operand → Option ConstantOperation
constant_operation operator width a = operation_alike operator no_flags width a

-- ---- comparisons of extensions

-- how the numbers compare that are read as unsigned
abbrev pub unsigned_of : Predicate → Predicate
unsigned_of Equal = Equal
unsigned_of NotEqual = NotEqual
unsigned_of SignedLess = UnsignedLess
unsigned_of SignedLessEqual = UnsignedLessEqual
unsigned_of SignedGreater = UnsignedGreater
unsigned_of SignedGreaterEqual = UnsignedGreaterEqual
unsigned_of UnsignedLess = UnsignedLess
unsigned_of UnsignedLessEqual = UnsignedLessEqual
unsigned_of UnsignedGreater = UnsignedGreater
unsigned_of UnsignedGreaterEqual = UnsignedGreaterEqual

-- how what is extended compares: without signs, where zeros are put before
abbrev pub narrow_predicate : Cast → Predicate → Predicate
narrow_predicate ZeroExtend p = unsigned_of p
narrow_predicate SignExtend p = p
narrow_predicate Truncate p = p

-- the number of v bits whose extension to w bits is this one
abbrev pub narrow_high : (v w bits : ℕ) → Option ℕ
narrow_high v w bits = some_if (nat_le (2 ^ w - 2 ^ (v - 1)) bits) (bits - (2 ^ w - 2 ^ v))

abbrev pub narrow_number : Cast → (v w bits : ℕ) → Option ℕ
narrow_number ZeroExtend v w bits = some_if (nat_lt bits (2 ^ v)) bits
narrow_number SignExtend v w bits = if nat_lt bits (2 ^ (v - 1)) then Some bits else narrow_high v w bits
narrow_number Truncate v w bits = None

-- the value of this width; the number that it holds, as one of it
abbrev pub of_width : (width : ℕ) → Option CastSource → Option Atom
of_width width (Some n) = some_if (nat_eq n.width width) (Named n.value)
of_width width None = None

abbrev pub number_atom : (width : ℕ) → Option ℕ → Option Atom
number_atom width (Some bits) = Some (Constant (Int (number width bits)))
number_atom width None = None

abbrev pub fitting_constant : Cast → (width to : ℕ) → Option ℕ → Option Atom
fitting_constant cast width to (Some bits) = number_atom width (narrow_number cast (bits_of_width width) (bits_of_width to) bits)
fitting_constant cast width to None = None

-- what the operand of the width `to` is the extension of
abbrev pub narrow_atom : Cast → (width to : ℕ) → Operand → Option Atom
narrow_atom cast width to b = option_or (of_width width (source_of cast to b)) (fitting_constant cast width to (known_bits to b))

abbrev pub narrow_comparison : Cast → Comparison → CastSource → Atom → Term
narrow_comparison cast c a b = Make (head_of_comparison (record { width = a.width; predicate = narrow_predicate cast c.predicate })) (Named a.value ∷ b ∷ [])

abbrev pub comparison_term : Cast → Comparison → CastSource → Option Atom → Option Term
comparison_term cast c a (Some b) = Some (narrow_comparison cast c a b)
comparison_term cast c a None = None

abbrev pub comparison_from : Cast → Comparison → Option CastSource → Operand → Option Term
comparison_from cast c (Some a) b = comparison_term cast c a (narrow_atom cast a.width c.width b)
comparison_from cast c None b = None

-- `icmp p (ext a) (ext b)`, or a constant in the place of the latter, is `icmp p a b`, of zero extensions without signs
abbrev pub compare_narrow : Cast → Option Comparison → (a b : Operand) → Option Term
compare_narrow cast (Some c) a b = comparison_from cast c (source_of cast c.width a) b
compare_narrow cast None a b = None

-- ---- casts of casts

-- the cast that two in a row are, from so many bits to so many, where it is one
abbrev pub joined_cast : (first second : Cast) → (from to : ℕ) → Option Cast
joined_cast ZeroExtend ZeroExtend from to = Some ZeroExtend
joined_cast ZeroExtend SignExtend from to = Some ZeroExtend
joined_cast ZeroExtend Truncate from to = Some (if nat_lt from to then ZeroExtend else Truncate)
joined_cast SignExtend ZeroExtend from to = None
joined_cast SignExtend SignExtend from to = Some SignExtend
joined_cast SignExtend Truncate from to = Some (if nat_lt from to then SignExtend else Truncate)
joined_cast Truncate ZeroExtend from to = None
joined_cast Truncate SignExtend from to = None
joined_cast Truncate Truncate from to = Some Truncate

abbrev pub plain_cast : (width to : ℕ) → Conversion
plain_cast width to = record { width = width; to = to; flags = no_flags }

-- this cast of the source: itself, where it has the width
abbrev pub cast_term : Option Cast → CastSource → (to : ℕ) → Option Term
cast_term (Some cast) s to =
    if nat_eq s.width to
    then Some (Atomic (Named s.value))
    else some_if (is_plain_cast cast (plain_cast s.width to)) (Make (head_of_conversion cast (plain_cast s.width to)) (Named s.value ∷ []))
cast_term None s to = None

abbrev pub joined_term : (first second : Cast) → Conversion → Option CastSource → Option Term
joined_term first second c (Some s) = cast_term (joined_cast first second (bits_of_width s.width) (bits_of_width c.to)) s c.to
joined_term first second c None = None

abbrev pub join_cast : (first second : Cast) → Conversion → (a : Operand) → Option Term
join_cast first second c a = joined_term first second c (source_of first c.width a)

-- a cast of a cast is one cast
abbrev pub join_casts : Cast → Option Conversion → (a : Operand) → Option Term
join_casts second (Some c) a =
    if is_plain_cast second c
    then option_or (join_cast ZeroExtend second c a) (option_or (join_cast SignExtend second c a) (join_cast Truncate second c a))
    else None
join_casts second None a = None

-- ---- masks

-- the low bits of the source, so many as the width between has
abbrev pub mask_term : Conversion → Option CastSource → Option Term
mask_term c (Some s) =
    some_if (nat_eq s.width c.to)
    (Make (head_of_arithmetic And (record { width = s.width; flags = no_flags })) (Named s.value ∷ Constant (Int (number s.width (2 ^ bits_of_width c.width - 1))) ∷ []))
mask_term c None = None

-- `zext (trunc x)`, where it has the width of `x`, is `x & mask`
abbrev pub mask_bits : Option Conversion → (a : Operand) → Option Term
mask_bits (Some c) a = if is_plain_cast ZeroExtend c then mask_term c (source_of Truncate c.width a) else None
mask_bits None a = None

-- ---- sums with constants

-- a promise of signs, or none
abbrev pub if_signed : Bool → Flags
if_signed b = record { no_signed_wrap = b; no_unsigned_wrap = false; exact = false; disjoint = false; nonnegative = false }

abbrev pub sum_with : (width : ℕ) → Bool → (value c : ℕ) → Term
sum_with width signed value c = Make (head_of_arithmetic Add (record { width = width; flags = if_signed signed })) (Named value ∷ Constant (Int (number width c)) ∷ [])

-- whether adding -c promises of signs what subtracting c does
abbrev pub may_negate : Arithmetic → (c : ℕ) → Bool
may_negate s c = nat_lt 0 c && (not s.flags.no_unsigned_wrap && not (s.flags.no_signed_wrap && nat_eq c (2 ^ (bits_of_width s.width - 1))))

abbrev pub negated_sum : Arithmetic → (value : ℕ) → Option ℕ → Option Term
negated_sum s value (Some c) = some_if (may_negate s c) (sum_with s.width s.flags.no_signed_wrap value (2 ^ bits_of_width s.width - c))
negated_sum s value None = None

-- `x - c` is `x + -c`
abbrev pub subtract_constant : Option Arithmetic → (a b : Operand) → Option Term
subtract_constant (Some s) a b = negated_sum s (operand_value a) (known_bits s.width b)
subtract_constant None a b = None

-- ---- strict comparisons

-- the predicate without what is equal
abbrev pub strict_of : Predicate → Predicate
strict_of Equal = Equal
strict_of NotEqual = NotEqual
strict_of SignedLess = SignedLess
strict_of SignedLessEqual = SignedLess
strict_of SignedGreater = SignedGreater
strict_of SignedGreaterEqual = SignedGreater
strict_of UnsignedLess = UnsignedLess
strict_of UnsignedLessEqual = UnsignedLess
strict_of UnsignedGreater = UnsignedGreater
strict_of UnsignedGreaterEqual = UnsignedGreater

-- the next number of so many bits, and the one before, unless the number is the last one
abbrev pub next_unless : (w last c : ℕ) → Option ℕ
next_unless w last c = some_if (not (nat_eq c last)) ((c + 1) % 2 ^ w)

abbrev pub before_unless : (w last c : ℕ) → Option ℕ
before_unless w last c = some_if (not (nat_eq c last)) ((c + (2 ^ w - 1)) % 2 ^ w)

-- the number with which the strict predicate compares what this one compares with c, where there is such a one
abbrev pub number_beside : Predicate → (w c : ℕ) → Option ℕ
number_beside SignedLessEqual w c = next_unless w (2 ^ (w - 1) - 1) c
number_beside SignedGreaterEqual w c = before_unless w (2 ^ (w - 1)) c
number_beside UnsignedLessEqual w c = next_unless w (2 ^ w - 1) c
number_beside UnsignedGreaterEqual w c = before_unless w 0 c
number_beside Equal w c = None
number_beside NotEqual w c = None
number_beside SignedLess w c = None
number_beside SignedGreater w c = None
number_beside UnsignedLess w c = None
number_beside UnsignedGreater w c = None

-- a comparison with a constant
abbrev pub compare_with : Comparison → (value c : ℕ) → Term
compare_with comparison value c = Make (head_of_comparison comparison) (Named value ∷ Constant (Int (number comparison.width c)) ∷ [])

abbrev pub strict_with : Comparison → (value : ℕ) → Option ℕ → Option Term
strict_with c value (Some k) = Some (compare_with (record { width = c.width; predicate = strict_of c.predicate }) value k)
strict_with c value None = None

abbrev pub strict_beside : Comparison → (value : ℕ) → Option ℕ → Option Term
strict_beside c value (Some k) = strict_with c value (number_beside c.predicate (bits_of_width c.width) k)
strict_beside c value None = None

-- `icmp sle x c` is `icmp slt x (c + 1)`, `icmp sge x c` is `icmp sgt x (c - 1)`, and so without signs
abbrev pub compare_strictly : Option Comparison → (a b : Operand) → Option Term
compare_strictly (Some c) a b = strict_beside c (operand_value a) (known_bits c.width b)
compare_strictly None a b = None

-- ---- constants that stand second

-- the predicate for the operands in the other order
abbrev pub swapped_of : Predicate → Predicate
swapped_of Equal = Equal
swapped_of NotEqual = NotEqual
swapped_of SignedLess = SignedGreater
swapped_of SignedLessEqual = SignedGreaterEqual
swapped_of SignedGreater = SignedLess
swapped_of SignedGreaterEqual = SignedLessEqual
swapped_of UnsignedLess = UnsignedGreater
swapped_of UnsignedLessEqual = UnsignedGreaterEqual
swapped_of UnsignedGreater = UnsignedLess
swapped_of UnsignedGreaterEqual = UnsignedLessEqual

-- whether the first is known, and the second isn't
abbrev pub is_first_known : Option ℕ → Option ℕ → Bool
is_first_known (Some c) None = true
is_first_known (Some c) (Some d) = false
is_first_known None d = false

-- `icmp p c x` is `icmp swapped-p x c`
abbrev pub swap_comparison : Option Comparison → (a b : Operand) → Option Term
swap_comparison (Some c) a b =
    some_if (is_first_known (known_bits c.width a) (known_bits c.width b))
    (Make (head_of_comparison (record { width = c.width; predicate = swapped_of c.predicate })) (Named (operand_value b) ∷ Named (operand_value a) ∷ []))
swap_comparison None a b = None

-- `c op x` is `x op c`
abbrev pub swap_operands : BinaryOperator → Option Arithmetic → (a b : Operand) → Option Term
swap_operands operator (Some s) a b =
    some_if (is_first_known (known_bits s.width a) (known_bits s.width b)) (Make (head_of_arithmetic operator s) (Named (operand_value b) ∷ Named (operand_value a) ∷ []))
swap_operands operator None a b = None

-- where the order of operands doesn't matter
abbrev pub swap_constant : Head → (a b : Operand) → Option Term
swap_constant head a b =
    option_or (swap_operands Add (arithmetic_of Add head) a b)
    (option_or (swap_operands And (arithmetic_of And head) a b)
    (option_or (swap_operands Or (arithmetic_of Or head) a b)
    (option_or (swap_operands Xor (arithmetic_of Xor head) a b) (swap_operands Multiply (arithmetic_of Multiply head) a b))))

-- ---- powers of two

-- the exponent, where the number is two to a power that isn't 0
abbrev pub exponent_by : (k c : ℕ) → Option ℕ
exponent_by k c = some_if (nat_lt 0 k && nat_eq (2 ^ k) c) k

abbrev pub exponent_of : ℕ → Option ℕ
exponent_of c = exponent_by (trailing_zeros w64 c) c

abbrev pub known_exponent : Option ℕ → Option ℕ
known_exponent (Some c) = exponent_of c
known_exponent None = None

-- an operation with a constant
abbrev pub arithmetic_with : BinaryOperator → Arithmetic → (value c : ℕ) → Term
arithmetic_with operator s value c = Make (head_of_arithmetic operator s) (Named value ∷ Constant (Int (number s.width c)) ∷ [])

-- a shift by all bits but one promises of signs what a product by the least number doesn't
abbrev pub shifted_product : Arithmetic → (value : ℕ) → Option ℕ → Option Term
shifted_product s value (Some k) = some_if (not (s.flags.no_signed_wrap && nat_eq (k + 1) (bits_of_width s.width))) (arithmetic_with ShiftLeft s value k)
shifted_product s value None = None

-- `x * 2^k` is `x << k`
abbrev pub shift_product : Option Arithmetic → (a b : Operand) → Option Term
shift_product (Some s) a b = shifted_product s (operand_value a) (known_exponent (known_bits s.width b))
shift_product None a b = None

abbrev pub shifted_quotient : Arithmetic → (value : ℕ) → Option ℕ → Option Term
shifted_quotient s value (Some k) = Some (arithmetic_with LogicalShiftRight s value k)
shifted_quotient s value None = None

-- `x udiv 2^k` is `x >> k`
abbrev pub shift_quotient : Option Arithmetic → (a b : Operand) → Option Term
shift_quotient (Some s) a b = shifted_quotient s (operand_value a) (known_exponent (known_bits s.width b))
shift_quotient None a b = None

abbrev pub masked_remainder : Arithmetic → (value : ℕ) → Option ℕ → Option Term
masked_remainder s value (Some k) = Some (arithmetic_with And (record { width = s.width; flags = no_flags }) value (2 ^ k - 1))
masked_remainder s value None = None

-- `x urem 2^k` is `x & (2^k - 1)`
abbrev pub mask_remainder : Option Arithmetic → (a b : Operand) → Option Term
mask_remainder (Some s) a b = masked_remainder s (operand_value a) (known_exponent (known_bits s.width b))
mask_remainder None a b = None

abbrev pub rules_of_powers : Head → (a b : Operand) → Option Term
rules_of_powers head a b =
    option_or (shift_product (arithmetic_of Multiply head) a b)
    (option_or (shift_quotient (arithmetic_of UnsignedDivide head) a b) (mask_remainder (arithmetic_of UnsignedRemainder head) a b))

-- ---- sums with two constants

-- whether neither of the two is negative, or neither positive
abbrev pub have_one_sign : (y z : ℤ) → Bool
have_one_sign y z = (int_le (pos 0) y && int_le (pos 0) z) || (int_le y (pos 0) && int_le z (pos 0))

-- the sum of two constants, where it wraps no more than these flags let it, and the two have one sign if that counts
abbrev pub joined_sum : Flags → (w c d : ℕ) → Option ℕ
joined_sum f w c d = if f.no_signed_wrap && not (have_one_sign (signed_value w c) (signed_value w d)) then None else sum f w c d

-- what these flags promise of how results wrap
abbrev pub wraps_of : Flags → Flags
wraps_of f = record { no_signed_wrap = f.no_signed_wrap; no_unsigned_wrap = f.no_unsigned_wrap; exact = false; disjoint = false; nonnegative = false }

abbrev pub sum_of_joined : Arithmetic → (value : ℕ) → Option ℕ → Option Term
sum_of_joined s value (Some c) = Some (arithmetic_with Add (record { width = s.width; flags = wraps_of s.flags }) value c)
sum_of_joined s value None = None

abbrev pub joined_sums : Arithmetic → Option ConstantOperation → Option ℕ → Option Term
joined_sums s (Some t) (Some d) = sum_of_joined s t.value (joined_sum s.flags (bits_of_width s.width) t.constant d)
joined_sums s _ _ = None

-- `(x + c) + d` is `x + (c + d)`, where the two promise the same of how they wrap, and `x + (c + d)` may
abbrev pub join_sums : Option Arithmetic → (a b : Operand) → Option Term
join_sums (Some s) a b = joined_sums s (operation_alike Add s.flags s.width a) (known_bits s.width b)
join_sums None a b = None

-- ---- operations on bits with two constants

abbrev pub operator_of : AssociativeOperator → BinaryOperator
operator_of Conjunction = And
operator_of Disjunction = Or
operator_of Exclusion = Xor

-- the one constant that two are
abbrev pub joined_bits : AssociativeOperator → (a b : ℕ) → ℕ
joined_bits Conjunction a b = bit_and a b
joined_bits Disjunction a b = bit_or a b
joined_bits Exclusion a b = bit_xor a b

-- whether an operation with this constant gives the constant, whatever its other operand is
abbrev pub absorbs : AssociativeOperator → (w c : ℕ) → Bool
absorbs Conjunction w c = nat_eq c 0
absorbs Disjunction w c = nat_eq c (2 ^ w - 1)
absorbs Exclusion w c = false

abbrev pub joined_with : AssociativeOperator → (width value c : ℕ) → Option Term
joined_with operator width value c = some_if (not (absorbs operator (bits_of_width width) c)) (arithmetic_with (operator_of operator) (record { width = width; flags = no_flags }) value c)

abbrev pub joined_constants : AssociativeOperator → (width : ℕ) → Option ConstantOperation → Option ℕ → Option Term
joined_constants operator width (Some t) (Some d) = joined_with operator width t.value (joined_bits operator t.constant d)
joined_constants operator width _ _ = None

abbrev pub joined_if : AssociativeOperator → Option Arithmetic → (a b : Operand) → Option Term
joined_if operator (Some s) a b =
    if promises_nothing s.flags then joined_constants operator s.width (constant_operation (operator_of operator) s.width a) (known_bits s.width b) else None
joined_if operator None a b = None

-- `(x op c) op d` is `x op (c op d)`, unless that constant absorbs what is no number
abbrev pub join_constants : AssociativeOperator → Head → (a b : Operand) → Option Term
join_constants operator head a b = joined_if operator (arithmetic_of (operator_of operator) head) a b

abbrev pub rules_of_constants : Head → (a b : Operand) → Option Term
rules_of_constants head a b =
    option_or (join_sums (arithmetic_of Add head) a b)
    (option_or (join_constants Conjunction head a b) (option_or (join_constants Disjunction head a b) (join_constants Exclusion head a b)))

-- ---- inverted comparisons

abbrev pub inverse_of : Predicate → Predicate
inverse_of Equal = NotEqual
inverse_of NotEqual = Equal
inverse_of SignedLess = SignedGreaterEqual
inverse_of SignedLessEqual = SignedGreater
inverse_of SignedGreater = SignedLessEqual
inverse_of SignedGreaterEqual = SignedLess
inverse_of UnsignedLess = UnsignedGreaterEqual
inverse_of UnsignedLessEqual = UnsignedGreater
inverse_of UnsignedGreater = UnsignedLessEqual
inverse_of UnsignedGreaterEqual = UnsignedLess

abbrev pub inverse_leaves : Option Comparison → List Leaf → Option Term
inverse_leaves (Some c) (x ∷ y ∷ []) =
    Some (Make (head_of_comparison (record { width = c.width; predicate = inverse_of c.predicate })) (Named (leaf_value x) ∷ Named (leaf_value y) ∷ []))
inverse_leaves _ _ = None

-- the inverse of what the operand compares
abbrev pub inverse_term : Operand → Option Term
inverse_term (Plain leaf) = None
inverse_term (Made v head leaves) = inverse_leaves (comparison_of head) leaves

abbrev pub inverse_if : Option ℕ → (a : Operand) → Option Term
inverse_if (Some k) a = if nat_eq k 1 then inverse_term a else None
inverse_if None a = None

-- `(icmp p x y) xor true` is `icmp not-p x y`
abbrev pub invert_comparison : Option Arithmetic → (a b : Operand) → Option Term
invert_comparison (Some s) a b = if nat_eq s.width 1 then inverse_if (known_bits 1 b) a else None
invert_comparison None a b = None

-- ---- equations with sums and differences

abbrev pub is_equation : Predicate → Bool
is_equation Equal = true
is_equation NotEqual = true
is_equation SignedLess = false
is_equation SignedLessEqual = false
is_equation SignedGreater = false
is_equation SignedGreaterEqual = false
is_equation UnsignedLess = false
is_equation UnsignedLessEqual = false
is_equation UnsignedGreater = false
is_equation UnsignedGreaterEqual = false

abbrev pub moved_constant : Comparison → Option ConstantOperation → Option ℕ → Option Term
moved_constant c (Some t) (Some d) = Some (compare_with c t.value ((d + (2 ^ bits_of_width c.width - t.constant)) % 2 ^ bits_of_width c.width))
moved_constant c _ _ = None

-- `icmp eq (x + c) d` is `icmp eq x (d - c)`, and so is `icmp ne`
abbrev pub compare_summand : Option Comparison → (a b : Operand) → Option Term
compare_summand (Some c) a b = if is_equation c.predicate then moved_constant c (constant_operation Add c.width a) (known_bits c.width b) else None
compare_summand None a b = None

abbrev pub difference_leaves : Comparison → Option Arithmetic → List Leaf → Option Term
difference_leaves c (Some s) (x ∷ y ∷ []) =
    some_if (nat_eq s.width c.width && wraps_freely s.flags) (Make (head_of_comparison c) (Named (leaf_value x) ∷ Named (leaf_value y) ∷ []))
difference_leaves c _ _ = None

-- the comparison of the two of which the operator makes the operand
abbrev pub difference_term : BinaryOperator → Comparison → Operand → Option Term
difference_term operator c (Plain leaf) = None
difference_term operator c (Made v head leaves) = difference_leaves c (arithmetic_of operator head) leaves

abbrev pub difference_if : BinaryOperator → Comparison → Option ℕ → (a : Operand) → Option Term
difference_if operator c (Some k) a = if nat_eq k 0 then difference_term operator c a else None
difference_if operator c None a = None

-- `icmp eq (x - y) 0` is `icmp eq x y`, `icmp eq (x xor y) 0` too, and so is `icmp ne`
abbrev pub compare_difference : BinaryOperator → Option Comparison → (a b : Operand) → Option Term
compare_difference operator (Some c) a b = if is_equation c.predicate then difference_if operator c (known_bits c.width b) a else None
compare_difference operator None a b = None

-- ---- the rules

abbrev pub rules_of_unary : Head → (a : Operand) → Option Term
rules_of_unary head a =
    option_or (join_casts ZeroExtend (conversion_of ZeroExtend head) a)
    (option_or (join_casts SignExtend (conversion_of SignExtend head) a)
    (option_or (join_casts Truncate (conversion_of Truncate head) a) (mask_bits (conversion_of ZeroExtend head) a)))

abbrev pub rules_of_comparison : Option Comparison → (a b : Operand) → Option Term
rules_of_comparison c a b =
    option_or (swap_comparison c a b)
    (option_or (compare_narrow ZeroExtend c a b) (option_or (compare_narrow SignExtend c a b) (option_or (compare_strictly c a b)
    (option_or (compare_summand c a b) (option_or (compare_difference Subtract c a b) (compare_difference Xor c a b))))))

abbrev pub rules_of_arithmetic : Head → (a b : Operand) → Option Term
rules_of_arithmetic head a b =
    option_or (subtract_constant (arithmetic_of Subtract head) a b)
    (option_or (rules_of_constants head a b) (invert_comparison (arithmetic_of Xor head) a b))

abbrev pub rules_of_binary : Head → (a b : Operand) → Option Term
rules_of_binary head a b =
    option_or (rules_of_comparison (comparison_of head) a b)
    (option_or (swap_constant head a b) (option_or (rules_of_arithmetic head a b) (rules_of_powers head a b)))

abbrev pub by_mlir_operands : Head → List Operand → Option Term
by_mlir_operands head (a ∷ []) = rules_of_unary head a
by_mlir_operands head (a ∷ b ∷ []) = rules_of_binary head a b
by_mlir_operands head _ = None

-- comparisons, casts and operations that compute an integer of two have rules
abbrev pub has_rules : Head → Bool
has_rules head = nat_le (number_of_class Compare) head.kind

abbrev pub mlir_rules : View → Option Term
mlir_rules view = if has_rules view.head then by_mlir_operands view.head view.operands else None
