-- The numbers of classes in heads.
use Rattle.std.proofs.Common.{◌≡◌, ℕ, ◌+◌, ◌-◌, nat_eq, if◌then◌else◌, Option, Some, None, refl}
use Rattle.std.specs.Option.{option_map}
use Rattle.pliron_bits.specs.declared.operators.BinaryOperator.{BinaryOperator}
use Rattle.pliron_bits.specs.declared.operators.BinaryOperator.TheVariants.{Add, Subtract, Multiply, UnsignedDivide, SignedDivide, UnsignedRemainder, SignedRemainder, ShiftLeft, LogicalShiftRight, ArithmeticShiftRight, And, Or, Xor, UnsignedMinimum, SignedMinimum, UnsignedMaximum, SignedMaximum, UnsignedDivideUp, SignedDivideUp, SignedDivideDown}
use Rattle.pliron_bits.specs.declared.operators.Cast.TheVariants.{ZeroExtend, SignExtend, Truncate}
use Rattle.pliron_bits.specs.Operators.{number_of_operator, operator_of_number}
use Rattle.pliron_dialect_mlir.specs.declared.kind.Class.{Class}
use Rattle.pliron_dialect_mlir.specs.declared.kind.Class.TheVariants.{Constant, Select, Opaque, Jump, Branch, Switch, Leave, Unreachable, Effect, Local, Call, Regions, Root, Function, Module, Fork, Compare, Cast, Binary}

abbrev pub number_of_class : Class → ℕ
number_of_class Constant = 0
number_of_class Select = 1
number_of_class Opaque = 2
number_of_class Jump = 3
number_of_class Branch = 4
number_of_class Switch = 5
number_of_class Leave = 6
number_of_class Unreachable = 7
number_of_class Effect = 8
number_of_class Regions = 9
number_of_class Root = 10
number_of_class Module = 11
number_of_class Fork = 12
number_of_class Local = 13
number_of_class Call = 14
number_of_class Function = 15
number_of_class Compare = 16
number_of_class (Cast ZeroExtend) = 17
number_of_class (Cast SignExtend) = 18
number_of_class (Cast Truncate) = 19
number_of_class (Binary operator) = 20 + number_of_operator operator

abbrev pub binary_class : BinaryOperator → Class
binary_class operator = Binary operator

abbrev pub class_of_number : ℕ → Option Class
class_of_number n =
    if nat_eq n 0 then Some Constant
    else if nat_eq n 1 then Some Select
    else if nat_eq n 2 then Some Opaque
    else if nat_eq n 3 then Some Jump
    else if nat_eq n 4 then Some Branch
    else if nat_eq n 5 then Some Switch
    else if nat_eq n 6 then Some Leave
    else if nat_eq n 7 then Some Unreachable
    else if nat_eq n 8 then Some Effect
    else if nat_eq n 9 then Some Regions
    else if nat_eq n 10 then Some Root
    else if nat_eq n 11 then Some Module
    else if nat_eq n 12 then Some Fork
    else if nat_eq n 13 then Some Local
    else if nat_eq n 14 then Some Call
    else if nat_eq n 15 then Some Function
    else if nat_eq n 16 then Some Compare
    else if nat_eq n 17 then Some (Cast ZeroExtend)
    else if nat_eq n 18 then Some (Cast SignExtend)
    else if nat_eq n 19 then Some (Cast Truncate)
    else option_map binary_class (operator_of_number (n - 20))

operator_numbered : (o : BinaryOperator) → class_of_number (number_of_class (Binary o)) ≡ Some (Binary o)
operator_numbered Add = refl
operator_numbered Subtract = refl
operator_numbered Multiply = refl
operator_numbered UnsignedDivide = refl
operator_numbered SignedDivide = refl
operator_numbered UnsignedRemainder = refl
operator_numbered SignedRemainder = refl
operator_numbered ShiftLeft = refl
operator_numbered LogicalShiftRight = refl
operator_numbered ArithmeticShiftRight = refl
operator_numbered And = refl
operator_numbered Or = refl
operator_numbered Xor = refl
operator_numbered UnsignedMinimum = refl
operator_numbered SignedMinimum = refl
operator_numbered UnsignedMaximum = refl
operator_numbered SignedMaximum = refl
operator_numbered UnsignedDivideUp = refl
operator_numbered SignedDivideUp = refl
operator_numbered SignedDivideDown = refl

pub numbered_class : (c : Class) → class_of_number (number_of_class c) ≡ Some c
numbered_class Constant = refl
numbered_class Select = refl
numbered_class Opaque = refl
numbered_class Jump = refl
numbered_class Branch = refl
numbered_class Switch = refl
numbered_class Leave = refl
numbered_class Unreachable = refl
numbered_class Effect = refl
numbered_class Regions = refl
numbered_class Root = refl
numbered_class Module = refl
numbered_class Fork = refl
numbered_class Compare = refl
numbered_class (Cast ZeroExtend) = refl
numbered_class (Cast SignExtend) = refl
numbered_class (Cast Truncate) = refl
numbered_class Local = refl
numbered_class Call = refl
numbered_class Function = refl
numbered_class (Binary o) = operator_numbered o
