-- What an operation of a text is taken for: its class by its name and its shape, and its head by the properties that it
-- owns.
use Rattle.std.specs.Prelude.{◌≡◌, ◌⊎◌, ◌&&◌, ◌||◌, ℕ, Bool, false, not, min, nat_eq, nat_lt, List, [], ◌∷◌, Option, Some, None, if◌then◌else◌}
use Rattle.pliron_core.specs.declared.attrs.Head.{Head}
use Rattle.pliron_bits.specs.declared.flags.Flags.{Flags}
use Rattle.pliron_bits.specs.declared.operators.Predicate.{Predicate}
use Rattle.pliron_bits.specs.declared.operators.Cast.{Cast}
use Rattle.pliron_bits.specs.declared.operators.Cast.TheVariants.{Truncate}
use Rattle.pliron_bits.specs.Operators.{predicate_of_number}
use Rattle.pliron_dialect_mlir.specs.declared.kind.Class.{Class}
use Rattle.pliron_dialect_mlir.specs.declared.kind.Class.TheVariants.{Constant, Select, Opaque, Jump, Branch, Switch, Leave, Unreachable, Effect, Local, Call, Regions, Root, Function, Module, Fork, Compare, Cast as CastClass, Binary}
use Rattle.pliron_dialect_mlir.specs.ClassNumbers.{number_of_class}
use Rattle.pliron_dialect_mlir.specs.Heads.{plain_class_head, binary_head, compare_head, cast_head, branch_head}
use Rattle.pliron_text_mlir_syntax.specs.declared.numbers.SignedNumber.{SignedNumber}
use Rattle.pliron_text_mlir_reader.specs.declared.owned.OwnedProperty.{OwnedProperty}
use Rattle.pliron_text_mlir_reader.specs.declared.owned.OwnedProperty.TheVariants.{Value, Zero, LlvmOverflow, ArithOverflow, Exact, Disjoint, NonNegative}
use Rattle.pliron_text_mlir_reader.specs.declared.taken.OperationShape.{OperationShape}
use Rattle.pliron_text_mlir_reader.specs.declared.taken.Overflow.{Overflow}
use Rattle.pliron_text_mlir_reader.specs.declared.taken.Entries.{Entries}

-- ---- the class

-- so many operands and results, no successors and no regions
abbrev pub is_computation : (operands results : ℕ) → OperationShape → Bool
is_computation operands results s = nat_eq s.operands operands && (nat_eq s.results results && (nat_eq s.successors 0 && nat_eq s.regions 0))

-- no results and no regions
abbrev pub only_ends : OperationShape → Bool
only_ends s = nat_eq s.results 0 && nat_eq s.regions 0

-- one region and nothing else
abbrev pub only_holds : OperationShape → Bool
only_holds s = nat_eq s.operands 0 && (nat_eq s.results 0 && (nat_eq s.successors 0 && nat_eq s.regions 1))

-- an operation of the class has such a shape
abbrev pub has_shape : Class → OperationShape → Bool
has_shape Constant s = is_computation 0 1 s
has_shape (Binary operator) s = is_computation 2 1 s
has_shape Compare s = is_computation 2 1 s
has_shape (CastClass cast) s = is_computation 1 1 s
has_shape Select s = is_computation 3 1 s
has_shape Opaque s = nat_eq s.successors 0 && nat_eq s.regions 0
has_shape Effect s = nat_eq s.successors 0 && nat_eq s.regions 0
has_shape Local s = nat_eq s.successors 0 && nat_eq s.regions 0
has_shape Call s = nat_eq s.successors 0 && nat_eq s.regions 0
has_shape Leave s = only_ends s && nat_eq s.successors 0
has_shape Unreachable s = only_ends s && nat_eq s.successors 0
has_shape Jump s = only_ends s && nat_eq s.successors 1
has_shape Branch s = only_ends s && nat_eq s.successors 2
has_shape Switch s = only_ends s && nat_lt 1 s.successors
has_shape Root s = only_holds s
has_shape Function s = only_holds s
has_shape Module s = only_holds s
has_shape Regions s = nat_eq s.successors 0
has_shape Fork s = nat_lt 0 s.successors

-- what isn't known acts on the world: as a fork where it has successors, with its regions where it has any, and as what
-- belongs to its function where it has neither
abbrev pub unknown_class : OperationShape → Class
unknown_class s = if nat_lt 0 s.successors then Fork else (if nat_lt 0 s.regions then Regions else Local)

-- a cast of integers, to a narrower type by truncation; of other types it is opaque
abbrev pub cast_taken : Cast → (from to : ℕ) → Class
cast_taken cast from to = if nat_eq from 0 || nat_eq to 0 then Opaque else (if nat_lt (min to 64) (min from 64) then CastClass Truncate else CastClass cast)

-- a class that computes integers is opaque at other types, and a branch by no truth is a fork
abbrev pub class_at : Class → OperationShape → Class
class_at (Binary operator) s = if nat_eq s.from 0 then Opaque else Binary operator
class_at Compare s = if nat_eq s.from 0 then Opaque else Compare
class_at (CastClass cast) s = cast_taken cast s.from s.to
class_at Select s = if nat_eq s.from 1 then Select else Opaque
class_at Branch s = if nat_eq s.from 1 then Branch else Fork
class_at class s = class

-- the class of an operation: that of its name where the shape is one of the class
abbrev pub class_taken : Option Class → OperationShape → Class
class_taken None s = unknown_class s
class_taken (Some class) s = if has_shape class s then class_at class s else unknown_class s

-- ---- properties

abbrev pub promise : (exact disjoint nonnegative : Bool) → Flags
promise exact disjoint nonnegative = record { no_signed_wrap = false; no_unsigned_wrap = false; exact = exact; disjoint = disjoint; nonnegative = nonnegative }

abbrev pub wrapping : Option Overflow → Flags
wrapping None = promise false false false
wrapping (Some overflow) = record { no_signed_wrap = overflow.signed; no_unsigned_wrap = overflow.unsigned; exact = false; disjoint = false; nonnegative = false }

-- the property list's, and where that lacks it the attribute dictionary's
abbrev pub first_overflow : Option Overflow → Option Overflow → Option Overflow
first_overflow (Some overflow) other = Some overflow
first_overflow None other = other

abbrev pub overflow_in : Entries → Entries → Option Overflow
overflow_in properties attributes = first_overflow properties.overflow attributes.overflow

-- the flags of an operation are those that it owns, in either list; `overflowFlags` of `llvm` are a property alone
abbrev pub flags_owned : OwnedProperty → Entries → Entries → Flags
flags_owned LlvmOverflow properties attributes = wrapping properties.overflow
flags_owned ArithOverflow properties attributes = wrapping (overflow_in properties attributes)
flags_owned Exact properties attributes = promise (properties.exact || attributes.exact) false false
flags_owned Disjoint properties attributes = promise false (properties.disjoint || attributes.disjoint) false
flags_owned NonNegative properties attributes = promise false false (properties.nonnegative || attributes.nonnegative)
flags_owned _ properties attributes = promise false false false

-- the predicate with this number, an `i64`
abbrev pub predicate_said : SignedNumber → (is_i64 : Bool) → Option Predicate
predicate_said number is_i64 = if not number.is_negative && is_i64 then predicate_of_number number.magnitude else None

-- the bits of a constant of this width: those of `value` where the operation owns one, and 0 of a zero
abbrev pub bits_owned : OwnedProperty → (width : ℕ) → (value : Option ℕ) → Option ℕ
bits_owned Value width value = value
bits_owned Zero width value = if nat_lt 0 width then Some 0 else None
bits_owned _ width value = None

-- how many operands each edge takes: `operandSegmentSizes` says 1, those of the first edge, and those of all others; of a
-- switch the cases say how these are spread
abbrev pub spread_of : (segments : List ℕ) → (is_switch : Bool) → (cases : List ℕ) → Option (List ℕ)
spread_of (condition ∷ first ∷ others ∷ []) is_switch cases = if nat_eq condition 1 then Some (first ∷ (if is_switch then cases else (others ∷ []))) else None
spread_of _ is_switch cases = None

-- ---- the head

abbrev pub comparison_taken : Option Predicate → (width form : ℕ) → Head
comparison_taken (Some predicate) width form = compare_head width predicate form
comparison_taken None width form = plain_class_head Opaque form

-- the head of an operation of the class, but for constants, branches and switches
abbrev pub head_taken : Class → OperationShape → Flags → Option Predicate → (form : ℕ) → Head
head_taken (Binary operator) s flags predicate form = binary_head operator s.from flags form
head_taken (CastClass cast) s flags predicate form = cast_head cast s.from s.to flags form
head_taken Compare s flags predicate form = comparison_taken predicate s.from form
head_taken class s flags predicate form = plain_class_head class form

-- the head of a branch: its first edge is that of a true condition
abbrev pub branch_taken : (counts : List ℕ) → (form : ℕ) → Head
branch_taken (on_true ∷ on_false ∷ []) form = branch_head on_true on_false form
branch_taken _ form = plain_class_head Fork form

-- what an operation of the class is where its properties aren't understood
abbrev pub not_understood : Class → Class
not_understood Branch = Fork
not_understood Switch = Fork
not_understood Compare = Opaque
not_understood Constant = Opaque
not_understood class = class

-- what it is where it has a name
abbrev pub named_class : Class → Class
named_class Effect = Call
named_class Root = Function
named_class class = class

abbrev pub HasClass : Class → Head → Type 0
HasClass class head = (head.kind ≡ number_of_class class) ⊎ (head.kind ≡ number_of_class (not_understood class)) ⊎ (head.kind ≡ number_of_class (named_class class))
