-- What heads of operations on integers say.
use Rattle.std.proofs.Common.{◌≡◌, ℕ, Bool, true, false, nat_eq, ◌&&◌, Option, Some, None, if◌then◌else◌, refl, ap, ap₂, ◌∙◌, subst, arith}
use Rattle.std.proofs.lemmas.Bool.Decides.{Decides-eqb}
use Rattle.pliron_core.specs.declared.attrs.Head.{Head}
use Rattle.pliron_core.proofs.HoldingLemmas.{not_none, some_is}
use Rattle.pliron_bits.specs.declared.operators.BinaryOperator.{BinaryOperator}
use Rattle.pliron_bits.specs.declared.operators.Predicate.{Predicate}
use Rattle.pliron_bits.specs.declared.operators.Predicate.TheVariants.{Equal, NotEqual, SignedLess, SignedLessEqual, SignedGreater, SignedGreaterEqual, UnsignedLess, UnsignedLessEqual, UnsignedGreater, UnsignedGreaterEqual}
use Rattle.pliron_bits.specs.declared.operators.Cast.{Cast}
use Rattle.pliron_bits.specs.Flags.{number_of_flags, flags_of_number}
use Rattle.pliron_bits.specs.Operators.{number_of_predicate, predicate_of_number}
use Rattle.pliron_dialect_mlir.specs.declared.kind.Class.{Class}
use Rattle.pliron_dialect_mlir.specs.declared.kind.Class.TheVariants.{Compare, Cast as CastClass, Binary}
use Rattle.pliron_dialect_mlir.specs.declared.computations.Arithmetic.{Arithmetic}
use Rattle.pliron_dialect_mlir.specs.declared.computations.Comparison.{Comparison}
use Rattle.pliron_dialect_mlir.specs.declared.computations.Conversion.{Conversion}
use Rattle.pliron_dialect_mlir.specs.ClassNumbers.{number_of_class, class_of_number, numbered_class}
use Rattle.pliron_dialect_mlir.specs.Data.{is_width, some_if}
use Rattle.pliron_dialect_mlir.specs.Heads.{attribute_at, width_at, flags_at}
use Rattle.pliron_dialect_mlir.specs.Computations.{is_of_class, comparison_with as read_comparison, comparison_of, conversion_of, arithmetic_of, head_of_comparison, head_of_conversion, head_of_arithmetic}
use Rattle.pliron_mlir_rules.specs.MlirRules.{no_flags, plain_cast, if_signed}

pub both_so : (x y : Bool) → x && y ≡ true → (x ≡ true) × (y ≡ true)
both_so true true e = (refl, refl)
both_so true false e = absurd (grind (arith, e))
both_so false y e = absurd (grind (arith, e))

pub picked : {A : Type 0} (b : Bool) (x y : A) → some_if b x ≡ Some y → (b ≡ true) × (x ≡ y)
picked true x y e = (refl, some_is e)
picked false x y e = absurd (not_none e)

class_is : (class : Class) (head : Head) → is_of_class class head ≡ true → class_of_number head.kind ≡ Some class
class_is class head e = ap class_of_number ((Decides-eqb head.kind (number_of_class class)).0 e) ∙ numbered_class class

pub width_said : (w : ℕ) → is_width w ≡ true → (if is_width w then w else 0) ≡ w
width_said w is = ap (λ b. if b then w else 0) is

-- ---- comparisons

pub record SaysComparison (head : Head) (c : Comparison) : Type 0 where
  pub class : class_of_number head.kind ≡ Some Compare
  pub predicate : predicate_of_number (attribute_at head.attrs 1) ≡ Some c.predicate
  pub width : width_at head.attrs 0 ≡ c.width
  pub is : is_width c.width ≡ true

pub says_comparison : (head : Head) (c : Comparison) → comparison_of head ≡ Some c → SaysComparison head c
says_comparison head c e = by (is_of_class Compare head) refl e
  where
    of : (o : Option Predicate) → predicate_of_number (attribute_at head.attrs 1) ≡ o → is_of_class Compare head ≡ true → read_comparison (width_at head.attrs 0) o ≡ Some c → SaysComparison head c
    of None p kind f = absurd (not_none f)
    of (Some q) p kind f =
        let both = picked (is_width (width_at head.attrs 0)) (record { width = width_at head.attrs 0; predicate = q }) c f in
        let same : width_at head.attrs 0 ≡ c.width = ap (λ x. x.width) both.1 in
        record {
          class = class_is Compare head kind;
          predicate = p ∙ ap (λ x. Some x.predicate) both.1;
          width = same;
          is = subst (λ w. is_width w ≡ true) same both.0;
        }

    by : (b : Bool) → is_of_class Compare head ≡ b → (if b then read_comparison (width_at head.attrs 0) (predicate_of_number (attribute_at head.attrs 1)) else None) ≡ Some c → SaysComparison head c
    by true kind f = of (predicate_of_number (attribute_at head.attrs 1)) refl kind f
    by false kind f = absurd (not_none f)

pub predicate_numbered : (p : Predicate) → predicate_of_number (number_of_predicate p) ≡ Some p
predicate_numbered Equal = refl
predicate_numbered NotEqual = refl
predicate_numbered SignedLess = refl
predicate_numbered SignedLessEqual = refl
predicate_numbered SignedGreater = refl
predicate_numbered SignedGreaterEqual = refl
predicate_numbered UnsignedLess = refl
predicate_numbered UnsignedLessEqual = refl
predicate_numbered UnsignedGreater = refl
predicate_numbered UnsignedGreaterEqual = refl

pub comparison_says : (c : Comparison) → is_width c.width ≡ true → SaysComparison (head_of_comparison c) c
comparison_says c is = record {
  class = numbered_class Compare;
  predicate = predicate_numbered c.predicate;
  width = width_said c.width is;
  is = is;
}

-- ---- casts

pub record SaysConversion (cast : Cast) (head : Head) (c : Conversion) : Type 0 where
  pub class : class_of_number head.kind ≡ Some (CastClass cast)
  pub from : width_at head.attrs 0 ≡ c.width
  pub to : width_at head.attrs 1 ≡ c.to
  pub flags : flags_at head.attrs 2 ≡ c.flags
  pub is : is_width c.width ≡ true
  pub wide : is_width c.to ≡ true

pub says_conversion : (cast : Cast) (head : Head) (c : Conversion) → conversion_of cast head ≡ Some c → SaysConversion cast head c
says_conversion cast head c e =
    let both = picked (is_of_class (CastClass cast) head && (is_width (width_at head.attrs 0) && is_width (width_at head.attrs 1))) (record { width = width_at head.attrs 0; to = width_at head.attrs 1; flags = flags_at head.attrs 2 }) c e in
    let parts = both_so (is_of_class (CastClass cast) head) (is_width (width_at head.attrs 0) && is_width (width_at head.attrs 1)) both.0 in
    let widths = both_so (is_width (width_at head.attrs 0)) (is_width (width_at head.attrs 1)) parts.1 in
    record {
      class = class_is (CastClass cast) head parts.0;
      from = ap (λ x. x.width) both.1;
      to = ap (λ x. x.to) both.1;
      flags = ap (λ x. x.flags) both.1;
      is = subst (λ x. is_width x.width ≡ true) both.1 widths.0;
      wide = subst (λ x. is_width x.to ≡ true) both.1 widths.1;
    }

pub plain_says : (cast : Cast) (width to : ℕ) → is_width width ≡ true → is_width to ≡ true → SaysConversion cast (head_of_conversion cast (plain_cast width to)) (plain_cast width to)
plain_says cast width to is wide = record {
  class = numbered_class (CastClass cast);
  from = width_said width is;
  to = width_said to wide;
  flags = refl;
  is = is;
  wide = wide;
}

-- ---- arithmetic

pub record SaysArithmetic (operator : BinaryOperator) (head : Head) (s : Arithmetic) : Type 0 where
  pub class : class_of_number head.kind ≡ Some (Binary operator)
  pub width : width_at head.attrs 0 ≡ s.width
  pub flags : flags_at head.attrs 1 ≡ s.flags
  pub is : is_width s.width ≡ true

pub says_arithmetic : (operator : BinaryOperator) (head : Head) (s : Arithmetic) → arithmetic_of operator head ≡ Some s → SaysArithmetic operator head s
says_arithmetic operator head s e =
    let both = picked (is_of_class (Binary operator) head && is_width (width_at head.attrs 0)) (record { width = width_at head.attrs 0; flags = flags_at head.attrs 1 }) s e in
    let parts = both_so (is_of_class (Binary operator) head) (is_width (width_at head.attrs 0)) both.0 in
    record {
      class = class_is (Binary operator) head parts.0;
      width = ap (λ x. x.width) both.1;
      flags = ap (λ x. x.flags) both.1;
      is = subst (λ x. is_width x.width ≡ true) both.1 parts.1;
    }

-- flags are what their number says
flags_back : (v w x y z : Bool) → flags_of_number (number_of_flags (record { no_signed_wrap = v; no_unsigned_wrap = w; exact = x; disjoint = y; nonnegative = z })) ≡ record { no_signed_wrap = v; no_unsigned_wrap = w; exact = x; disjoint = y; nonnegative = z }
flags_back true true true true true = refl
flags_back true true true true false = refl
flags_back true true true false true = refl
flags_back true true true false false = refl
flags_back true true false true true = refl
flags_back true true false true false = refl
flags_back true true false false true = refl
flags_back true true false false false = refl
flags_back true false true true true = refl
flags_back true false true true false = refl
flags_back true false true false true = refl
flags_back true false true false false = refl
flags_back true false false true true = refl
flags_back true false false true false = refl
flags_back true false false false true = refl
flags_back true false false false false = refl
flags_back false true true true true = refl
flags_back false true true true false = refl
flags_back false true true false true = refl
flags_back false true true false false = refl
flags_back false true false true true = refl
flags_back false true false true false = refl
flags_back false true false false true = refl
flags_back false true false false false = refl
flags_back false false true true true = refl
flags_back false false true true false = refl
flags_back false false true false true = refl
flags_back false false true false false = refl
flags_back false false false true true = refl
flags_back false false false true false = refl
flags_back false false false false true = refl
flags_back false false false false false = refl

pub arithmetic_says : (operator : BinaryOperator) (s : Arithmetic) → is_width s.width ≡ true → SaysArithmetic operator (head_of_arithmetic operator s) s
arithmetic_says operator s is = record {
  class = numbered_class (Binary operator);
  width = width_said s.width is;
  flags = flags_back s.flags.no_signed_wrap s.flags.no_unsigned_wrap s.flags.exact s.flags.disjoint s.flags.nonnegative;
  is = is;
}

-- that of an operation that promises nothing but signs
pub signed_says : (operator : BinaryOperator) (width : ℕ) (signed : Bool) → is_width width ≡ true → SaysArithmetic operator (head_of_arithmetic operator (record { width = width; flags = if_signed signed })) (record { width = width; flags = if_signed signed })
signed_says operator width signed is = arithmetic_says operator (record { width = width; flags = if_signed signed }) is
