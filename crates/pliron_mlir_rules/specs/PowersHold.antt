-- Products, quotients and remainders by powers of two.
use Rattle.std.proofs.Common.{◌≡◌, ℕ, ◌+◌, ◌-◌, ◌^◌, ◌<◌, ◌≤◌, Bool, true, false, not, nat_eq, ◌&&◌, [], ◌∷◌, Option, Some, None, refl, sym, ap, ap₂, ◌∙◌, subst, arith}
use Rattle.std.specs.Int.{w64, trailing_zeros}
use Rattle.std.specs.Option.{option_or}
use Rattle.std.proofs.lemmas.Nat.{pow_pos}
use Rattle.pliron_core.specs.declared.attrs.Head.{Head}
use Rattle.pliron_core.proofs.HoldingLemmas.{not_none, some_is}
use Rattle.pliron_laws.specs.Datum.{Datum}
use Rattle.pliron_laws.specs.States.{Environment, prepend_optional}
use Rattle.pliron_dialect.specs.Roles.{Interpretation}
use Rattle.pliron_bits.specs.declared.flags.Flags.{Flags}
use Rattle.pliron_bits.specs.declared.operators.BinaryOperator.{BinaryOperator}
use Rattle.pliron_bits.specs.declared.operators.BinaryOperator.TheVariants.{Multiply, UnsignedDivide, UnsignedRemainder, ShiftLeft, LogicalShiftRight, And}
use Rattle.pliron_bits.specs.Arithmetic.{product, unsigned_quotient, unsigned_remainder}
use Rattle.pliron_dialect_mlir.specs.declared.kind.Class.{Class}
use Rattle.pliron_dialect_mlir.specs.declared.computations.Arithmetic.{Arithmetic}
use Rattle.pliron_dialect_mlir.specs.Data.{is_width, bits_of_width}
use Rattle.pliron_dialect_mlir.specs.Computations.{arithmetic_of, head_of_arithmetic}
use Rattle.pliron_rewrite_rules.specs.declared.view.Operand.{Operand}
use Rattle.pliron_rewrite_rules.specs.declared.view.View.{View}
use Rattle.pliron_rewrite_rules.specs.declared.term.Term.{Term}
use Rattle.pliron_rewrite_rules.specs.RuleLaws.{IsRule}
use Rattle.pliron_rewrite_rules.specs.Views.{Agrees, operand_value, operand_datum, result_datum, view_datum, term_datum}
use Rattle.pliron_mlir_rules.specs.ConstantArithmetic.{left_shift_whole, right_shift_whole, quotient_whole, remainder_whole, product_whole, constant_gives, arithmetic_with_holds}
use Rattle.pliron_mlir_rules.specs.HeadsSay.{picked, SaysArithmetic, says_arithmetic, arithmetic_says}
use Rattle.pliron_mlir_rules.specs.IntegerActs.{number_or_poison, computed_datum, constant_result, mlir_meaning, mlir_effects, mask_gives}
use Rattle.pliron_mlir_rules.specs.Integers.{bits_in, integer}
use Rattle.pliron_mlir_rules.specs.MaskNumbers.{mask_fits}
use Rattle.pliron_mlir_rules.specs.MlirRules.{no_flags, known_bits, exponent_of, known_exponent, arithmetic_with, shifted_product, shift_product, shifted_quotient, shift_quotient, masked_remainder, mask_remainder, rules_of_powers}
use Rattle.pliron_mlir_rules.specs.PowerNumbers.{IsPower, is_power, at_least_two, exponent_below, exponent_fits, product_shifts, quotient_shifts, remainder_masks}
use Rattle.pliron_mlir_rules.specs.Seen.{both_have, value_shown, value_has, known_reads, known_below}

-- ---- data

module _ (flags : Flags) (width c k : ℕ) (power : IsPower k c) (lt : c < 2 ^ bits_of_width width) where
  pub less : k < bits_of_width width
  less = exponent_below k (bits_of_width width) (subst (λ x. x < 2 ^ bits_of_width width) (sym power.is) lt)

  pub two_bits : 2 ≤ bits_of_width width
  two_bits = let few : k < bits_of_width width = less in let some : 0 < k = power.some in omega (arith, few, some)

  pub not_zero : c ≡ 0 → ⊥
  not_zero e = let two : 2 ≤ 2 ^ k = at_least_two k power.some in let is : 2 ^ k ≡ c = power.is in omega (arith, two, is, e)

  pub not_one : c ≡ 1 → ⊥
  not_one e = let two : 2 ≤ 2 ^ k = at_least_two k power.some in let is : 2 ^ k ≡ c = power.is in omega (arith, two, is, e)

  pub some_shift : k ≡ 0 → ⊥
  some_shift e = let some : 0 < k = power.some in omega (arith, some, e)

  product_datum : flags.no_signed_wrap && nat_eq (k + 1) (bits_of_width width) ≡ false → (d : Datum) → constant_result ShiftLeft flags width d k ≡ constant_result Multiply flags width d c
  product_datum least d = by (bits_in width d)
    where
      by : (o : Option ℕ) → computed_datum ShiftLeft flags width o d k ≡ computed_datum Multiply flags width o d c
      by None = refl
      by (Some a) = ap (number_or_poison width) (sym (product_shifts flags (bits_of_width width) a k less least) ∙ ap (product flags (bits_of_width width) a) power.is)

  quotient_datum : (d : Datum) → constant_result LogicalShiftRight flags width d k ≡ constant_result UnsignedDivide flags width d c
  quotient_datum d = by (bits_in width d)
    where
      by : (o : Option ℕ) → computed_datum LogicalShiftRight flags width o d k ≡ computed_datum UnsignedDivide flags width o d c
      by None = refl
      by (Some a) = ap (number_or_poison width) (sym (quotient_shifts flags (bits_of_width width) a k less) ∙ ap (unsigned_quotient flags a) power.is)

  remainder_datum : (d : Datum) → constant_result And no_flags width d (2 ^ k - 1) ≡ constant_result UnsignedRemainder flags width d c
  remainder_datum d = by (bits_in width d)
    where
      by : (o : Option ℕ) → computed_datum And no_flags width o d (2 ^ k - 1) ≡ computed_datum UnsignedRemainder flags width o d c
      by None = refl
      by (Some a) = ap (number_or_poison width) (sym (remainder_masks a k) ∙ ap (unsigned_remainder a) power.is)

not_so : (b : Bool) → not b ≡ true → b ≡ false
not_so true e = sym e
not_so false e = refl

module _ {K : Type 0} (class_of : K → Class) (kind : Class → K) (value : Interpretation) (forth : (c : Class) → class_of (kind c) ≡ c) where
  abbrev IsRuleOf : View → Term → Type 0
  IsRuleOf view term = IsRule (mlir_meaning class_of kind value) (mlir_effects class_of kind value) (λ attr. true) view term

  -- an operation with one constant is another operation with another constant
  operation_holds : (first second : BinaryOperator) (head : Head) (s : Arithmetic) → SaysArithmetic first head s → (a b : Operand) (flags : Flags) (c k : ℕ) → known_bits s.width b ≡ Some c →
      ((d : Datum) → result_datum (mlir_meaning class_of kind value) head (Some (d ∷ integer s.width c ∷ [])) ≡ Some (constant_result first s.flags s.width d c)) →
      ((d : Datum) → result_datum (mlir_meaning class_of kind value) (head_of_arithmetic second (record { width = s.width; flags = flags })) (Some (d ∷ integer s.width k ∷ [])) ≡ Some (constant_result second flags s.width d k)) →
      ((d : Datum) → constant_result second flags s.width d k ≡ constant_result first s.flags s.width d c) →
      IsRuleOf (record { head = head; operands = a ∷ b ∷ [] }) (arithmetic_with second (record { width = s.width; flags = flags }) (operand_value a) k)
  operation_holds first second head s says a b flags c k known seen made same =
      arithmetic_with_holds class_of kind value forth second head a b (record { width = s.width; flags = flags }) (operand_value a) k says.is (value_shown a) (λ env r agrees e. equal env r agrees e)
    where
      equal : (env : Environment) (r : Datum) → Agrees (mlir_meaning class_of kind value) env (record { head = head; operands = a ∷ b ∷ [] }) → view_datum (mlir_meaning class_of kind value) env (record { head = head; operands = a ∷ b ∷ [] }) ≡ Some r → term_datum (mlir_meaning class_of kind value) env (arithmetic_with second (record { width = s.width; flags = flags }) (operand_value a) k) ≡ Some r
      equal env r agrees e =
          let both = both_have (mlir_meaning class_of kind value) head (operand_datum (mlir_meaning class_of kind value) env a) (operand_datum (mlir_meaning class_of kind value) env b) r e in
          ap (λ o. result_datum (mlir_meaning class_of kind value) (head_of_arithmetic second (record { width = s.width; flags = flags })) (prepend_optional o (Some (integer s.width k ∷ [])))) (value_has class_of kind value forth env a agrees.0 ∙ both.2)
          ∙ made both.0
          ∙ ap Some (same both.0)
          ∙ sym (seen both.0)
          ∙ ap₂ (λ p q. result_datum (mlir_meaning class_of kind value) head (prepend_optional p (prepend_optional q (Some [])))) (sym both.2) (ap Some (sym (known_reads class_of kind value forth env s.width b c both.1 known both.3)) ∙ sym both.3)
          ∙ e

  product_holds : (head : Head) (s : Arithmetic) → SaysArithmetic Multiply head s → (a b : Operand) (c k : ℕ) → known_bits s.width b ≡ Some c → IsPower k c → not (s.flags.no_signed_wrap && nat_eq (k + 1) (bits_of_width s.width)) ≡ true → IsRuleOf (record { head = head; operands = a ∷ b ∷ [] }) (arithmetic_with ShiftLeft s (operand_value a) k)
  product_holds head s says a b c k known power least =
      operation_holds Multiply ShiftLeft head s says a b s.flags c k known
      (λ d. constant_gives class_of kind value forth Multiply head s says d c (product_whole s.flags s.width c says.is lt d (two_bits s.flags s.width c k power lt) (not_zero s.flags s.width c k power lt) (not_one s.flags s.width c k power lt)))
      (λ d. constant_gives class_of kind value forth ShiftLeft (head_of_arithmetic ShiftLeft s) s (arithmetic_says ShiftLeft s says.is) d k (left_shift_whole s.flags s.width k says.is (exponent_fits k c (bits_of_width s.width) power.is lt) d (some_shift s.flags s.width c k power lt)))
      (product_datum s.flags s.width c k power lt (not_so (s.flags.no_signed_wrap && nat_eq (k + 1) (bits_of_width s.width)) least))
    where
      lt : c < 2 ^ bits_of_width s.width
      lt = known_below s.width b c known

  quotient_holds : (head : Head) (s : Arithmetic) → SaysArithmetic UnsignedDivide head s → (a b : Operand) (c k : ℕ) → known_bits s.width b ≡ Some c → IsPower k c → IsRuleOf (record { head = head; operands = a ∷ b ∷ [] }) (arithmetic_with LogicalShiftRight s (operand_value a) k)
  quotient_holds head s says a b c k known power =
      operation_holds UnsignedDivide LogicalShiftRight head s says a b s.flags c k known
      (λ d. constant_gives class_of kind value forth UnsignedDivide head s says d c (quotient_whole s.flags s.width c says.is lt d (not_one s.flags s.width c k power lt)))
      (λ d. constant_gives class_of kind value forth LogicalShiftRight (head_of_arithmetic LogicalShiftRight s) s (arithmetic_says LogicalShiftRight s says.is) d k (right_shift_whole s.flags s.width k says.is (exponent_fits k c (bits_of_width s.width) power.is lt) d (some_shift s.flags s.width c k power lt)))
      (quotient_datum s.flags s.width c k power lt)
    where
      lt : c < 2 ^ bits_of_width s.width
      lt = known_below s.width b c known

  remainder_holds : (head : Head) (s : Arithmetic) → SaysArithmetic UnsignedRemainder head s → (a b : Operand) (c k : ℕ) → known_bits s.width b ≡ Some c → IsPower k c → IsRuleOf (record { head = head; operands = a ∷ b ∷ [] }) (arithmetic_with And (record { width = s.width; flags = no_flags }) (operand_value a) (2 ^ k - 1))
  remainder_holds head s says a b c k known power =
      operation_holds UnsignedRemainder And head s says a b no_flags c (2 ^ k - 1) known
      (λ d. constant_gives class_of kind value forth UnsignedRemainder head s says d c (remainder_whole s.flags s.width c says.is lt d (not_one s.flags s.width c k power lt)))
      (λ d. mask_gives class_of kind value forth (head_of_arithmetic And mask) mask (arithmetic_says And mask says.is) d k (omega (arith, some)) (less s.flags s.width c k power lt))
      (remainder_datum s.flags s.width c k power lt)
    where
      lt : c < 2 ^ bits_of_width s.width
      lt = known_below s.width b c known

      some : 0 < k
      some = power.some

      mask : Arithmetic
      mask = record { width = s.width; flags = no_flags }

  -- what is known of a constant that has an exponent
  power_of : (width : ℕ) (b : Operand) (k : ℕ) → known_exponent (known_bits width b) ≡ Some k → (c : ℕ) × (known_bits width b ≡ Some c) × IsPower k c
  power_of width b k e = by (known_bits width b) refl e
    where
      by : (o : Option ℕ) → known_bits width b ≡ o → known_exponent o ≡ Some k → (c : ℕ) × (known_bits width b ≡ Some c) × IsPower k c
      by None f g = absurd (not_none g)
      by (Some c) f g = (c, f, is_power (trailing_zeros w64 c) c k g)

  products_hold : (head : Head) (a b : Operand) (term : Term) (s : Option Arithmetic) → arithmetic_of Multiply head ≡ s → shift_product s a b ≡ Some term → IsRuleOf (record { head = head; operands = a ∷ b ∷ [] }) term
  products_hold head a b term None e f = absurd (not_none f)
  products_hold head a b term (Some s) e f = by (known_exponent (known_bits s.width b)) refl f
    where
      by : (o : Option ℕ) → known_exponent (known_bits s.width b) ≡ o → shifted_product s (operand_value a) o ≡ Some term → IsRuleOf (record { head = head; operands = a ∷ b ∷ [] }) term
      by None g h = absurd (not_none h)
      by (Some k) g h =
          let power = power_of s.width b k g in
          let both = picked (not (s.flags.no_signed_wrap && nat_eq (k + 1) (bits_of_width s.width))) (arithmetic_with ShiftLeft s (operand_value a) k) term h in
          subst (IsRuleOf (record { head = head; operands = a ∷ b ∷ [] })) both.1 (product_holds head s (says_arithmetic Multiply head s e) a b power.0 k power.1 power.2 both.0)

  quotients_hold : (head : Head) (a b : Operand) (term : Term) (s : Option Arithmetic) → arithmetic_of UnsignedDivide head ≡ s → shift_quotient s a b ≡ Some term → IsRuleOf (record { head = head; operands = a ∷ b ∷ [] }) term
  quotients_hold head a b term None e f = absurd (not_none f)
  quotients_hold head a b term (Some s) e f = by (known_exponent (known_bits s.width b)) refl f
    where
      by : (o : Option ℕ) → known_exponent (known_bits s.width b) ≡ o → shifted_quotient s (operand_value a) o ≡ Some term → IsRuleOf (record { head = head; operands = a ∷ b ∷ [] }) term
      by None g h = absurd (not_none h)
      by (Some k) g h =
          let power = power_of s.width b k g in
          subst (IsRuleOf (record { head = head; operands = a ∷ b ∷ [] })) (some_is h) (quotient_holds head s (says_arithmetic UnsignedDivide head s e) a b power.0 k power.1 power.2)

  remainders_hold : (head : Head) (a b : Operand) (term : Term) (s : Option Arithmetic) → arithmetic_of UnsignedRemainder head ≡ s → mask_remainder s a b ≡ Some term → IsRuleOf (record { head = head; operands = a ∷ b ∷ [] }) term
  remainders_hold head a b term None e f = absurd (not_none f)
  remainders_hold head a b term (Some s) e f = by (known_exponent (known_bits s.width b)) refl f
    where
      by : (o : Option ℕ) → known_exponent (known_bits s.width b) ≡ o → masked_remainder s (operand_value a) o ≡ Some term → IsRuleOf (record { head = head; operands = a ∷ b ∷ [] }) term
      by None g h = absurd (not_none h)
      by (Some k) g h =
          let power = power_of s.width b k g in
          subst (IsRuleOf (record { head = head; operands = a ∷ b ∷ [] })) (some_is h) (remainder_holds head s (says_arithmetic UnsignedRemainder head s e) a b power.0 k power.1 power.2)

  pub powers_hold : (head : Head) (a b : Operand) (term : Term) → rules_of_powers head a b ≡ Some term → IsRuleOf (record { head = head; operands = a ∷ b ∷ [] }) term
  powers_hold head a b term e = of_product (shift_product (arithmetic_of Multiply head) a b) refl e
    where
      quotient : Option Term
      quotient = shift_quotient (arithmetic_of UnsignedDivide head) a b

      remainder : Option Term
      remainder = mask_remainder (arithmetic_of UnsignedRemainder head) a b

      of_quotient : (o : Option Term) → shift_quotient (arithmetic_of UnsignedDivide head) a b ≡ o → option_or o remainder ≡ Some term → IsRuleOf (record { head = head; operands = a ∷ b ∷ [] }) term
      of_quotient None f g = remainders_hold head a b term (arithmetic_of UnsignedRemainder head) refl g
      of_quotient (Some t) f g = quotients_hold head a b term (arithmetic_of UnsignedDivide head) refl (f ∙ g)

      of_product : (o : Option Term) → shift_product (arithmetic_of Multiply head) a b ≡ o → option_or o (option_or quotient remainder) ≡ Some term → IsRuleOf (record { head = head; operands = a ∷ b ∷ [] }) term
      of_product None f g = of_quotient (shift_quotient (arithmetic_of UnsignedDivide head) a b) refl g
      of_product (Some t) f g = products_hold head a b term (arithmetic_of Multiply head) refl (f ∙ g)
