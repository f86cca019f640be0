-- Differences from constants, as sums.
use Rattle.std.proofs.Common.{◌≡◌, ℕ, ◌+◌, ◌-◌, ◌%◌, ◌^◌, ◌<◌, Bool, true, false, not, nat_eq, nat_lt, ◌&&◌, [], ◌∷◌, Option, Some, None, inl, inr, refl, sym, ap, ap₂, ◌∙◌, subst, arith}
use Rattle.std.specs.List.{flat_map}
use Rattle.std.proofs.lemmas.Bool.Decides.{Decides-ltb}
use Rattle.pliron_core.specs.declared.attrs.Head.{Head}
use Rattle.pliron_core.specs.Tree.{In}
use Rattle.pliron_core.proofs.HoldingLemmas.{not_none}
use Rattle.pliron_core.proofs.ListLemmas.{In-left}
use Rattle.pliron_laws.specs.Datum.{Datum}
use Rattle.pliron_laws.specs.States.{Environment, prepend_optional}
use Rattle.pliron_dialect.specs.Roles.{Interpretation}
use Rattle.pliron_bits.specs.declared.flags.Flags.{Flags}
use Rattle.pliron_bits.specs.declared.operators.BinaryOperator.TheVariants.{Add, Subtract}
use Rattle.pliron_bits.specs.Arithmetic.{sum}
use Rattle.pliron_dialect_mlir.specs.declared.kind.Class.{Class}
use Rattle.pliron_dialect_mlir.specs.declared.computations.Arithmetic.{Arithmetic}
use Rattle.pliron_dialect_mlir.specs.Data.{is_width, bits_of_width}
use Rattle.pliron_dialect_mlir.specs.Computations.{arithmetic_of, head_of_arithmetic}
use Rattle.pliron_rewrite_rules.specs.declared.view.Operand.{Operand}
use Rattle.pliron_rewrite_rules.specs.declared.view.View.{View}
use Rattle.pliron_rewrite_rules.specs.declared.term.Term.{Term}
use Rattle.pliron_rewrite_rules.specs.RuleLaws.{IsRule}
use Rattle.pliron_rewrite_rules.specs.Views.{Agrees, operand_value, operand_values, operand_datum, result_datum, view_datum, term_datum, shown_in}
use Rattle.pliron_mlir_rules.specs.HeadsSay.{both_so, picked, SaysArithmetic, says_arithmetic, signed_says}
use Rattle.pliron_mlir_rules.specs.IntegerActs.{number_or_poison, computed_datum, constant_result, mlir_meaning, mlir_effects, sum_gives, difference_gives, pure_arithmetic}
use Rattle.pliron_mlir_rules.specs.Integers.{bits_in, integer, some_bits}
use Rattle.pliron_mlir_rules.specs.MlirRules.{known_bits, wraps_freely, if_signed, sum_with, may_negate, negated_sum, subtract_constant}
use Rattle.pliron_mlir_rules.specs.Seen.{both_have, value_shown, value_has, known_reads, known_below}
use Rattle.pliron_mlir_rules.specs.SumNumbers.{difference_is_sum}

pub not_true : (b : Bool) → not b ≡ true → b ≡ false
not_true true e = sym e
not_true false e = refl

-- ---- data

negated_datum : (flags : Flags) (width c : ℕ) → is_width width ≡ true → 0 < c → c < 2 ^ bits_of_width width → flags.no_unsigned_wrap ≡ false → flags.no_signed_wrap && nat_eq c (2 ^ (bits_of_width width - 1)) ≡ false → (d : Datum) → constant_result Subtract flags width d c ≡ constant_result Add (if_signed flags.no_signed_wrap) width d (2 ^ bits_of_width width - c)
negated_datum flags width c is some lt unsigned least d = by (bits_in width d)
  where
    by : (o : Option ℕ) → computed_datum Subtract flags width o d c ≡ computed_datum Add (if_signed flags.no_signed_wrap) width o d (2 ^ bits_of_width width - c)
    by None = refl
    by (Some a) = ap (number_or_poison width) (difference_is_sum flags (bits_of_width width) a c (some_bits width is) some lt unsigned least)

-- where sums may wrap
pub free_sum : (flags : Flags) (w a c : ℕ) → wraps_freely flags ≡ true → sum flags w a c ≡ Some ((a + c) % 2 ^ w)
free_sum flags w a c free =
    let both = both_so (not flags.no_signed_wrap) (not flags.no_unsigned_wrap) free in
    ap₂ (λ x y. sum (record flags { no_signed_wrap = x; no_unsigned_wrap = y }) w a c) (not_true flags.no_signed_wrap both.0) (not_true flags.no_unsigned_wrap both.1)

module _ {K : Type 0} (class_of : K → Class) (kind : Class → K) (value : Interpretation) (forth : (c : Class) → class_of (kind c) ≡ c) where
  abbrev IsRuleOf : View → Term → Type 0
  IsRuleOf view term = IsRule (mlir_meaning class_of kind value) (mlir_effects class_of kind value) (λ attr. true) view term

  -- what a sum with a constant gives
  sum_term_gives : (env : Environment) (width : ℕ) (signed : Bool) (v k : ℕ) (d : Datum) → is_width width ≡ true → k < 2 ^ bits_of_width width → env v ≡ Some d → term_datum (mlir_meaning class_of kind value) env (sum_with width signed v k) ≡ Some (constant_result Add (if_signed signed) width d k)
  sum_term_gives env width signed v k d is lt has =
      ap (λ o. result_datum (mlir_meaning class_of kind value) (head_of_arithmetic Add (record { width = width; flags = if_signed signed })) (prepend_optional o (Some (integer width k ∷ [])))) has
      ∙ sum_gives class_of kind value forth (head_of_arithmetic Add (record { width = width; flags = if_signed signed })) (record { width = width; flags = if_signed signed }) (signed_says Add width signed is) d k lt

  -- a rule whose term is a sum with a constant
  sum_holds : (head : Head) (a b : Operand) (width : ℕ) (signed : Bool) (v k : ℕ) → is_width width ≡ true → In v (operand_values a) →
      ((env : Environment) (r : Datum) → Agrees (mlir_meaning class_of kind value) env (record { head = head; operands = a ∷ b ∷ [] }) → view_datum (mlir_meaning class_of kind value) env (record { head = head; operands = a ∷ b ∷ [] }) ≡ Some r → term_datum (mlir_meaning class_of kind value) env (sum_with width signed v k) ≡ Some r)
      → IsRuleOf (record { head = head; operands = a ∷ b ∷ [] }) (sum_with width signed v k)
  sum_holds head a b width signed v k is shown equal = record {
    buildable = (pure_arithmetic class_of kind value forth Add (head_of_arithmetic Add (record { width = width; flags = if_signed signed })) (signed_says Add width signed is).class, (tt, (refl, tt)));
    shown = λ u i. named u i;
    equal = equal;
  }
    where
      named : (u : ℕ) → In u (v ∷ []) → In u (shown_in (record { head = head; operands = a ∷ b ∷ [] }))
      named u (inl i) = In-left u (operand_values a) (flat_map operand_values (b ∷ [])) (subst (λ z. In z (operand_values a)) (sym i) shown)
      named u (inr never) = absurd never

  -- ---- differences

  difference_holds : (head : Head) (s : Arithmetic) → SaysArithmetic Subtract head s → (a b : Operand) (c : ℕ) → known_bits s.width b ≡ Some c → may_negate s c ≡ true → IsRuleOf (record { head = head; operands = a ∷ b ∷ [] }) (sum_with s.width s.flags.no_signed_wrap (operand_value a) (2 ^ bits_of_width s.width - c))
  difference_holds head s says a b c known may = sum_holds head a b s.width s.flags.no_signed_wrap (operand_value a) (2 ^ bits_of_width s.width - c) says.is (value_shown a) (λ env r agrees e. equal env r agrees e)
    where
      parts : (nat_lt 0 c ≡ true) × (not s.flags.no_unsigned_wrap && not (s.flags.no_signed_wrap && nat_eq c (2 ^ (bits_of_width s.width - 1))) ≡ true)
      parts = both_so (nat_lt 0 c) (not s.flags.no_unsigned_wrap && not (s.flags.no_signed_wrap && nat_eq c (2 ^ (bits_of_width s.width - 1)))) may

      promises : (not s.flags.no_unsigned_wrap ≡ true) × (not (s.flags.no_signed_wrap && nat_eq c (2 ^ (bits_of_width s.width - 1))) ≡ true)
      promises = both_so (not s.flags.no_unsigned_wrap) (not (s.flags.no_signed_wrap && nat_eq c (2 ^ (bits_of_width s.width - 1)))) parts.1

      some : 0 < c
      some = (Decides-ltb 0 c).0 parts.0

      lt : c < 2 ^ bits_of_width s.width
      lt = known_below s.width b c known

      equal : (env : Environment) (r : Datum) → Agrees (mlir_meaning class_of kind value) env (record { head = head; operands = a ∷ b ∷ [] }) → view_datum (mlir_meaning class_of kind value) env (record { head = head; operands = a ∷ b ∷ [] }) ≡ Some r → term_datum (mlir_meaning class_of kind value) env (sum_with s.width s.flags.no_signed_wrap (operand_value a) (2 ^ bits_of_width s.width - c)) ≡ Some r
      equal env r agrees e =
          let both = both_have (mlir_meaning class_of kind value) head (operand_datum (mlir_meaning class_of kind value) env a) (operand_datum (mlir_meaning class_of kind value) env b) r e in
          sum_term_gives env s.width s.flags.no_signed_wrap (operand_value a) (2 ^ bits_of_width s.width - c) both.0 says.is (omega (arith, some, lt)) (value_has class_of kind value forth env a agrees.0 ∙ both.2)
          ∙ ap Some (sym (negated_datum s.flags s.width c says.is some lt (not_true s.flags.no_unsigned_wrap promises.0) (not_true (s.flags.no_signed_wrap && nat_eq c (2 ^ (bits_of_width s.width - 1))) promises.1) both.0))
          ∙ sym (difference_gives class_of kind value forth head s says both.0 c some lt)
          ∙ ap₂ (λ p q. result_datum (mlir_meaning class_of kind value) head (prepend_optional p (prepend_optional q (Some [])))) (sym both.2) (ap Some (sym (known_reads class_of kind value forth env s.width b c both.1 known both.3)) ∙ sym both.3)
          ∙ e

  pub differences_hold : (head : Head) (a b : Operand) (term : Term) (s : Option Arithmetic) → arithmetic_of Subtract head ≡ s → subtract_constant s a b ≡ Some term → IsRuleOf (record { head = head; operands = a ∷ b ∷ [] }) term
  differences_hold head a b term None e f = absurd (not_none f)
  differences_hold head a b term (Some s) e f = of_bits (known_bits s.width b) refl f
    where
      of_bits : (o : Option ℕ) → known_bits s.width b ≡ o → negated_sum s (operand_value a) o ≡ Some term → IsRuleOf (record { head = head; operands = a ∷ b ∷ [] }) term
      of_bits None g h = absurd (not_none h)
      of_bits (Some c) g h =
          let both = picked (may_negate s c) (sum_with s.width s.flags.no_signed_wrap (operand_value a) (2 ^ bits_of_width s.width - c)) term h in
          subst (IsRuleOf (record { head = head; operands = a ∷ b ∷ [] })) both.1 (difference_holds head s (says_arithmetic Subtract head s e) a b c g both.0)
