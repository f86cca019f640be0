-- What arithmetic with a constant gives, whatever the other datum is.
use Rattle.std.proofs.Common.{◌≡◌, ℕ, ◌^◌, ◌<◌, ◌≤◌, Bool, true, false, not, nat_eq, nat_lt, ◌&&◌, List, [], ◌∷◌, Option, Some, None, if◌then◌else◌, inl, inr, refl, sym, ap, ap₂, ◌∙◌, subst, arith, tests, ℤ}
use Rattle.std.specs.List.{flat_map}
use Rattle.std.specs.Option.{option_map, option_or}
use Rattle.std.proofs.Math.Pow.{pow_mono}
use Rattle.std.proofs.lemmas.Nat.{pow_pos}
use Rattle.pliron_core.specs.declared.attrs.Head.{Head}
use Rattle.pliron_core.specs.Tree.{In}
use Rattle.pliron_core.proofs.ListLemmas.{In-left}
use Rattle.pliron_laws.specs.Datum.{Datum, Number}
use Rattle.pliron_laws.specs.States.{Environment, prepend_optional}
use Rattle.pliron_dialect.specs.Identities.{same_datum, is_this, absorber_of, absorbed_of, given_between}
use Rattle.pliron_dialect.specs.declared.identity.Identity.{Identity}
use Rattle.pliron_dialect.specs.Roles.{Interpretation}
use Rattle.pliron_bits.specs.declared.flags.Flags.{Flags}
use Rattle.pliron_bits.specs.declared.operators.BinaryOperator.{BinaryOperator}
use Rattle.pliron_bits.specs.declared.operators.BinaryOperator.TheVariants.{Multiply, UnsignedDivide, UnsignedRemainder, ShiftLeft, LogicalShiftRight}
use Rattle.pliron_bits.specs.Operators.{binary}
use Rattle.pliron_dialect_mlir.specs.declared.kind.Class.{Class}
use Rattle.pliron_dialect_mlir.specs.declared.computations.Arithmetic.{Arithmetic}
use Rattle.pliron_dialect_mlir.specs.Data.{is_width, bits_of_width, number, some_if}
use Rattle.pliron_dialect_mlir.specs.Computations.{head_of_arithmetic}
use Rattle.pliron_dialect_mlir.specs.IntegerIdentities.{zero_at, one_at, number_at, identity_at, as_either, to_itself, with_absorbing, rest_by}
use Rattle.pliron_dialect_mlir.specs.OtherData.{first_other}
use Rattle.pliron_dialect_mlir.specs.Classes.{of_two}
use Rattle.pliron_rewrite_rules.specs.declared.view.Operand.{Operand}
use Rattle.pliron_rewrite_rules.specs.declared.view.View.{View}
use Rattle.pliron_rewrite_rules.specs.declared.term.Term.{Term}
use Rattle.pliron_rewrite_rules.specs.RuleLaws.{IsRule}
use Rattle.pliron_rewrite_rules.specs.Views.{Agrees, operand_values, result_datum, view_datum, term_datum, shown_in}
use Rattle.pliron_mlir_rules.specs.HeadsSay.{SaysArithmetic, arithmetic_says}
use Rattle.pliron_mlir_rules.specs.IntegerActs.{number_or_poison, computed_datum, constant_result, mlir_meaning, mlir_effects, is_that, itself, zero_is, pure_arithmetic}
use Rattle.pliron_mlir_rules.specs.Integers.{bits_in, integer, bits_alone, bits_back, some_bits, first_is_other, first_is_later}
use Rattle.pliron_mlir_rules.specs.MlirRules.{arithmetic_with}
use Rattle.pliron_mlir_rules.specs.OperandOrders.{number_or_first, outcome, whole_datum, whole_gives}
use Rattle.pliron_mlir_rules.specs.PowerNumbers.{one_times, zero_times}
use Rattle.pliron_mlir_rules.specs.WidthMoves.{false_true}

-- another number is none that leaves or gives anything
pub other_number : (width a c : ℕ) → (a ≡ c → ⊥) → is_this (Some (number width a)) (integer width c) ≡ false
other_number width a c apart = by (is_this (Some (number width a)) (integer width c)) refl
  where
    by : (b : Bool) → is_this (Some (number width a)) (integer width c) ≡ b → b ≡ false
    by true e = absurd (apart (sym (bits_alone width c a (is_that (number width a) (integer width c) e))))
    by false e = refl

-- a number of which it isn't said that the width has it
unless_other : (b : Bool) (width a c : ℕ) → (a ≡ c → ⊥) → is_this (some_if b (number width a)) (integer width c) ≡ false
unless_other true width a c apart = other_number width a c apart
unless_other false width a c apart = refl

module _ (operator : BinaryOperator) (flags : Flags) (width c : ℕ) (is : is_width width ≡ true) (lt : c < 2 ^ bits_of_width width) (d : Datum) where
  known : bits_in width (integer width c) ≡ Some c
  known = bits_back width c is lt

  abbrev computed : Option ℤ
  computed = option_map (number width) (of_two (binary operator flags (bits_of_width width)) (bits_in width d) (bits_in width (integer width c)))

  -- what is computed, and what goes through
  pub computed_first : number_or_first computed width d (integer width c) ≡ constant_result operator flags width d c
  computed_first =
      ap (λ q. number_or_first (option_map (number width) (of_two (binary operator flags (bits_of_width width)) (bits_in width d) q)) width d (integer width c)) known
      ∙ by (bits_in width d) refl
    where
      of_number : (a : ℕ) → bits_in width d ≡ Some a → (o : Option ℕ) → number_or_first (option_map (number width) o) width d (integer width c) ≡ number_or_poison width o
      of_number a e (Some n) = refl
      of_number a e None = first_is_later width d (integer width c ∷ []) a e ∙ first_is_later width (integer width c) [] c known

      by : (o : Option ℕ) → bits_in width d ≡ o → number_or_first (option_map (number width) (of_two (binary operator flags (bits_of_width width)) o (Some c))) width d (integer width c) ≡ computed_datum operator flags width o d c
      by (Some a) e = of_number a e (binary operator flags (bits_of_width width) a c)
      by None e = first_is_other width d (integer width c ∷ []) e

-- operators of which only the second operand says that anything is left or given
module _ (flags : Flags) (width c : ℕ) (is : is_width width ≡ true) (lt : c < 2 ^ bits_of_width width) (d : Datum) where
  given_none : (b : Bool) (x : Option ℤ) → option_or (if b then None else None) x ≡ x
  given_none true x = refl
  given_none false x = refl

  abbrev computes : BinaryOperator → Option ℤ
  computes operator = option_map (number width) (of_two (binary operator flags (bits_of_width width)) (bits_in width d) (bits_in width (integer width c)))

  pub left_shift_whole : (c ≡ 0 → ⊥) → whole_datum ShiftLeft flags width d (integer width c) ≡ constant_result ShiftLeft flags width d c
  left_shift_whole some =
      ap (λ b. outcome b false false (option_or (if same_datum d (integer width c) then None else None) (computes ShiftLeft)) width d (integer width c)) (unless_other (is_width width) width 0 c (λ e. some (sym e)))
      ∙ ap (λ g. number_or_first g width d (integer width c)) (given_none (same_datum d (integer width c)) (computes ShiftLeft))
      ∙ computed_first ShiftLeft flags width c is lt d

  pub right_shift_whole : (c ≡ 0 → ⊥) → whole_datum LogicalShiftRight flags width d (integer width c) ≡ constant_result LogicalShiftRight flags width d c
  right_shift_whole some =
      ap (λ b. outcome b false false (option_or (if same_datum d (integer width c) then None else None) (computes LogicalShiftRight)) width d (integer width c)) (unless_other (is_width width) width 0 c (λ e. some (sym e)))
      ∙ ap (λ g. number_or_first g width d (integer width c)) (given_none (same_datum d (integer width c)) (computes LogicalShiftRight))
      ∙ computed_first LogicalShiftRight flags width c is lt d

  pub quotient_whole : (c ≡ 1 → ⊥) → whole_datum UnsignedDivide flags width d (integer width c) ≡ constant_result UnsignedDivide flags width d c
  quotient_whole apart =
      ap (λ b. outcome b false false (option_or (if same_datum d (integer width c) then None else None) (computes UnsignedDivide)) width d (integer width c)) (unless_other (is_width width && nat_lt 1 width) width 1 c (λ e. apart (sym e)))
      ∙ ap (λ g. number_or_first g width d (integer width c)) (given_none (same_datum d (integer width c)) (computes UnsignedDivide))
      ∙ computed_first UnsignedDivide flags width c is lt d

  pub remainder_whole : (c ≡ 1 → ⊥) → whole_datum UnsignedRemainder flags width d (integer width c) ≡ constant_result UnsignedRemainder flags width d c
  remainder_whole apart =
      ap (λ b. outcome false false false (option_or (if b then absorbed_of (identity_at UnsignedRemainder flags width) else if same_datum d (integer width c) then None else None) (computes UnsignedRemainder)) width d (integer width c)) (none (is_width width))
      ∙ ap (λ g. number_or_first g width d (integer width c)) (given_none (same_datum d (integer width c)) (computes UnsignedRemainder))
      ∙ computed_first UnsignedRemainder flags width c is lt d
    where
      none : (b : Bool) → is_this (absorber_of (rest_by width (some_if b (number width 1)))) (integer width c) ≡ false
      none true = other_number width 1 c (λ e. apart (sym e))
      none false = refl

  -- a product: 1 is neutral, and 0 absorbs
  pub product_whole : 2 ≤ bits_of_width width → (c ≡ 0 → ⊥) → (c ≡ 1 → ⊥) → whole_datum Multiply flags width d (integer width c) ≡ constant_result Multiply flags width d c
  product_whole two some apart =
      ap (λ z. outcome (is_this (one_at width) (integer width c)) (is_this (one_at width) d) false (option_or (given_between (with_absorbing (as_either (one_at width) false) z) d (integer width c)) (computes Multiply)) width d (integer width c)) (zero_is width is)
      ∙ ap (λ x. parts (is_this (one_at width) (integer width c)) (is_this (one_at width) d) (is_this (zero_if x) (integer width c)) (is_this (zero_if x) d) x) (itself (number width 0))
      ∙ ap₂ (λ p q. parts p (is_this (one_at width) d) q (is_this (Some (number width 0)) d) true) (unless_other (is_width width && nat_lt 1 width) width 1 c (λ e. apart (sym e))) (other_number width 0 c (λ e. some (sym e)))
      ∙ by (is_this (one_at width) d) refl (is_this (Some (number width 0)) d) refl
    where
      -- 0, where it gives itself
      zero_if : Bool → Option ℤ
      zero_if agrees = option_map (λ a. a.operand) (if true && not agrees then None else Some (to_itself (number width 0)))

      parts : (behind before second first agrees : Bool) → Datum
      parts behind before second first agrees =
          outcome behind before false
          (option_or (if second then result_if agrees else if first then result_if agrees else if same_datum d (integer width c) then None else None) (computes Multiply)) width d (integer width c)
        where
          result_if : Bool → Option ℤ
          result_if agrees = option_map (λ a. a.result) (if true && not agrees then None else Some (to_itself (number width 0)))

      is_one : (b : Bool) → is_this (some_if b (number width 1)) d ≡ true → d ≡ integer width 1
      is_one true e = is_that (number width 1) d e
      is_one false e = false_true false refl e

      one_fits : 1 < 2 ^ bits_of_width width
      one_fits = let le : 2 ^ 2 ≤ 2 ^ bits_of_width width = pow_mono two in omega (arith, le)

      by : (before : Bool) → is_this (one_at width) d ≡ before → (first : Bool) → is_this (Some (number width 0)) d ≡ first → parts false before false first true ≡ constant_result Multiply flags width d c
      by true e first f =
          sym (ap (λ x. constant_result Multiply flags width x c) (is_one (is_width width && nat_lt 1 width) e)
          ∙ ap (λ o. computed_datum Multiply flags width o (integer width 1) c) (bits_back width 1 is one_fits)
          ∙ ap (number_or_poison width) (one_times flags (bits_of_width width) c two lt))
      by false e true f =
          sym (ap (λ x. constant_result Multiply flags width x c) (is_that (number width 0) d f)
          ∙ ap (λ o. computed_datum Multiply flags width o (integer width 0) c) (bits_back width 0 is (pow_pos (bits_of_width width)))
          ∙ ap (number_or_poison width) (zero_times flags (bits_of_width width) c (some_bits width is)))
      by false e false f =
          ap (λ g. number_or_first g width d (integer width c)) (given_none (same_datum d (integer width c)) (computes Multiply))
          ∙ computed_first Multiply flags width c is lt d

-- ---- rules whose term is such an operation

module _ {K : Type 0} (class_of : K → Class) (kind : Class → K) (value : Interpretation) (forth : (c : Class) → class_of (kind c) ≡ c) where
  pub constant_gives : (operator : BinaryOperator) (head : Head) (s : Arithmetic) → SaysArithmetic operator head s → (d : Datum) (c : ℕ) → whole_datum operator s.flags s.width d (integer s.width c) ≡ constant_result operator s.flags s.width d c →
      result_datum (mlir_meaning class_of kind value) head (Some (d ∷ integer s.width c ∷ [])) ≡ Some (constant_result operator s.flags s.width d c)
  constant_gives operator head s says d c whole = whole_gives class_of kind value forth operator head s says d (integer s.width c) ∙ ap Some whole

  pub arithmetic_with_holds : (operator : BinaryOperator) (head : Head) (a b : Operand) (s : Arithmetic) (v k : ℕ) → is_width s.width ≡ true → In v (operand_values a) →
      ((env : Environment) (r : Datum) → Agrees (mlir_meaning class_of kind value) env (record { head = head; operands = a ∷ b ∷ [] }) → view_datum (mlir_meaning class_of kind value) env (record { head = head; operands = a ∷ b ∷ [] }) ≡ Some r → term_datum (mlir_meaning class_of kind value) env (arithmetic_with operator s v k) ≡ Some r)
      → IsRule (mlir_meaning class_of kind value) (mlir_effects class_of kind value) (λ attr. true) (record { head = head; operands = a ∷ b ∷ [] }) (arithmetic_with operator s v k)
  arithmetic_with_holds operator head a b s v k is shown equal = record {
    buildable = (pure_arithmetic class_of kind value forth operator (head_of_arithmetic operator s) (arithmetic_says operator s is).class, (tt, (refl, tt)));
    shown = λ u i. named u i;
    equal = equal;
  }
    where
      named : (u : ℕ) → In u (v ∷ []) → In u (shown_in (record { head = head; operands = a ∷ b ∷ [] }))
      named u (inl i) = In-left u (operand_values a) (flat_map operand_values (b ∷ [])) (subst (λ z. In z (operand_values a)) (sym i) shown)
      named u (inr never) = absurd never
