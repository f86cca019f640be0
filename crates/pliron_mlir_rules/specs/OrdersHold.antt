-- Constants stand second.
use Rattle.std.proofs.Common.{◌≡◌, ℕ, ◌^◌, ◌<◌, Bool, true, false, List, [], ◌∷◌, Option, Some, None, inl, inr, refl, sym, ap, ap₂, ◌∙◌, subst}
use Rattle.std.specs.List.{flat_map}
use Rattle.std.specs.Option.{option_or}
use Rattle.pliron_core.specs.declared.attrs.Head.{Head}
use Rattle.pliron_core.specs.Tree.{In}
use Rattle.pliron_core.proofs.HoldingLemmas.{not_none, some_is}
use Rattle.pliron_core.proofs.ListLemmas.{In-left, In-right}
use Rattle.pliron_laws.specs.Datum.{Datum}
use Rattle.pliron_laws.specs.States.{Environment, prepend_optional}
use Rattle.pliron_dialect.specs.Roles.{Interpretation}
use Rattle.pliron_bits.specs.declared.operators.BinaryOperator.{BinaryOperator}
use Rattle.pliron_bits.specs.declared.operators.BinaryOperator.TheVariants.{Add, Multiply, And, Or, Xor}
use Rattle.pliron_dialect_mlir.specs.declared.kind.Class.{Class}
use Rattle.pliron_dialect_mlir.specs.declared.computations.Arithmetic.{Arithmetic}
use Rattle.pliron_dialect_mlir.specs.declared.computations.Comparison.{Comparison}
use Rattle.pliron_dialect_mlir.specs.Data.{bits_of_width}
use Rattle.pliron_dialect_mlir.specs.Computations.{comparison_of, arithmetic_of, head_of_comparison, head_of_arithmetic}
use Rattle.pliron_rewrite_rules.specs.declared.view.Operand.{Operand}
use Rattle.pliron_rewrite_rules.specs.declared.view.View.{View}
use Rattle.pliron_rewrite_rules.specs.declared.term.Atom.TheVariants.{Named}
use Rattle.pliron_rewrite_rules.specs.declared.term.Term.{Term}
use Rattle.pliron_rewrite_rules.specs.declared.term.Term.TheVariants.{Make}
use Rattle.pliron_rewrite_rules.specs.RuleLaws.{IsRule, IsPureHead}
use Rattle.pliron_rewrite_rules.specs.Views.{Agrees, operand_value, operand_values, operand_datum, result_datum, view_datum, term_datum, shown_in}
use Rattle.pliron_mlir_rules.specs.ConstantComparisons.{number_swaps}
use Rattle.pliron_mlir_rules.specs.HeadsSay.{picked, SaysComparison, says_comparison, comparison_says, SaysArithmetic, says_arithmetic, arithmetic_says}
use Rattle.pliron_mlir_rules.specs.IntegerActs.{comparison_result, mlir_meaning, mlir_effects, comparison_gives, pure_comparison, pure_arithmetic}
use Rattle.pliron_mlir_rules.specs.Integers.{integer}
use Rattle.pliron_mlir_rules.specs.MlirRules.{known_bits, swapped_of, is_first_known, swap_comparison, swap_operands, swap_constant}
use Rattle.pliron_mlir_rules.specs.OperandOrders.{Commutes, sums_commute, products_commute, conjunctions_commute, disjunctions_commute, exclusions_commute, order_gives}
use Rattle.pliron_mlir_rules.specs.Seen.{both_have, value_shown, value_has, known_reads, known_below}
use Rattle.pliron_mlir_rules.specs.WidthMoves.{false_true}

first_is_known : (p q : Option ℕ) → is_first_known p q ≡ true → (c : ℕ) × (p ≡ Some c)
first_is_known (Some c) q e = (c, refl)
first_is_known None q e = false_true false refl e

module _ {K : Type 0} (class_of : K → Class) (kind : Class → K) (value : Interpretation) (forth : (c : Class) → class_of (kind c) ≡ c) where
  abbrev IsRuleOf : View → Term → Type 0
  IsRuleOf view term = IsRule (mlir_meaning class_of kind value) (mlir_effects class_of kind value) (λ attr. true) view term

  -- a rule whose term has the operands in the other order, one of which is a number of this width
  module _ (head turned : Head) (a b : Operand) (width c : ℕ) (known : known_bits width a ≡ Some c) (pure : IsPureHead (mlir_meaning class_of kind value) (mlir_effects class_of kind value) turned 2)
      (gives : (e : Datum) → result_datum (mlir_meaning class_of kind value) turned (Some (e ∷ integer width c ∷ [])) ≡ result_datum (mlir_meaning class_of kind value) head (Some (integer width c ∷ e ∷ []))) where
    abbrev view : View
    view = record { head = head; operands = a ∷ b ∷ [] }

    abbrev swapped : Term
    swapped = Make turned (Named (operand_value b) ∷ Named (operand_value a) ∷ [])

    shown : (u : ℕ) → In u (operand_value b ∷ operand_value a ∷ []) → In u (shown_in view)
    shown u (inl i) = In-right u (operand_values a) (flat_map operand_values (b ∷ [])) (In-left u (operand_values b) [] (subst (λ z. In z (operand_values b)) (sym i) (value_shown b)))
    shown u (inr (inl i)) = In-left u (operand_values a) (flat_map operand_values (b ∷ [])) (subst (λ z. In z (operand_values a)) (sym i) (value_shown a))
    shown u (inr (inr never)) = absurd never

    equal : (env : Environment) (r : Datum) → Agrees (mlir_meaning class_of kind value) env view → view_datum (mlir_meaning class_of kind value) env view ≡ Some r → term_datum (mlir_meaning class_of kind value) env swapped ≡ Some r
    equal env r agrees e =
        let both = both_have (mlir_meaning class_of kind value) head (operand_datum (mlir_meaning class_of kind value) env a) (operand_datum (mlir_meaning class_of kind value) env b) r e in
        let first : both.0 ≡ integer width c = known_reads class_of kind value forth env width a c both.0 known both.2 in
        ap₂ (λ p q. result_datum (mlir_meaning class_of kind value) turned (prepend_optional p (prepend_optional q (Some [])))) (value_has class_of kind value forth env b agrees.1.0 ∙ both.3) (value_has class_of kind value forth env a agrees.0 ∙ both.2 ∙ ap Some first)
        ∙ gives both.1
        ∙ ap₂ (λ p q. result_datum (mlir_meaning class_of kind value) head (prepend_optional p (prepend_optional q (Some [])))) (ap Some (sym first) ∙ sym both.2) (sym both.3)
        ∙ e

    turned_holds : IsRuleOf view swapped
    turned_holds = record {
      buildable = (pure, (tt, (tt, tt)));
      shown = λ u i. shown u i;
      equal = λ env r agrees e. equal env r agrees e;
    }

  -- ---- comparisons

  comparison_holds : (head : Head) (c : Comparison) → SaysComparison head c → (a b : Operand) (n : ℕ) → known_bits c.width a ≡ Some n → IsRuleOf (record { head = head; operands = a ∷ b ∷ [] }) (Make (head_of_comparison (record { width = c.width; predicate = swapped_of c.predicate })) (Named (operand_value b) ∷ Named (operand_value a) ∷ []))
  comparison_holds head c says a b n known = turned_holds head (head_of_comparison other) a b c.width n known (pure_comparison class_of kind value forth (head_of_comparison other) (comparison_says other says.is).class) gives
    where
      other : Comparison
      other = record { width = c.width; predicate = swapped_of c.predicate }

      gives : (e : Datum) → result_datum (mlir_meaning class_of kind value) (head_of_comparison other) (Some (e ∷ integer c.width n ∷ [])) ≡ result_datum (mlir_meaning class_of kind value) head (Some (integer c.width n ∷ e ∷ []))
      gives e =
          comparison_gives class_of kind value forth (head_of_comparison other) other (comparison_says other says.is) e (integer c.width n)
          ∙ ap Some (sym (number_swaps c.width c.predicate n says.is (known_below c.width a n known) e))
          ∙ sym (comparison_gives class_of kind value forth head c says (integer c.width n) e)

  pub swapped_comparisons_hold : (head : Head) (a b : Operand) (term : Term) (c : Option Comparison) → comparison_of head ≡ c → swap_comparison c a b ≡ Some term → IsRuleOf (record { head = head; operands = a ∷ b ∷ [] }) term
  swapped_comparisons_hold head a b term None e f = absurd (not_none f)
  swapped_comparisons_hold head a b term (Some c) e f =
      let both = picked (is_first_known (known_bits c.width a) (known_bits c.width b)) (Make (head_of_comparison (record { width = c.width; predicate = swapped_of c.predicate })) (Named (operand_value b) ∷ Named (operand_value a) ∷ [])) term f in
      let first = first_is_known (known_bits c.width a) (known_bits c.width b) both.0 in
      subst (IsRuleOf (record { head = head; operands = a ∷ b ∷ [] })) both.1 (comparison_holds head c (says_comparison head c e) a b first.0 first.1)

  -- ---- arithmetic

  arithmetic_holds : (operator : BinaryOperator) → Commutes operator → (head : Head) (s : Arithmetic) → SaysArithmetic operator head s → (a b : Operand) (n : ℕ) → known_bits s.width a ≡ Some n → IsRuleOf (record { head = head; operands = a ∷ b ∷ [] }) (Make (head_of_arithmetic operator s) (Named (operand_value b) ∷ Named (operand_value a) ∷ []))
  arithmetic_holds operator commutes head s says a b n known =
      turned_holds head (head_of_arithmetic operator s) a b s.width n known (pure_arithmetic class_of kind value forth operator (head_of_arithmetic operator s) (arithmetic_says operator s says.is).class)
      (order_gives class_of kind value forth operator commutes head (head_of_arithmetic operator s) s says (arithmetic_says operator s says.is) n (known_below s.width a n known))

  operands_hold : (operator : BinaryOperator) → Commutes operator → (head : Head) (a b : Operand) (term : Term) (s : Option Arithmetic) → arithmetic_of operator head ≡ s → swap_operands operator s a b ≡ Some term → IsRuleOf (record { head = head; operands = a ∷ b ∷ [] }) term
  operands_hold operator commutes head a b term None e f = absurd (not_none f)
  operands_hold operator commutes head a b term (Some s) e f =
      let both = picked (is_first_known (known_bits s.width a) (known_bits s.width b)) (Make (head_of_arithmetic operator s) (Named (operand_value b) ∷ Named (operand_value a) ∷ [])) term f in
      let first = first_is_known (known_bits s.width a) (known_bits s.width b) both.0 in
      subst (IsRuleOf (record { head = head; operands = a ∷ b ∷ [] })) both.1 (arithmetic_holds operator commutes head s (says_arithmetic operator head s e) a b first.0 first.1)

  pub swapped_constants_hold : (head : Head) (a b : Operand) (term : Term) → swap_constant head a b ≡ Some term → IsRuleOf (record { head = head; operands = a ∷ b ∷ [] }) term
  swapped_constants_hold head a b term e = of_sum (swap_operands Add (arithmetic_of Add head) a b) refl e
    where
      common : Option Term
      common = swap_operands And (arithmetic_of And head) a b

      either : Option Term
      either = swap_operands Or (arithmetic_of Or head) a b

      exclusive : Option Term
      exclusive = swap_operands Xor (arithmetic_of Xor head) a b

      product : Option Term
      product = swap_operands Multiply (arithmetic_of Multiply head) a b

      of_exclusive : (o : Option Term) → swap_operands Xor (arithmetic_of Xor head) a b ≡ o → option_or o product ≡ Some term → IsRuleOf (record { head = head; operands = a ∷ b ∷ [] }) term
      of_exclusive None f g = operands_hold Multiply products_commute head a b term (arithmetic_of Multiply head) refl g
      of_exclusive (Some t) f g = operands_hold Xor exclusions_commute head a b term (arithmetic_of Xor head) refl (f ∙ g)

      of_either : (o : Option Term) → swap_operands Or (arithmetic_of Or head) a b ≡ o → option_or o (option_or exclusive product) ≡ Some term → IsRuleOf (record { head = head; operands = a ∷ b ∷ [] }) term
      of_either None f g = of_exclusive (swap_operands Xor (arithmetic_of Xor head) a b) refl g
      of_either (Some t) f g = operands_hold Or disjunctions_commute head a b term (arithmetic_of Or head) refl (f ∙ g)

      of_common : (o : Option Term) → swap_operands And (arithmetic_of And head) a b ≡ o → option_or o (option_or either (option_or exclusive product)) ≡ Some term → IsRuleOf (record { head = head; operands = a ∷ b ∷ [] }) term
      of_common None f g = of_either (swap_operands Or (arithmetic_of Or head) a b) refl g
      of_common (Some t) f g = operands_hold And conjunctions_commute head a b term (arithmetic_of And head) refl (f ∙ g)

      of_sum : (o : Option Term) → swap_operands Add (arithmetic_of Add head) a b ≡ o → option_or o (option_or common (option_or either (option_or exclusive product))) ≡ Some term → IsRuleOf (record { head = head; operands = a ∷ b ∷ [] }) term
      of_sum None f g = of_common (swap_operands And (arithmetic_of And head) a b) refl g
      of_sum (Some t) f g = operands_hold Add sums_commute head a b term (arithmetic_of Add head) refl (f ∙ g)
