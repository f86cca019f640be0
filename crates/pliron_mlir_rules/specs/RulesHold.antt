-- Each term has the datum of what is seen.
use Rattle.std.proofs.Common.{◌≡◌, Bool, true, false, if◌then◌else◌, List, [], ◌∷◌, Option, Some, None, refl, ◌∙◌}
use Rattle.std.specs.Option.{option_or}
use Rattle.pliron_core.specs.declared.attrs.Head.{Head}
use Rattle.pliron_core.proofs.HoldingLemmas.{not_none}
use Rattle.pliron_dialect.specs.Roles.{Interpretation}
use Rattle.pliron_bits.specs.declared.operators.BinaryOperator.TheVariants.{Subtract, Xor}
use Rattle.pliron_bits.specs.declared.operators.Cast.TheVariants.{ZeroExtend, SignExtend, Truncate}
use Rattle.pliron_dialect_mlir.specs.declared.kind.Class.{Class}
use Rattle.pliron_dialect_mlir.specs.Computations.{comparison_of, conversion_of, arithmetic_of}
use Rattle.pliron_rewrite_rules.specs.declared.view.Operand.{Operand}
use Rattle.pliron_rewrite_rules.specs.declared.view.View.{View}
use Rattle.pliron_rewrite_rules.specs.declared.term.Term.{Term}
use Rattle.pliron_rewrite_rules.specs.RuleLaws.{IsRule, RulesHold}
use Rattle.pliron_mlir_rules.specs.CastsHold.{casts_hold}
use Rattle.pliron_mlir_rules.specs.ComparisonsHold.{compare_holds}
use Rattle.pliron_mlir_rules.specs.ConstantsHold.{constants_hold}
use Rattle.pliron_mlir_rules.specs.DifferencesHold.{differences_differ, exclusions_differ, differences_compare}
use Rattle.pliron_mlir_rules.specs.EquationsHold.{equations_hold}
use Rattle.pliron_mlir_rules.specs.ExtensionNumbers.{zeros_extend, signs_extend}
use Rattle.pliron_mlir_rules.specs.IntegerActs.{mlir_meaning, mlir_effects}
use Rattle.pliron_mlir_rules.specs.MlirRules.{swap_comparison, compare_narrow, compare_strictly, compare_summand, compare_difference, join_casts, mask_bits, swap_constant, subtract_constant, rules_of_constants, invert_comparison, rules_of_unary, rules_of_comparison, rules_of_arithmetic, rules_of_powers, rules_of_binary, by_mlir_operands, has_rules, mlir_rules}
use Rattle.pliron_mlir_rules.specs.InversesHold.{inverses_hold}
use Rattle.pliron_mlir_rules.specs.MasksHold.{masks_hold}
use Rattle.pliron_mlir_rules.specs.OrdersHold.{swapped_comparisons_hold, swapped_constants_hold}
use Rattle.pliron_mlir_rules.specs.PowersHold.{powers_hold}
use Rattle.pliron_mlir_rules.specs.StrictHold.{strict_holds}
use Rattle.pliron_mlir_rules.specs.SumsHold.{differences_hold}

module _ {K : Type 0} (class_of : K → Class) (kind : Class → K) (value : Interpretation) (forth : (c : Class) → class_of (kind c) ≡ c) where
  abbrev IsRuleOf : View → Term → Type 0
  IsRuleOf view term = IsRule (mlir_meaning class_of kind value) (mlir_effects class_of kind value) (λ attr. true) view term

  one_holds : (head : Head) (a : Operand) (term : Term) → rules_of_unary head a ≡ Some term → IsRuleOf (record { head = head; operands = a ∷ [] }) term
  one_holds head a term e = of_zero (join_casts ZeroExtend (conversion_of ZeroExtend head) a) refl e
    where
      signed : Option Term
      signed = join_casts SignExtend (conversion_of SignExtend head) a

      cut : Option Term
      cut = join_casts Truncate (conversion_of Truncate head) a

      masked : Option Term
      masked = mask_bits (conversion_of ZeroExtend head) a

      of_cut : (o : Option Term) → join_casts Truncate (conversion_of Truncate head) a ≡ o → option_or o masked ≡ Some term → IsRuleOf (record { head = head; operands = a ∷ [] }) term
      of_cut None f g = masks_hold class_of kind value forth head a term (conversion_of ZeroExtend head) refl g
      of_cut (Some t) f g = casts_hold class_of kind value forth Truncate head a term (conversion_of Truncate head) refl (f ∙ g)

      of_signed : (o : Option Term) → join_casts SignExtend (conversion_of SignExtend head) a ≡ o → option_or o (option_or cut masked) ≡ Some term → IsRuleOf (record { head = head; operands = a ∷ [] }) term
      of_signed None f g = of_cut (join_casts Truncate (conversion_of Truncate head) a) refl g
      of_signed (Some t) f g = casts_hold class_of kind value forth SignExtend head a term (conversion_of SignExtend head) refl (f ∙ g)

      of_zero : (o : Option Term) → join_casts ZeroExtend (conversion_of ZeroExtend head) a ≡ o → option_or o (option_or signed (option_or cut masked)) ≡ Some term → IsRuleOf (record { head = head; operands = a ∷ [] }) term
      of_zero None f g = of_signed (join_casts SignExtend (conversion_of SignExtend head) a) refl g
      of_zero (Some t) f g = casts_hold class_of kind value forth ZeroExtend head a term (conversion_of ZeroExtend head) refl (f ∙ g)

  comparisons_hold : (head : Head) (a b : Operand) (term : Term) → rules_of_comparison (comparison_of head) a b ≡ Some term → IsRuleOf (record { head = head; operands = a ∷ b ∷ [] }) term
  comparisons_hold head a b term e = of_swapped (swap_comparison (comparison_of head) a b) refl e
    where
      narrow : Option Term
      narrow = compare_narrow ZeroExtend (comparison_of head) a b

      signed : Option Term
      signed = compare_narrow SignExtend (comparison_of head) a b

      strict : Option Term
      strict = compare_strictly (comparison_of head) a b

      summand : Option Term
      summand = compare_summand (comparison_of head) a b

      difference : Option Term
      difference = compare_difference Subtract (comparison_of head) a b

      exclusion : Option Term
      exclusion = compare_difference Xor (comparison_of head) a b

      equations : Option Term
      equations = option_or summand (option_or difference exclusion)

      of_difference : (o : Option Term) → compare_difference Subtract (comparison_of head) a b ≡ o → option_or o exclusion ≡ Some term → IsRuleOf (record { head = head; operands = a ∷ b ∷ [] }) term
      of_difference None f g = differences_compare class_of kind value forth Xor exclusions_differ head a b term (comparison_of head) refl g
      of_difference (Some t) f g = differences_compare class_of kind value forth Subtract differences_differ head a b term (comparison_of head) refl (f ∙ g)

      of_summand : (o : Option Term) → compare_summand (comparison_of head) a b ≡ o → option_or o (option_or difference exclusion) ≡ Some term → IsRuleOf (record { head = head; operands = a ∷ b ∷ [] }) term
      of_summand None f g = of_difference (compare_difference Subtract (comparison_of head) a b) refl g
      of_summand (Some t) f g = equations_hold class_of kind value forth head a b term (comparison_of head) refl (f ∙ g)

      of_strict : (o : Option Term) → compare_strictly (comparison_of head) a b ≡ o → option_or o equations ≡ Some term → IsRuleOf (record { head = head; operands = a ∷ b ∷ [] }) term
      of_strict None f g = of_summand (compare_summand (comparison_of head) a b) refl g
      of_strict (Some t) f g = strict_holds class_of kind value forth head a b term (comparison_of head) refl (f ∙ g)

      of_signed : (o : Option Term) → compare_narrow SignExtend (comparison_of head) a b ≡ o → option_or o (option_or strict equations) ≡ Some term → IsRuleOf (record { head = head; operands = a ∷ b ∷ [] }) term
      of_signed None f g = of_strict (compare_strictly (comparison_of head) a b) refl g
      of_signed (Some t) f g = compare_holds class_of kind value forth SignExtend signs_extend head a b term (comparison_of head) refl (f ∙ g)

      of_narrow : (o : Option Term) → compare_narrow ZeroExtend (comparison_of head) a b ≡ o → option_or o (option_or signed (option_or strict equations)) ≡ Some term → IsRuleOf (record { head = head; operands = a ∷ b ∷ [] }) term
      of_narrow None f g = of_signed (compare_narrow SignExtend (comparison_of head) a b) refl g
      of_narrow (Some t) f g = compare_holds class_of kind value forth ZeroExtend zeros_extend head a b term (comparison_of head) refl (f ∙ g)

      of_swapped : (o : Option Term) → swap_comparison (comparison_of head) a b ≡ o → option_or o (option_or narrow (option_or signed (option_or strict equations))) ≡ Some term → IsRuleOf (record { head = head; operands = a ∷ b ∷ [] }) term
      of_swapped None f g = of_narrow (compare_narrow ZeroExtend (comparison_of head) a b) refl g
      of_swapped (Some t) f g = swapped_comparisons_hold class_of kind value forth head a b term (comparison_of head) refl (f ∙ g)

  arithmetic_holds : (head : Head) (a b : Operand) (term : Term) → rules_of_arithmetic head a b ≡ Some term → IsRuleOf (record { head = head; operands = a ∷ b ∷ [] }) term
  arithmetic_holds head a b term e = of_difference (subtract_constant (arithmetic_of Subtract head) a b) refl e
    where
      joined : Option Term
      joined = rules_of_constants head a b

      inverted : Option Term
      inverted = invert_comparison (arithmetic_of Xor head) a b

      of_joined : (o : Option Term) → rules_of_constants head a b ≡ o → option_or o inverted ≡ Some term → IsRuleOf (record { head = head; operands = a ∷ b ∷ [] }) term
      of_joined None f g = inverses_hold class_of kind value forth head a b term (arithmetic_of Xor head) refl g
      of_joined (Some t) f g = constants_hold class_of kind value forth head a b term (f ∙ g)

      of_difference : (o : Option Term) → subtract_constant (arithmetic_of Subtract head) a b ≡ o → option_or o (option_or joined inverted) ≡ Some term → IsRuleOf (record { head = head; operands = a ∷ b ∷ [] }) term
      of_difference None f g = of_joined (rules_of_constants head a b) refl g
      of_difference (Some t) f g = differences_hold class_of kind value forth head a b term (arithmetic_of Subtract head) refl (f ∙ g)

  two_hold : (head : Head) (a b : Operand) (term : Term) → rules_of_binary head a b ≡ Some term → IsRuleOf (record { head = head; operands = a ∷ b ∷ [] }) term
  two_hold head a b term e = of_comparison (rules_of_comparison (comparison_of head) a b) refl e
    where
      swapped : Option Term
      swapped = swap_constant head a b

      arithmetic : Option Term
      arithmetic = rules_of_arithmetic head a b

      powers : Option Term
      powers = rules_of_powers head a b

      of_arithmetic : (o : Option Term) → rules_of_arithmetic head a b ≡ o → option_or o powers ≡ Some term → IsRuleOf (record { head = head; operands = a ∷ b ∷ [] }) term
      of_arithmetic None f g = powers_hold class_of kind value forth head a b term g
      of_arithmetic (Some t) f g = arithmetic_holds head a b term (f ∙ g)

      of_swapped : (o : Option Term) → swap_constant head a b ≡ o → option_or o (option_or arithmetic powers) ≡ Some term → IsRuleOf (record { head = head; operands = a ∷ b ∷ [] }) term
      of_swapped None f g = of_arithmetic (rules_of_arithmetic head a b) refl g
      of_swapped (Some t) f g = swapped_constants_hold class_of kind value forth head a b term (f ∙ g)

      of_comparison : (o : Option Term) → rules_of_comparison (comparison_of head) a b ≡ o → option_or o (option_or swapped (option_or arithmetic powers)) ≡ Some term → IsRuleOf (record { head = head; operands = a ∷ b ∷ [] }) term
      of_comparison None f g = of_swapped (swap_constant head a b) refl g
      of_comparison (Some t) f g = comparisons_hold head a b term (f ∙ g)

  pub mlir_rules_hold : RulesHold (mlir_meaning class_of kind value) (mlir_effects class_of kind value) (λ attr. true) mlir_rules
  mlir_rules_hold view term e = by_class (has_rules view.head) e
    where
      by : (head : Head) (operands : List Operand) → by_mlir_operands head operands ≡ Some term → IsRuleOf (record { head = head; operands = operands }) term
      by head [] f = absurd (not_none f)
      by head (a ∷ []) f = one_holds head a term f
      by head (a ∷ b ∷ []) f = two_hold head a b term f
      by head (a ∷ b ∷ c ∷ more) f = absurd (not_none f)

      by_class : (b : Bool) → (if b then by_mlir_operands view.head view.operands else None) ≡ Some term → IsRuleOf view term
      by_class false f = absurd (not_none f)
      by_class true f = by view.head view.operands f
