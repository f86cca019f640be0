-- Comparisons with constants, made strict.
use Rattle.std.proofs.Common.{◌≡◌, ℕ, ◌^◌, ◌<◌, true, [], ◌∷◌, Option, Some, None, refl, sym, ap, ap₂, ◌∙◌, subst}
use Rattle.pliron_core.specs.declared.attrs.Head.{Head}
use Rattle.pliron_core.proofs.HoldingLemmas.{not_none, some_is}
use Rattle.pliron_laws.specs.Datum.{Datum}
use Rattle.pliron_laws.specs.States.{Environment, prepend_optional}
use Rattle.pliron_dialect.specs.Roles.{Interpretation}
use Rattle.pliron_bits.specs.declared.operators.Predicate.{Predicate}
use Rattle.pliron_dialect_mlir.specs.declared.kind.Class.{Class}
use Rattle.pliron_dialect_mlir.specs.declared.computations.Comparison.{Comparison}
use Rattle.pliron_dialect_mlir.specs.Data.{is_width, bits_of_width, bit}
use Rattle.pliron_dialect_mlir.specs.Computations.{comparison_of}
use Rattle.pliron_rewrite_rules.specs.declared.view.Operand.{Operand}
use Rattle.pliron_rewrite_rules.specs.declared.view.View.{View}
use Rattle.pliron_rewrite_rules.specs.declared.term.Term.{Term}
use Rattle.pliron_rewrite_rules.specs.RuleLaws.{IsRule}
use Rattle.pliron_rewrite_rules.specs.Views.{Agrees, operand_value, operand_datum, result_datum, view_datum, term_datum}
use Rattle.pliron_mlir_rules.specs.ConstantComparisons.{compared_bits, compared_with, compare_with_gives, compare_with_holds}
use Rattle.pliron_mlir_rules.specs.HeadsSay.{SaysComparison, says_comparison}
use Rattle.pliron_mlir_rules.specs.IntegerActs.{comparison_result, mlir_meaning, mlir_effects, comparison_gives}
use Rattle.pliron_mlir_rules.specs.Integers.{bits_in, integer, some_bits}
use Rattle.pliron_mlir_rules.specs.MlirRules.{known_bits, strict_of, number_beside, compare_with, strict_with, strict_beside, compare_strictly}
use Rattle.pliron_mlir_rules.specs.Seen.{both_have, value_shown, value_has, known_reads, known_below}
use Rattle.pliron_mlir_rules.specs.StrictNumbers.{beside_below, beside_compares}

strict_datum : (width : ℕ) (p : Predicate) (c k : ℕ) → is_width width ≡ true → c < 2 ^ bits_of_width width → number_beside p (bits_of_width width) c ≡ Some k → (d : Datum) → compared_bits width (strict_of p) (bits_in width d) d k ≡ compared_bits width p (bits_in width d) d c
strict_datum width p c k is lt beside d = by (bits_in width d)
  where
    by : (o : Option ℕ) → compared_bits width (strict_of p) o d k ≡ compared_bits width p o d c
    by (Some a) = ap (λ b. integer 1 (bit b)) (beside_compares p (bits_of_width width) c k a (some_bits width is) lt beside)
    by None = refl

module _ {K : Type 0} (class_of : K → Class) (kind : Class → K) (value : Interpretation) (forth : (c : Class) → class_of (kind c) ≡ c) where
  abbrev IsRuleOf : View → Term → Type 0
  IsRuleOf view term = IsRule (mlir_meaning class_of kind value) (mlir_effects class_of kind value) (λ attr. true) view term

  abbrev strict_comparison : Comparison → Comparison
  strict_comparison c = record { width = c.width; predicate = strict_of c.predicate }

  holds : (head : Head) (c : Comparison) → SaysComparison head c → (a b : Operand) (n k : ℕ) → known_bits c.width b ≡ Some n → number_beside c.predicate (bits_of_width c.width) n ≡ Some k → IsRuleOf (record { head = head; operands = a ∷ b ∷ [] }) (compare_with (strict_comparison c) (operand_value a) k)
  holds head c says a b n k known beside = compare_with_holds class_of kind value forth head a b (strict_comparison c) (operand_value a) k says.is (value_shown a) (λ env r agrees e. equal env r agrees e)
    where
      lt : n < 2 ^ bits_of_width c.width
      lt = known_below c.width b n known

      equal : (env : Environment) (r : Datum) → Agrees (mlir_meaning class_of kind value) env (record { head = head; operands = a ∷ b ∷ [] }) → view_datum (mlir_meaning class_of kind value) env (record { head = head; operands = a ∷ b ∷ [] }) ≡ Some r → term_datum (mlir_meaning class_of kind value) env (compare_with (strict_comparison c) (operand_value a) k) ≡ Some r
      equal env r agrees e =
          let both = both_have (mlir_meaning class_of kind value) head (operand_datum (mlir_meaning class_of kind value) env a) (operand_datum (mlir_meaning class_of kind value) env b) r e in
          compare_with_gives class_of kind value forth env (strict_comparison c) (operand_value a) k both.0 says.is (beside_below c.predicate (bits_of_width c.width) n k beside) (value_has class_of kind value forth env a agrees.0 ∙ both.2)
          ∙ ap Some (strict_datum c.width c.predicate n k says.is lt beside both.0 ∙ sym (compared_with c.width c.predicate n says.is lt both.0))
          ∙ ap (λ y. Some (comparison_result c.width c.predicate both.0 y)) (sym (known_reads class_of kind value forth env c.width b n both.1 known both.3))
          ∙ sym (comparison_gives class_of kind value forth head c says both.0 both.1)
          ∙ ap₂ (λ p q. result_datum (mlir_meaning class_of kind value) head (prepend_optional p (prepend_optional q (Some [])))) (sym both.2) (sym both.3)
          ∙ e

  pub strict_holds : (head : Head) (a b : Operand) (term : Term) (c : Option Comparison) → comparison_of head ≡ c → compare_strictly c a b ≡ Some term → IsRuleOf (record { head = head; operands = a ∷ b ∷ [] }) term
  strict_holds head a b term None e f = absurd (not_none f)
  strict_holds head a b term (Some c) e f = of_bits (known_bits c.width b) refl f
    where
      of_beside : (n : ℕ) → known_bits c.width b ≡ Some n → (o : Option ℕ) → number_beside c.predicate (bits_of_width c.width) n ≡ o → strict_with c (operand_value a) o ≡ Some term → IsRuleOf (record { head = head; operands = a ∷ b ∷ [] }) term
      of_beside n g None h i = absurd (not_none i)
      of_beside n g (Some k) h i = subst (IsRuleOf (record { head = head; operands = a ∷ b ∷ [] })) (some_is i) (holds head c (says_comparison head c e) a b n k g h)

      of_bits : (o : Option ℕ) → known_bits c.width b ≡ o → strict_beside c (operand_value a) o ≡ Some term → IsRuleOf (record { head = head; operands = a ∷ b ∷ [] }) term
      of_bits None g h = absurd (not_none h)
      of_bits (Some n) g h = of_beside n g (number_beside c.predicate (bits_of_width c.width) n) refl h
