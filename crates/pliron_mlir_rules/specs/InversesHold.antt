-- Inverted comparisons.
use Rattle.std.proofs.Common.{◌≡◌, ℕ, ◌^◌, ◌<◌, Bool, true, false, not, nat_eq, nat_lt, nat_le, List, [], ◌∷◌, Option, Some, None, if◌then◌else◌, inl, inr, refl, sym, ap, ap₂, ◌∙◌, subst, arith, tests}
use Rattle.std.specs.List.{flat_map}
use Rattle.std.proofs.lemmas.Bool.Decides.{Decides-eqb}
use Rattle.pliron_core.specs.declared.attrs.Head.{Head}
use Rattle.pliron_core.specs.Tree.{In}
use Rattle.pliron_core.proofs.HoldingLemmas.{not_none, some_is}
use Rattle.pliron_core.proofs.ListLemmas.{In-left}
use Rattle.pliron_laws.specs.Datum.{Datum, Number}
use Rattle.pliron_laws.specs.States.{Environment, prepend_optional}
use Rattle.pliron_dialect.specs.Identities.{same_datum}
use Rattle.pliron_dialect.specs.Roles.{Interpretation}
use Rattle.pliron_bits.specs.declared.flags.Flags.{Flags}
use Rattle.pliron_bits.specs.declared.operators.BinaryOperator.TheVariants.{Xor}
use Rattle.pliron_bits.specs.declared.operators.Predicate.{Predicate}
use Rattle.pliron_bits.specs.declared.operators.Predicate.TheVariants.{Equal, NotEqual, SignedLess, SignedLessEqual, SignedGreater, SignedGreaterEqual, UnsignedLess, UnsignedLessEqual, UnsignedGreater, UnsignedGreaterEqual}
use Rattle.pliron_bits.specs.Arithmetic.{signed_less}
use Rattle.pliron_bits.specs.Operators.{comparison}
use Rattle.pliron_dialect_mlir.specs.declared.kind.Class.{Class}
use Rattle.pliron_dialect_mlir.specs.declared.computations.Arithmetic.{Arithmetic}
use Rattle.pliron_dialect_mlir.specs.declared.computations.Comparison.{Comparison}
use Rattle.pliron_dialect_mlir.specs.Data.{bits_of_width, bit}
use Rattle.pliron_dialect_mlir.specs.IntegerIdentities.{holds_of_equal, truth_of_equal}
use Rattle.pliron_dialect_mlir.specs.OtherData.{first_other, passed_on}
use Rattle.pliron_dialect_mlir.specs.Computations.{comparison_of, arithmetic_of, head_of_comparison}
use Rattle.pliron_rewrite_rules.specs.declared.view.Leaf.{Leaf}
use Rattle.pliron_rewrite_rules.specs.declared.view.Operand.{Operand}
use Rattle.pliron_rewrite_rules.specs.declared.view.Operand.TheVariants.{Plain, Made}
use Rattle.pliron_rewrite_rules.specs.declared.view.View.{View}
use Rattle.pliron_rewrite_rules.specs.declared.term.Atom.TheVariants.{Named}
use Rattle.pliron_rewrite_rules.specs.declared.term.Term.{Term}
use Rattle.pliron_rewrite_rules.specs.declared.term.Term.TheVariants.{Make}
use Rattle.pliron_rewrite_rules.specs.RuleLaws.{IsRule}
use Rattle.pliron_rewrite_rules.specs.Views.{Agrees, leaf_value, leaf_datum, operand_values, operand_datum, result_datum, view_datum, term_datum, shown_in}
use Rattle.pliron_mlir_rules.specs.HeadsSay.{SaysComparison, says_comparison, comparison_says, SaysArithmetic, says_arithmetic}
use Rattle.pliron_mlir_rules.specs.IntegerActs.{unequal, comparison_result_if, comparison_result, computed_datum, constant_result, mlir_meaning, mlir_effects, comparison_gives, exclusion_gives, pure_comparison}
use Rattle.pliron_mlir_rules.specs.Integers.{bits_in, integer, passed_is_other, first_is_other, first_is_later}
use Rattle.pliron_mlir_rules.specs.MlirRules.{known_bits, inverse_of, inverse_leaves, inverse_term, inverse_if, invert_comparison}
use Rattle.pliron_mlir_rules.specs.Seen.{both_have, known_reads}

-- ---- numbers

not_not : (b : Bool) → b ≡ not (not b)
not_not true = refl
not_not false = refl

unless_less : (a b : ℕ) → nat_le b a ≡ not (nat_lt a b)
unless_less a b = grind (arith, tests)

unless_at_most : (a b : ℕ) → nat_lt b a ≡ not (nat_le a b)
unless_at_most a b = grind (arith, tests)

inverse_compares : (p : Predicate) (w a b : ℕ) → comparison (inverse_of p) w a b ≡ not (comparison p w a b)
inverse_compares Equal w a b = refl
inverse_compares NotEqual w a b = not_not (nat_eq a b)
inverse_compares SignedLess w a b = refl
inverse_compares SignedLessEqual w a b = not_not (signed_less w b a)
inverse_compares SignedGreater w a b = refl
inverse_compares SignedGreaterEqual w a b = not_not (signed_less w a b)
inverse_compares UnsignedLess w a b = unless_less a b
inverse_compares UnsignedLessEqual w a b = unless_at_most a b
inverse_compares UnsignedGreater w a b = unless_less b a
inverse_compares UnsignedGreaterEqual w a b = unless_at_most b a

inverse_of_equal : (p : Predicate) → holds_of_equal (inverse_of p) ≡ not (holds_of_equal p)
inverse_of_equal Equal = refl
inverse_of_equal NotEqual = refl
inverse_of_equal SignedLess = refl
inverse_of_equal SignedLessEqual = refl
inverse_of_equal SignedGreater = refl
inverse_of_equal SignedGreaterEqual = refl
inverse_of_equal UnsignedLess = refl
inverse_of_equal UnsignedLessEqual = refl
inverse_of_equal UnsignedGreater = refl
inverse_of_equal UnsignedGreaterEqual = refl

-- ---- data

truth_excluded : (flags : Flags) (b : Bool) → constant_result Xor flags 1 (integer 1 (bit b)) 1 ≡ integer 1 (bit (not b))
truth_excluded flags true = refl
truth_excluded flags false = refl

inverse_datum : (flags : Flags) (width : ℕ) (p : Predicate) (d e : Datum) → comparison_result width (inverse_of p) d e ≡ constant_result Xor flags 1 (comparison_result width p d e) 1
inverse_datum flags width p d e = by (same_datum d e)
  where
    passes : (o : Datum) → bits_in width o ≡ None → passed_on width 1 o ≡ constant_result Xor flags 1 (passed_on width 1 o) 1
    passes o none = sym (ap (λ x. computed_datum Xor flags 1 x (passed_on width 1 o) 1) (passed_is_other width 1 o none))

    other : (m n : Option ℕ) → bits_in width d ≡ m → bits_in width e ≡ n → unequal width (inverse_of p) m n d e ≡ constant_result Xor flags 1 (unequal width p m n d e) 1
    other (Some a) (Some b) f g =
        ap (λ x. integer 1 (bit x)) (inverse_compares p (bits_of_width width) a b)
        ∙ sym (truth_excluded flags (comparison p (bits_of_width width) a b))
    other (Some a) None f g = passes (first_other width (d ∷ e ∷ [])) (ap (bits_in width) (first_is_later width d (e ∷ []) a f ∙ first_is_other width e [] g) ∙ g)
    other None n f g = passes (first_other width (d ∷ e ∷ [])) (ap (bits_in width) (first_is_other width d (e ∷ []) f) ∙ f)

    by : (same : Bool) → comparison_result_if same width (inverse_of p) d e ≡ constant_result Xor flags 1 (comparison_result_if same width p d e) 1
    by true = ap (λ x. integer 1 (bit x)) (inverse_of_equal p) ∙ sym (truth_excluded flags (holds_of_equal p))
    by false = other (bits_in width d) (bits_in width e) refl refl

module _ {K : Type 0} (class_of : K → Class) (kind : Class → K) (value : Interpretation) (forth : (c : Class) → class_of (kind c) ≡ c) where
  abbrev IsRuleOf : View → Term → Type 0
  IsRuleOf view term = IsRule (mlir_meaning class_of kind value) (mlir_effects class_of kind value) (λ attr. true) view term

  module _ (head : Head) (s : Arithmetic) (says : SaysArithmetic Xor head s) (single : s.width ≡ 1) (v : ℕ) (inner : Head) (x y : Leaf) (b : Operand) (known : known_bits 1 b ≡ Some 1) (c : Comparison) (compares : SaysComparison inner c) where
    abbrev view : View
    view = record { head = head; operands = Made v inner (x ∷ y ∷ []) ∷ b ∷ [] }

    abbrev inverse : Comparison
    inverse = record { width = c.width; predicate = inverse_of c.predicate }

    abbrev inverted : Term
    inverted = Make (head_of_comparison inverse) (Named (leaf_value x) ∷ Named (leaf_value y) ∷ [])

    shown : (u : ℕ) → In u (leaf_value x ∷ leaf_value y ∷ []) → In u (shown_in view)
    shown u i = In-left u (v ∷ leaf_value x ∷ leaf_value y ∷ []) (flat_map operand_values (b ∷ [])) (inr i)

    excluded : (d : Datum) → result_datum (mlir_meaning class_of kind value) head (Some (d ∷ integer 1 1 ∷ [])) ≡ Some (constant_result Xor s.flags 1 d 1)
    excluded d =
        ap (λ w. result_datum (mlir_meaning class_of kind value) head (Some (d ∷ integer w 1 ∷ []))) (sym single)
        ∙ exclusion_gives class_of kind value forth head s says d 1 one_more (subst (λ w. 1 < 2 ^ bits_of_width w) (sym single) two)
        ∙ ap (λ w. Some (constant_result Xor s.flags w d 1)) single
      where
        one_more : 0 < 1
        one_more = omega arith

        two : 1 < 2 ^ 1
        two = omega arith

    equal : (env : Environment) (r : Datum) → Agrees (mlir_meaning class_of kind value) env view → view_datum (mlir_meaning class_of kind value) env view ≡ Some r → term_datum (mlir_meaning class_of kind value) env inverted ≡ Some r
    equal env r agrees e =
        let both = both_have (mlir_meaning class_of kind value) head (operand_datum (mlir_meaning class_of kind value) env (Made v inner (x ∷ y ∷ []))) (operand_datum (mlir_meaning class_of kind value) env b) r e in
        let within = both_have (mlir_meaning class_of kind value) inner (leaf_datum env x) (leaf_datum env y) both.0 both.2 in
        let result : both.0 ≡ comparison_result c.width c.predicate within.0 within.1 =
        some_is (sym both.2 ∙ ap₂ (λ p q. result_datum (mlir_meaning class_of kind value) inner (prepend_optional p (prepend_optional q (Some [])))) within.2 within.3 ∙ comparison_gives class_of kind value forth inner c compares within.0 within.1) in
        ap₂ (λ p q. result_datum (mlir_meaning class_of kind value) (head_of_comparison inverse) (prepend_optional p (prepend_optional q (Some [])))) (agrees.0.1.0 ∙ within.2) (agrees.0.1.1.0 ∙ within.3)
        ∙ comparison_gives class_of kind value forth (head_of_comparison inverse) inverse (comparison_says inverse compares.is) within.0 within.1
        ∙ ap Some (inverse_datum s.flags c.width c.predicate within.0 within.1)
        ∙ ap (λ d. Some (constant_result Xor s.flags 1 d 1)) (sym result)
        ∙ sym (excluded both.0)
        ∙ ap₂ (λ p q. result_datum (mlir_meaning class_of kind value) head (prepend_optional p (prepend_optional q (Some [])))) (sym both.2) (ap Some (sym (known_reads class_of kind value forth env 1 b 1 both.1 known both.3)) ∙ sym both.3)
        ∙ e

    holds : IsRuleOf view inverted
    holds = record {
      buildable = (pure_comparison class_of kind value forth (head_of_comparison inverse) (comparison_says inverse compares.is).class, (tt, (tt, tt)));
      shown = λ u i. shown u i;
      equal = λ env r agrees e. equal env r agrees e;
    }

  -- ---- the rule

  inverse_holds : (head : Head) (s : Arithmetic) → SaysArithmetic Xor head s → s.width ≡ 1 → (a b : Operand) → known_bits 1 b ≡ Some 1 → (term : Term) → inverse_term a ≡ Some term → IsRuleOf (record { head = head; operands = a ∷ b ∷ [] }) term
  inverse_holds head s says single (Plain leaf) b known term e = absurd (not_none e)
  inverse_holds head s says single (Made v inner leaves) b known term e = of_leaves (comparison_of inner) refl leaves e
    where
      of_leaves : (o : Option Comparison) → comparison_of inner ≡ o → (ls : List Leaf) → inverse_leaves o ls ≡ Some term → IsRuleOf (record { head = head; operands = Made v inner ls ∷ b ∷ [] }) term
      of_leaves None f ls g = absurd (not_none g)
      of_leaves (Some c) f [] g = absurd (not_none g)
      of_leaves (Some c) f (x ∷ []) g = absurd (not_none g)
      of_leaves (Some c) f (x ∷ y ∷ []) g = subst (IsRuleOf (record { head = head; operands = Made v inner (x ∷ y ∷ []) ∷ b ∷ [] })) (some_is g) (holds head s says single v inner x y b known c (says_comparison inner c f))
      of_leaves (Some c) f (x ∷ y ∷ z ∷ more) g = absurd (not_none g)

  pub inverses_hold : (head : Head) (a b : Operand) (term : Term) (s : Option Arithmetic) → arithmetic_of Xor head ≡ s → invert_comparison s a b ≡ Some term → IsRuleOf (record { head = head; operands = a ∷ b ∷ [] }) term
  inverses_hold head a b term None e f = absurd (not_none f)
  inverses_hold head a b term (Some s) e f = of_width (nat_eq s.width 1) refl f
    where
      of_one : s.width ≡ 1 → (k : ℕ) → known_bits 1 b ≡ Some k → (x : Bool) → nat_eq k 1 ≡ x → (if x then inverse_term a else None) ≡ Some term → IsRuleOf (record { head = head; operands = a ∷ b ∷ [] }) term
      of_one single k g false h i = absurd (not_none i)
      of_one single k g true h i = inverse_holds head s (says_arithmetic Xor head s e) single a b (g ∙ ap Some ((Decides-eqb k 1).0 h)) term i

      of_bits : s.width ≡ 1 → (o : Option ℕ) → known_bits 1 b ≡ o → inverse_if o a ≡ Some term → IsRuleOf (record { head = head; operands = a ∷ b ∷ [] }) term
      of_bits single None g h = absurd (not_none h)
      of_bits single (Some k) g h = of_one single k g (nat_eq k 1) refl h

      of_width : (x : Bool) → nat_eq s.width 1 ≡ x → (if x then inverse_if (known_bits 1 b) a else None) ≡ Some term → IsRuleOf (record { head = head; operands = a ∷ b ∷ [] }) term
      of_width false g h = absurd (not_none h)
      of_width true g h = of_bits ((Decides-eqb s.width 1).0 g) (known_bits 1 b) refl h
