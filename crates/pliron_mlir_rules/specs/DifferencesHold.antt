-- Equations with differences.
use Rattle.std.proofs.Common.{◌≡◌, ℕ, ◌+◌, ◌-◌, ◌%◌, ◌^◌, ◌<◌, Bool, true, false, not, nat_eq, ◌&&◌, if◌then◌else◌, List, [], ◌∷◌, Option, Some, None, inr, refl, sym, ap, ap₂, ◌∙◌, subst, ℤ}
use Rattle.std.specs.Prelude.{bit_xor}
use Rattle.std.specs.List.{flat_map}
use Rattle.std.specs.Option.{option_map, option_or}
use Rattle.std.proofs.lemmas.Bool.Decides.{Decides-eqb}
use Rattle.std.proofs.lemmas.Nat.{mod_below, pow_pos, xor_lt}
use Rattle.pliron_core.specs.declared.attrs.Head.{Head}
use Rattle.pliron_core.specs.Tree.{In}
use Rattle.pliron_core.proofs.HoldingLemmas.{not_none, some_is}
use Rattle.pliron_core.proofs.ListLemmas.{In-left}
use Rattle.pliron_laws.specs.Datum.{Datum}
use Rattle.pliron_laws.specs.States.{Environment, prepend_optional}
use Rattle.pliron_dialect.specs.Identities.{no_identity, same_datum, is_this, given_between}
use Rattle.pliron_dialect.specs.declared.identity.Identity.{Identity}
use Rattle.pliron_dialect.specs.Roles.{Interpretation}
use Rattle.pliron_bits.specs.declared.flags.Flags.{Flags}
use Rattle.pliron_bits.specs.declared.operators.BinaryOperator.{BinaryOperator}
use Rattle.pliron_bits.specs.declared.operators.BinaryOperator.TheVariants.{Subtract, Xor}
use Rattle.pliron_bits.specs.declared.operators.Predicate.{Predicate}
use Rattle.pliron_bits.specs.declared.operators.Predicate.TheVariants.{Equal, NotEqual, SignedLess, SignedLessEqual, SignedGreater, SignedGreaterEqual, UnsignedLess, UnsignedLessEqual, UnsignedGreater, UnsignedGreaterEqual}
use Rattle.pliron_bits.specs.Arithmetic.{difference}
use Rattle.pliron_bits.specs.Operators.{binary, comparison}
use Rattle.pliron_dialect_mlir.specs.declared.kind.Class.{Class}
use Rattle.pliron_dialect_mlir.specs.declared.computations.Arithmetic.{Arithmetic}
use Rattle.pliron_dialect_mlir.specs.declared.computations.Comparison.{Comparison}
use Rattle.pliron_dialect_mlir.specs.Data.{is_width, bits_of_width, number, bit}
use Rattle.pliron_dialect_mlir.specs.IntegerIdentities.{identity_at, as_second, as_either, with_equal}
use Rattle.pliron_dialect_mlir.specs.OtherData.{first_other}
use Rattle.pliron_dialect_mlir.specs.Classes.{of_two}
use Rattle.pliron_dialect_mlir.specs.Computations.{comparison_of, arithmetic_of, head_of_comparison}
use Rattle.pliron_rewrite_rules.specs.declared.view.Leaf.{Leaf}
use Rattle.pliron_rewrite_rules.specs.declared.view.Operand.{Operand}
use Rattle.pliron_rewrite_rules.specs.declared.view.Operand.TheVariants.{Plain, Made}
use Rattle.pliron_rewrite_rules.specs.declared.view.View.{View}
use Rattle.pliron_rewrite_rules.specs.declared.term.Atom.TheVariants.{Named}
use Rattle.pliron_rewrite_rules.specs.declared.term.Term.{Term}
use Rattle.pliron_rewrite_rules.specs.declared.term.Term.TheVariants.{Make}
use Rattle.pliron_rewrite_rules.specs.RuleLaws.{IsRule}
use Rattle.pliron_rewrite_rules.specs.Views.{Agrees, leaf_value, leaf_datum, operand_values, operand_datum, result_datum, view_datum, term_datum, shown_in}
use Rattle.pliron_mlir_rules.specs.BitNumbers.{no_difference, no_exclusion}
use Rattle.pliron_mlir_rules.specs.ConstantComparisons.{compared_bits, compared_with, number_swaps}
use Rattle.pliron_mlir_rules.specs.HeadsSay.{both_so, picked, SaysComparison, says_comparison, comparison_says, SaysArithmetic, says_arithmetic}
use Rattle.pliron_mlir_rules.specs.IntegerActs.{unequal, comparison_result_if, comparison_result, mlir_meaning, mlir_effects, and_none, is_that, itself, zero_is, comparison_gives, pure_comparison}
use Rattle.pliron_mlir_rules.specs.Integers.{bits_in, integer, bits_back, below_size, first_is_other, first_is_later}
use Rattle.pliron_mlir_rules.specs.MlirRules.{known_bits, wraps_freely, swapped_of, is_equation, difference_leaves, difference_term, difference_if, compare_difference}
use Rattle.pliron_mlir_rules.specs.OperandOrders.{number_or_first, outcome, whole_datum, whole_gives}
use Rattle.pliron_mlir_rules.specs.Seen.{both_have, known_reads}
use Rattle.pliron_mlir_rules.specs.SumsHold.{not_true}
use Rattle.pliron_mlir_rules.specs.WidthMoves.{false_true}

-- ---- numbers

-- the number that an operator gives, 0 where both are equal
pub record IsNumberBetween (operator : BinaryOperator) (flags : Flags) (w a b : ℕ) : Type 0 where
  pub result : ℕ
  pub computes : binary operator flags w a b ≡ Some result
  pub fits : result < 2 ^ w
  pub same : nat_eq result 0 ≡ nat_eq a b

-- an operator that gives 0 of equal data, and leaves what stands beside 0
pub record IsDifference (operator : BinaryOperator) : Type 0 where
  pub either_side : Bool
  pub identity : (flags : Flags) (width : ℕ) → is_width width ≡ true → identity_at operator flags width ≡ with_equal (record no_identity { neutral = Some (number width 0); either_side = either_side }) (Some (number width 0))
  pub between : (flags : Flags) (w a b : ℕ) → wraps_freely flags ≡ true → a < 2 ^ w → b < 2 ^ w → IsNumberBetween operator flags w a b

pub differences_differ : IsDifference Subtract
differences_differ = record {
  either_side = false;
  identity = λ flags width is. ap (λ z. with_equal (as_second z) z) (zero_is width is);
  between = λ flags w a b free p q. record {
    result = (a + (2 ^ w - b)) % 2 ^ w;
    computes = free_difference flags w a b free;
    fits = mod_below (a + (2 ^ w - b)) (2 ^ w) (pow_pos w);
    same = no_difference (2 ^ w) a b p q;
  };
}
  where
    free_difference : (flags : Flags) (w a b : ℕ) → wraps_freely flags ≡ true → difference flags w a b ≡ Some ((a + (2 ^ w - b)) % 2 ^ w)
    free_difference flags w a b free =
        let both = both_so (not flags.no_signed_wrap) (not flags.no_unsigned_wrap) free in
        ap₂ (λ x y. difference (record flags { no_signed_wrap = x; no_unsigned_wrap = y }) w a b) (not_true flags.no_signed_wrap both.0) (not_true flags.no_unsigned_wrap both.1)

pub exclusions_differ : IsDifference Xor
exclusions_differ = record {
  either_side = true;
  identity = λ flags width is. ap (λ z. with_equal (as_either z false) z) (zero_is width is);
  between = λ flags w a b free p q. record {
    result = bit_xor a b;
    computes = refl;
    fits = xor_lt w a b p q;
    same = no_exclusion a b;
  };
}

-- an equation is one of the same truth, and one in both orders
equation_keeps : (p : Predicate) → is_equation p ≡ true → (w a b c d : ℕ) → nat_eq a b ≡ nat_eq c d → comparison p w a b ≡ comparison p w c d
equation_keeps Equal is w a b c d e = e
equation_keeps NotEqual is w a b c d e = ap not e
equation_keeps SignedLess is w a b c d e = false_true false refl is
equation_keeps SignedLessEqual is w a b c d e = false_true false refl is
equation_keeps SignedGreater is w a b c d e = false_true false refl is
equation_keeps SignedGreaterEqual is w a b c d e = false_true false refl is
equation_keeps UnsignedLess is w a b c d e = false_true false refl is
equation_keeps UnsignedLessEqual is w a b c d e = false_true false refl is
equation_keeps UnsignedGreater is w a b c d e = false_true false refl is
equation_keeps UnsignedGreaterEqual is w a b c d e = false_true false refl is

equation_turns : (p : Predicate) → is_equation p ≡ true → swapped_of p ≡ p
equation_turns Equal is = refl
equation_turns NotEqual is = refl
equation_turns SignedLess is = false_true false refl is
equation_turns SignedLessEqual is = false_true false refl is
equation_turns SignedGreater is = false_true false refl is
equation_turns SignedGreaterEqual is = false_true false refl is
equation_turns UnsignedLess is = false_true false refl is
equation_turns UnsignedLessEqual is = false_true false refl is
equation_turns UnsignedGreater is = false_true false refl is
equation_turns UnsignedGreaterEqual is = false_true false refl is

-- ---- data

module _ (operator : BinaryOperator) (differs : IsDifference operator) (flags : Flags) (width : ℕ) (p : Predicate) (is : is_width width ≡ true) (free : wraps_freely flags ≡ true) (equation : is_equation p ≡ true) (d e : Datum) where
  abbrev computed : Option ℕ → Option ℕ → Option ℤ
  computed m n = option_map (number width) (of_two (binary operator flags (bits_of_width width)) m n)

  abbrev by_identity : Identity → Datum
  by_identity i =
      outcome (is_this i.neutral e) (i.either_side && is_this i.neutral d) (i.idempotent && same_datum d e) (option_or (given_between i d e) (computed (bits_in width d) (bits_in width e))) width d e

  abbrev parts : (behind before first same agrees : Bool) → Datum
  parts behind before first same agrees =
      outcome behind before false (option_or (if first then None else if same then (if agrees && true then Some (number width 0) else None) else None) (computed (bits_in width d) (bits_in width e))) width d e

  zero_fits : 0 < 2 ^ bits_of_width width
  zero_fits = pow_pos (bits_of_width width)

  -- of two numbers, and of the first datum that is none
  other : (m : Option ℕ) → bits_in width d ≡ m → (n : Option ℕ) → bits_in width e ≡ n →
      compared_bits width p (bits_in width (number_or_first (computed m n) width d e)) (number_or_first (computed m n) width d e) 0 ≡ unequal width p m n d e
  other (Some a) f (Some b) g = of (differs.between flags (bits_of_width width) a b free (below_size width d a f) (below_size width e b g))
    where
      of : IsNumberBetween operator flags (bits_of_width width) a b →
          compared_bits width p (bits_in width (number_or_first (computed (Some a) (Some b)) width d e)) (number_or_first (computed (Some a) (Some b)) width d e) 0 ≡ integer 1 (bit (comparison p (bits_of_width width) a b))
      of between =
          ap (λ o. compared_bits width p (bits_in width (number_or_first (option_map (number width) o) width d e)) (number_or_first (option_map (number width) o) width d e) 0) between.computes
          ∙ ap (λ o. compared_bits width p o (integer width between.result) 0) (bits_back width between.result is between.fits)
          ∙ ap (λ b. integer 1 (bit b)) (equation_keeps p equation (bits_of_width width) between.result 0 a b between.same)
  other (Some a) f None g =
      ap (λ o. compared_bits width p o (first_other width (d ∷ e ∷ [])) 0) (ap (bits_in width) (first_is_later width d (e ∷ []) a f ∙ first_is_other width e [] g) ∙ g)
  other None f (Some b) g = ap (λ o. compared_bits width p o (first_other width (d ∷ e ∷ [])) 0) (ap (bits_in width) (first_is_other width d (e ∷ []) f) ∙ f)
  other None f None g = ap (λ o. compared_bits width p o (first_other width (d ∷ e ∷ [])) 0) (ap (bits_in width) (first_is_other width d (e ∷ []) f) ∙ f)

  pub difference_datum : comparison_result width p (whole_datum operator flags width d e) (integer width 0) ≡ comparison_result width p d e
  difference_datum =
      ap (λ i. comparison_result width p (by_identity i) (integer width 0)) (differs.identity flags width is)
      ∙ ap₂ (λ f x. comparison_result width p (parts (is_this (Some (number width 0)) e) (differs.either_side && is_this (Some (number width 0)) d) f (same_datum d e) x) (integer width 0)) (and_none differs.either_side) (itself (number width 0))
      ∙ by (is_this (Some (number width 0)) e) refl (differs.either_side && is_this (Some (number width 0)) d) refl (same_datum d e) refl
    where
      by : (behind : Bool) → is_this (Some (number width 0)) e ≡ behind → (before : Bool) → differs.either_side && is_this (Some (number width 0)) d ≡ before → (same : Bool) → same_datum d e ≡ same → comparison_result width p (parts behind before false same true) (integer width 0) ≡ comparison_result width p d e
      by true f before g same h = ap (comparison_result width p d) (sym (is_that (number width 0) e f))
      by false f true g same h =
          let zero : d ≡ integer width 0 = is_that (number width 0) d (both_so differs.either_side (is_this (Some (number width 0)) d) g).1 in
          ap (λ q. comparison_result width q e (integer width 0)) (sym (equation_turns p equation))
          ∙ sym (number_swaps width p 0 is zero_fits e)
          ∙ ap (λ x. comparison_result width p x e) (sym zero)
      by false f false g true h =
          ap (λ s. comparison_result_if s width p (integer width 0) (integer width 0)) (itself (number width 0))
          ∙ ap (λ s. comparison_result_if s width p d e) (sym h)
      by false f false g false h =
          compared_with width p 0 is zero_fits (number_or_first (computed (bits_in width d) (bits_in width e)) width d e)
          ∙ other (bits_in width d) refl (bits_in width e) refl
          ∙ ap (λ s. comparison_result_if s width p d e) (sym h)

module _ {K : Type 0} (class_of : K → Class) (kind : Class → K) (value : Interpretation) (forth : (c : Class) → class_of (kind c) ≡ c) where
  abbrev IsRuleOf : View → Term → Type 0
  IsRuleOf view term = IsRule (mlir_meaning class_of kind value) (mlir_effects class_of kind value) (λ attr. true) view term

  module _ (operator : BinaryOperator) (differs : IsDifference operator) (head : Head) (c : Comparison) (says : SaysComparison head c) (equation : is_equation c.predicate ≡ true) (v : ℕ) (inner : Head) (s : Arithmetic) (computes : SaysArithmetic operator inner s) (same : s.width ≡ c.width) (free : wraps_freely s.flags ≡ true) (x y : Leaf) (b : Operand) (known : known_bits c.width b ≡ Some 0) where
    abbrev view : View
    view = record { head = head; operands = Made v inner (x ∷ y ∷ []) ∷ b ∷ [] }

    abbrev compared : Term
    compared = Make (head_of_comparison c) (Named (leaf_value x) ∷ Named (leaf_value y) ∷ [])

    shown : (u : ℕ) → In u (leaf_value x ∷ leaf_value y ∷ []) → In u (shown_in view)
    shown u i = In-left u (v ∷ leaf_value x ∷ leaf_value y ∷ []) (flat_map operand_values (b ∷ [])) (inr i)

    equal : (env : Environment) (r : Datum) → Agrees (mlir_meaning class_of kind value) env view → view_datum (mlir_meaning class_of kind value) env view ≡ Some r → term_datum (mlir_meaning class_of kind value) env compared ≡ Some r
    equal env r agrees e =
        let both = both_have (mlir_meaning class_of kind value) head (operand_datum (mlir_meaning class_of kind value) env (Made v inner (x ∷ y ∷ []))) (operand_datum (mlir_meaning class_of kind value) env b) r e in
        let within = both_have (mlir_meaning class_of kind value) inner (leaf_datum env x) (leaf_datum env y) both.0 both.2 in
        let result : both.0 ≡ whole_datum operator s.flags c.width within.0 within.1 =
        some_is (sym both.2 ∙ ap₂ (λ p q. result_datum (mlir_meaning class_of kind value) inner (prepend_optional p (prepend_optional q (Some [])))) within.2 within.3
        ∙ whole_gives class_of kind value forth operator inner s computes within.0 within.1
        ∙ ap (λ w. Some (whole_datum operator s.flags w within.0 within.1)) same) in
        ap₂ (λ p q. result_datum (mlir_meaning class_of kind value) (head_of_comparison c) (prepend_optional p (prepend_optional q (Some [])))) (agrees.0.1.0 ∙ within.2) (agrees.0.1.1.0 ∙ within.3)
        ∙ comparison_gives class_of kind value forth (head_of_comparison c) c (comparison_says c says.is) within.0 within.1
        ∙ ap Some (sym (difference_datum operator differs s.flags c.width c.predicate says.is free equation within.0 within.1))
        ∙ ap (λ d. Some (comparison_result c.width c.predicate d (integer c.width 0))) (sym result)
        ∙ ap (λ z. Some (comparison_result c.width c.predicate both.0 z)) (sym (known_reads class_of kind value forth env c.width b 0 both.1 known both.3))
        ∙ sym (comparison_gives class_of kind value forth head c says both.0 both.1)
        ∙ ap₂ (λ p q. result_datum (mlir_meaning class_of kind value) head (prepend_optional p (prepend_optional q (Some [])))) (sym both.2) (sym both.3)
        ∙ e

    holds : IsRuleOf view compared
    holds = record {
      buildable = (pure_comparison class_of kind value forth (head_of_comparison c) (comparison_says c says.is).class, (tt, (tt, tt)));
      shown = λ u i. shown u i;
      equal = λ env r agrees e. equal env r agrees e;
    }

  -- ---- the rule

  difference_holds : (operator : BinaryOperator) → IsDifference operator → (head : Head) (c : Comparison) → SaysComparison head c → is_equation c.predicate ≡ true → (a b : Operand) → known_bits c.width b ≡ Some 0 → (term : Term) → difference_term operator c a ≡ Some term → IsRuleOf (record { head = head; operands = a ∷ b ∷ [] }) term
  difference_holds operator differs head c says equation (Plain leaf) b known term e = absurd (not_none e)
  difference_holds operator differs head c says equation (Made v inner leaves) b known term e = of_leaves (arithmetic_of operator inner) refl leaves e
    where
      of_leaves : (o : Option Arithmetic) → arithmetic_of operator inner ≡ o → (ls : List Leaf) → difference_leaves c o ls ≡ Some term → IsRuleOf (record { head = head; operands = Made v inner ls ∷ b ∷ [] }) term
      of_leaves None f ls g = absurd (none_left ls g)
        where
          none_left : (ls : List Leaf) → difference_leaves c None ls ≡ Some term → ⊥
          none_left ls h = not_none h
      of_leaves (Some s) f [] g = absurd (not_none g)
      of_leaves (Some s) f (x ∷ []) g = absurd (not_none g)
      of_leaves (Some s) f (x ∷ y ∷ []) g =
          let both = picked (nat_eq s.width c.width && wraps_freely s.flags) (Make (head_of_comparison c) (Named (leaf_value x) ∷ Named (leaf_value y) ∷ [])) term g in
          let parts = both_so (nat_eq s.width c.width) (wraps_freely s.flags) both.0 in
          subst (IsRuleOf (record { head = head; operands = Made v inner (x ∷ y ∷ []) ∷ b ∷ [] })) both.1
          (holds operator differs head c says equation v inner s (says_arithmetic operator inner s f) ((Decides-eqb s.width c.width).0 parts.0) parts.1 x y b known)
      of_leaves (Some s) f (x ∷ y ∷ z ∷ more) g = absurd (not_none g)

  pub differences_compare : (operator : BinaryOperator) → IsDifference operator → (head : Head) (a b : Operand) (term : Term) (c : Option Comparison) → comparison_of head ≡ c → compare_difference operator c a b ≡ Some term → IsRuleOf (record { head = head; operands = a ∷ b ∷ [] }) term
  differences_compare operator differs head a b term None e f = absurd (not_none f)
  differences_compare operator differs head a b term (Some c) e f = of_equation (is_equation c.predicate) refl f
    where
      of_zero : is_equation c.predicate ≡ true → (k : ℕ) → known_bits c.width b ≡ Some k → (x : Bool) → nat_eq k 0 ≡ x → (if x then difference_term operator c a else None) ≡ Some term → IsRuleOf (record { head = head; operands = a ∷ b ∷ [] }) term
      of_zero equation k g false h i = absurd (not_none i)
      of_zero equation k g true h i = difference_holds operator differs head c (says_comparison head c e) equation a b (g ∙ ap Some ((Decides-eqb k 0).0 h)) term i

      of_bits : is_equation c.predicate ≡ true → (o : Option ℕ) → known_bits c.width b ≡ o → difference_if operator c o a ≡ Some term → IsRuleOf (record { head = head; operands = a ∷ b ∷ [] }) term
      of_bits equation None g h = absurd (not_none h)
      of_bits equation (Some k) g h = of_zero equation k g (nat_eq k 0) refl h

      of_equation : (x : Bool) → is_equation c.predicate ≡ x → (if x then difference_if operator c (known_bits c.width b) a else None) ≡ Some term → IsRuleOf (record { head = head; operands = a ∷ b ∷ [] }) term
      of_equation false g h = absurd (not_none h)
      of_equation true g h = of_bits g (known_bits c.width b) refl h
