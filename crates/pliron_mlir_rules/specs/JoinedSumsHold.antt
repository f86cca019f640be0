-- Sums with two constants, as sums with one.
use Rattle.std.proofs.Common.{◌≡◌, ℕ, ◌^◌, ◌<◌, true, [], ◌∷◌, Option, Some, None, inl, inr, refl, sym, ap, ap₂, ◌∙◌, subst}
use Rattle.pliron_core.specs.declared.attrs.Head.{Head}
use Rattle.pliron_core.specs.Tree.{In}
use Rattle.pliron_core.proofs.HoldingLemmas.{not_none, some_is}
use Rattle.pliron_laws.specs.Datum.{Datum}
use Rattle.pliron_laws.specs.States.{Environment, prepend_optional}
use Rattle.pliron_dialect.specs.Roles.{Interpretation}
use Rattle.pliron_bits.specs.declared.flags.Flags.{Flags}
use Rattle.pliron_bits.specs.declared.operators.BinaryOperator.TheVariants.{Add}
use Rattle.pliron_bits.specs.Arithmetic.{sum}
use Rattle.pliron_dialect_mlir.specs.declared.kind.Class.{Class}
use Rattle.pliron_dialect_mlir.specs.declared.computations.Arithmetic.{Arithmetic}
use Rattle.pliron_dialect_mlir.specs.Data.{is_width, bits_of_width}
use Rattle.pliron_dialect_mlir.specs.Computations.{arithmetic_of, head_of_arithmetic}
use Rattle.pliron_dialect_mlir.specs.OtherData.{poison}
use Rattle.pliron_rewrite_rules.specs.declared.view.Operand.{Operand}
use Rattle.pliron_rewrite_rules.specs.declared.view.View.{View}
use Rattle.pliron_rewrite_rules.specs.declared.term.Term.{Term}
use Rattle.pliron_rewrite_rules.specs.RuleLaws.{IsRule}
use Rattle.pliron_rewrite_rules.specs.Views.{Agrees, operand_values, operand_datum, result_datum, view_datum, term_datum}
use Rattle.pliron_mlir_rules.specs.declared.seen.ConstantOperation.{ConstantOperation}
use Rattle.pliron_mlir_rules.specs.ConstantArithmetic.{arithmetic_with_holds}
use Rattle.pliron_mlir_rules.specs.ConstantsSeen.{SaysConstant, says_constant, inner_gives}
use Rattle.pliron_mlir_rules.specs.FlaggedSums.{JoinsSums, sums_join_alike, sum_below, joined_below, alike_sums}
use Rattle.pliron_mlir_rules.specs.HeadsSay.{SaysArithmetic, says_arithmetic, arithmetic_says}
use Rattle.pliron_mlir_rules.specs.IntegerActs.{number_or_poison, computed_datum, constant_result, mlir_meaning, mlir_effects, sum_gives}
use Rattle.pliron_mlir_rules.specs.Integers.{bits_in, integer, bits_back, below_size, some_bits, no_zero}
use Rattle.pliron_mlir_rules.specs.MlirRules.{known_bits, promise_alike, operation_alike, arithmetic_with, joined_sum, wraps_of, sum_of_joined, joined_sums, join_sums}
use Rattle.pliron_mlir_rules.specs.Seen.{both_have, leaf_below, known_reads, known_below}

-- ---- data

joined_datum : (outer inner : Flags) (width c k n : ℕ) → is_width width ≡ true → promise_alike outer inner ≡ true → c < 2 ^ bits_of_width width → k < 2 ^ bits_of_width width → joined_sum outer (bits_of_width width) c k ≡ Some n → (d : Datum) →
    constant_result Add outer width (constant_result Add inner width d c) k ≡ constant_result Add (wraps_of outer) width d n
joined_datum outer inner width c k n is alike p q e d = by (bits_in width d) refl
  where
    of_sum : (a : ℕ) → JoinsSums outer (bits_of_width width) a c k n → (o : Option ℕ) → sum outer (bits_of_width width) a c ≡ o → constant_result Add outer width (number_or_poison width o) k ≡ number_or_poison width (sum outer (bits_of_width width) a n)
    of_sum a joins None g = ap (λ o. computed_datum Add outer width o poison k) (no_zero width) ∙ ap (number_or_poison width) (sym (joins.none g))
    of_sum a joins (Some m) g =
        ap (λ o. computed_datum Add outer width o (integer width m) k) (bits_back width m is (sum_below outer (bits_of_width width) a c m g))
        ∙ ap (number_or_poison width) (joins.some m g)

    by : (o : Option ℕ) → bits_in width d ≡ o → constant_result Add outer width (computed_datum Add inner width o d c) k ≡ computed_datum Add (wraps_of outer) width o d n
    by None f = ap (λ o. computed_datum Add outer width o d k) f
    by (Some a) f =
        ap (λ o. constant_result Add outer width (number_or_poison width o) k) (alike_sums outer inner alike (bits_of_width width) a c)
        ∙ of_sum a (sums_join_alike outer (bits_of_width width) a c k n (some_bits width is) (below_size width d a f) p q e) (sum outer (bits_of_width width) a c) refl

module _ {K : Type 0} (class_of : K → Class) (kind : Class → K) (value : Interpretation) (forth : (c : Class) → class_of (kind c) ≡ c) where
  abbrev IsRuleOf : View → Term → Type 0
  IsRuleOf view term = IsRule (mlir_meaning class_of kind value) (mlir_effects class_of kind value) (λ attr. true) view term

  module _ (head : Head) (s : Arithmetic) (says : SaysArithmetic Add head s) (a b : Operand) (t : ConstantOperation) (u : SaysConstant Add s.flags s.width a t) (k n : ℕ) (known : known_bits s.width b ≡ Some k) (joined : joined_sum s.flags (bits_of_width s.width) t.constant k ≡ Some n) where
    abbrev whole : Arithmetic
    whole = record { width = s.width; flags = wraps_of s.flags }

    first_fits : t.constant < 2 ^ bits_of_width s.width
    first_fits = leaf_below s.width u.c t.constant u.reads

    second_fits : k < 2 ^ bits_of_width s.width
    second_fits = known_below s.width b k known

    inner : (h : Head) (i : Arithmetic) → SaysArithmetic Add h i → i.width ≡ s.width → (d : Datum) → result_datum (mlir_meaning class_of kind value) h (Some (d ∷ integer s.width t.constant ∷ [])) ≡ Some (constant_result Add i.flags s.width d t.constant)
    inner h i j same d =
        ap (λ w. result_datum (mlir_meaning class_of kind value) h (Some (d ∷ integer w t.constant ∷ []))) (sym same)
        ∙ sum_gives class_of kind value forth h i j d t.constant (subst (λ w. t.constant < 2 ^ bits_of_width w) (sym same) first_fits)
        ∙ ap (λ w. Some (constant_result Add i.flags w d t.constant)) same

    equal : (env : Environment) (r : Datum) → Agrees (mlir_meaning class_of kind value) env (record { head = head; operands = a ∷ b ∷ [] }) → view_datum (mlir_meaning class_of kind value) env (record { head = head; operands = a ∷ b ∷ [] }) ≡ Some r → term_datum (mlir_meaning class_of kind value) env (arithmetic_with Add whole t.value n) ≡ Some r
    equal env r agrees e =
        let both = both_have (mlir_meaning class_of kind value) head (operand_datum (mlir_meaning class_of kind value) env a) (operand_datum (mlir_meaning class_of kind value) env b) r e in
        let within = inner_gives class_of kind value forth env Add s.flags s.width a t both.0 (λ h i j same alike d. inner h i j same d) u agrees.0 both.2 in
        ap (λ x. result_datum (mlir_meaning class_of kind value) (head_of_arithmetic Add whole) (prepend_optional x (Some (integer s.width n ∷ [])))) within.3
        ∙ sum_gives class_of kind value forth (head_of_arithmetic Add whole) whole (arithmetic_says Add whole says.is) within.1 n (joined_below s.flags (bits_of_width s.width) t.constant k n joined)
        ∙ ap Some (sym (joined_datum s.flags within.0 s.width t.constant k n says.is within.2 first_fits second_fits joined within.1))
        ∙ ap (λ x. Some (constant_result Add s.flags s.width x k)) (sym within.4)
        ∙ sym (sum_gives class_of kind value forth head s says both.0 k second_fits)
        ∙ ap₂ (λ p q. result_datum (mlir_meaning class_of kind value) head (prepend_optional p (prepend_optional q (Some [])))) (sym both.2) (ap Some (sym (known_reads class_of kind value forth env s.width b k both.1 known both.3)) ∙ sym both.3)
        ∙ e

    holds : IsRuleOf (record { head = head; operands = a ∷ b ∷ [] }) (arithmetic_with Add whole t.value n)
    holds = arithmetic_with_holds class_of kind value forth Add head a b whole t.value n says.is (subst (λ x. In t.value (operand_values x)) (sym u.is) (inr (inl (sym u.value_is)))) (λ env r agrees e. equal env r agrees e)

  pub sums_hold : (head : Head) (a b : Operand) (term : Term) (s : Option Arithmetic) → arithmetic_of Add head ≡ s → join_sums s a b ≡ Some term → IsRuleOf (record { head = head; operands = a ∷ b ∷ [] }) term
  sums_hold head a b term None e f = absurd (not_none f)
  sums_hold head a b term (Some s) e f = of_operation (operation_alike Add s.flags s.width a) refl f
    where
      of_sum : (t : ConstantOperation) → operation_alike Add s.flags s.width a ≡ Some t → (k : ℕ) → known_bits s.width b ≡ Some k → (o : Option ℕ) → joined_sum s.flags (bits_of_width s.width) t.constant k ≡ o → sum_of_joined s t.value o ≡ Some term → IsRuleOf (record { head = head; operands = a ∷ b ∷ [] }) term
      of_sum t g k h None i j = absurd (not_none j)
      of_sum t g k h (Some n) i j = subst (IsRuleOf (record { head = head; operands = a ∷ b ∷ [] })) (some_is j) (holds head s (says_arithmetic Add head s e) a b t (says_constant Add s.flags s.width a t g) k n h i)

      of_bits : (t : ConstantOperation) → operation_alike Add s.flags s.width a ≡ Some t → (x : Option ℕ) → known_bits s.width b ≡ x → joined_sums s (Some t) x ≡ Some term → IsRuleOf (record { head = head; operands = a ∷ b ∷ [] }) term
      of_bits t g None h i = absurd (not_none i)
      of_bits t g (Some k) h i = of_sum t g k h (joined_sum s.flags (bits_of_width s.width) t.constant k) refl i

      of_operation : (x : Option ConstantOperation) → operation_alike Add s.flags s.width a ≡ x → joined_sums s x (known_bits s.width b) ≡ Some term → IsRuleOf (record { head = head; operands = a ∷ b ∷ [] }) term
      of_operation None g h = absurd (not_none h)
      of_operation (Some t) g h = of_bits t g (known_bits s.width b) refl h
