-- Operations on bits with two constants, and all with two.
use Rattle.std.proofs.Common.{◌≡◌, ℕ, ◌+◌, ◌-◌, ◌^◌, ◌<◌, ◌≤◌, Bool, true, false, not, nat_eq, ◌&&◌, [], ◌∷◌, Option, Some, None, if◌then◌else◌, inl, inr, refl, sym, ap, ap₂, ◌∙◌, subst, arith, tests}
use Rattle.std.specs.Prelude.{bit_and, bit_or}
use Rattle.std.specs.Int.Bits.{and_lt, xor_assoc}
use Rattle.std.specs.Option.{option_or}
use Rattle.std.proofs.lemmas.Bool.Decides.{Decides-eqb}
use Rattle.std.proofs.lemmas.Nat.{and_assoc, and_le_l, and_le_r, le_or_l, le_or_r, or_lt, xor_lt}
use Rattle.pliron_core.specs.declared.attrs.Head.{Head}
use Rattle.pliron_core.specs.Tree.{In}
use Rattle.pliron_core.proofs.HoldingLemmas.{not_none}
use Rattle.pliron_laws.specs.Datum.{Datum}
use Rattle.pliron_laws.specs.States.{Environment, prepend_optional}
use Rattle.pliron_dialect.specs.Roles.{Interpretation}
use Rattle.pliron_bits.specs.declared.flags.Flags.{Flags}
use Rattle.pliron_bits.specs.declared.operators.BinaryOperator.TheVariants.{Add, And, Or, Xor}
use Rattle.pliron_bits.specs.Arithmetic.{unless_flagged}
use Rattle.pliron_bits.specs.Operators.{binary}
use Rattle.pliron_dialect_mlir.specs.declared.kind.Class.{Class}
use Rattle.pliron_dialect_mlir.specs.declared.computations.Arithmetic.{Arithmetic}
use Rattle.pliron_dialect_mlir.specs.Data.{is_width, bits_of_width}
use Rattle.pliron_dialect_mlir.specs.Computations.{arithmetic_of, head_of_arithmetic}
use Rattle.pliron_rewrite_rules.specs.declared.view.Operand.{Operand}
use Rattle.pliron_rewrite_rules.specs.declared.view.View.{View}
use Rattle.pliron_rewrite_rules.specs.declared.term.Term.{Term}
use Rattle.pliron_rewrite_rules.specs.RuleLaws.{IsRule}
use Rattle.pliron_rewrite_rules.specs.Views.{Agrees, operand_values, operand_datum, result_datum, view_datum, term_datum}
use Rattle.pliron_mlir_rules.specs.declared.seen.ConstantOperation.{ConstantOperation}
use Rattle.pliron_mlir_rules.specs.declared.constants.AssociativeOperator.{AssociativeOperator}
use Rattle.pliron_mlir_rules.specs.declared.constants.AssociativeOperator.TheVariants.{Conjunction, Disjunction, Exclusion}
use Rattle.pliron_mlir_rules.specs.BitActs.{conjunction_whole, disjunction_whole, exclusion_whole}
use Rattle.pliron_mlir_rules.specs.BitNumbers.{or_joins}
use Rattle.pliron_mlir_rules.specs.ConstantArithmetic.{constant_gives, arithmetic_with_holds}
use Rattle.pliron_mlir_rules.specs.ConstantsSeen.{SaysConstant, says_constant, inner_gives}
use Rattle.pliron_mlir_rules.specs.HeadsSay.{both_so, picked, SaysArithmetic, says_arithmetic, arithmetic_says}
use Rattle.pliron_mlir_rules.specs.IntegerActs.{number_or_poison, computed_datum, constant_result, mlir_meaning, mlir_effects}
use Rattle.pliron_mlir_rules.specs.Integers.{bits_in, integer, bits_back, below_size}
use Rattle.pliron_mlir_rules.specs.JoinedSumsHold.{sums_hold}
use Rattle.pliron_mlir_rules.specs.MlirRules.{known_bits, wraps_freely, promises_nothing, constant_operation, no_flags, arithmetic_with, operator_of, joined_bits, absorbs, join_sums, joined_constants, joined_if, join_constants, rules_of_constants}
use Rattle.pliron_mlir_rules.specs.Seen.{both_have, leaf_below, known_reads, known_below}
use Rattle.pliron_mlir_rules.specs.SumsHold.{not_true}
use Rattle.pliron_mlir_rules.specs.WidthMoves.{false_true}

-- ---- numbers

computes : (o : AssociativeOperator) (flags : Flags) (w a b : ℕ) → promises_nothing flags ≡ true → binary (operator_of o) flags w a b ≡ Some (joined_bits o a b)
computes Conjunction flags w a b nothing = refl
computes Disjunction flags w a b nothing = ap (λ x. unless_flagged (x && not (nat_eq (bit_and a b) 0)) (bit_or a b)) (not_true flags.disjoint (both_so (wraps_freely flags) (not flags.disjoint) nothing).1)
computes Exclusion flags w a b nothing = refl

fits : (o : AssociativeOperator) (w a b : ℕ) → a < 2 ^ w → b < 2 ^ w → joined_bits o a b < 2 ^ w
fits Conjunction w a b p q = and_lt w a b p q
fits Disjunction w a b p q = or_lt w a b p q
fits Exclusion w a b p q = xor_lt w a b p q

joins : (o : AssociativeOperator) (a b c : ℕ) → joined_bits o (joined_bits o a b) c ≡ joined_bits o a (joined_bits o b c)
joins Conjunction a b c = and_assoc c a b
joins Disjunction a b c = or_joins a b c
joins Exclusion a b c = xor_assoc a b c

-- where the one constant absorbs nothing, neither of the two does
absorbs_none : (o : AssociativeOperator) (w a b : ℕ) → a < 2 ^ w → b < 2 ^ w → absorbs o w (joined_bits o a b) ≡ false → (absorbs o w a ≡ false) × (absorbs o w b ≡ false)
absorbs_none Conjunction w a b p q e = (more (bit_and a b) a (and_le_l a b) e, more (bit_and a b) b (and_le_r a b) e)
  where
    more : (x y : ℕ) → x ≤ y → nat_eq x 0 ≡ false → nat_eq y 0 ≡ false
    more x y le h = grind (arith, tests, le, h)
absorbs_none Disjunction w a b p q e = (fewer (bit_or a b) a (2 ^ w) (le_or_l a b) (or_lt w a b p q) e, fewer (bit_or a b) b (2 ^ w) (le_or_r a b) (or_lt w a b p q) e)
  where
    fewer : (x y m : ℕ) → y ≤ x → x < m → nat_eq x (m - 1) ≡ false → nat_eq y (m - 1) ≡ false
    fewer x y m le lt h = grind (arith, tests, le, lt, h)
absorbs_none Exclusion w a b p q e = (refl, refl)

-- ---- data

joined_datum : (o : AssociativeOperator) (inner outer : Flags) (width c k : ℕ) → is_width width ≡ true → promises_nothing inner ≡ true → promises_nothing outer ≡ true → c < 2 ^ bits_of_width width → (d : Datum) →
    constant_result (operator_of o) outer width (constant_result (operator_of o) inner width d c) k ≡ constant_result (operator_of o) no_flags width d (joined_bits o c k)
joined_datum o inner outer width c k is p q lt d = by (bits_in width d) refl
  where
    by : (x : Option ℕ) → bits_in width d ≡ x → constant_result (operator_of o) outer width (computed_datum (operator_of o) inner width x d c) k ≡ computed_datum (operator_of o) no_flags width x d (joined_bits o c k)
    by None e = ap (λ x. computed_datum (operator_of o) outer width x d k) e
    by (Some a) e =
        let below : joined_bits o a c < 2 ^ bits_of_width width = fits o (bits_of_width width) a c (below_size width d a e) lt in
        ap (λ x. constant_result (operator_of o) outer width (number_or_poison width x) k) (computes o inner (bits_of_width width) a c p)
        ∙ ap (λ x. computed_datum (operator_of o) outer width x (integer width (joined_bits o a c)) k) (bits_back width (joined_bits o a c) is below)
        ∙ ap (number_or_poison width) (computes o outer (bits_of_width width) (joined_bits o a c) k q)
        ∙ ap (integer width) (joins o a c k)
        ∙ sym (ap (number_or_poison width) (computes o no_flags (bits_of_width width) a (joined_bits o c k) refl))

module _ {K : Type 0} (class_of : K → Class) (kind : Class → K) (value : Interpretation) (forth : (c : Class) → class_of (kind c) ≡ c) where
  abbrev IsRuleOf : View → Term → Type 0
  IsRuleOf view term = IsRule (mlir_meaning class_of kind value) (mlir_effects class_of kind value) (λ attr. true) view term

  -- what an operation with a constant gives that doesn't absorb
  operation_gives : (o : AssociativeOperator) (head : Head) (s : Arithmetic) → SaysArithmetic (operator_of o) head s → promises_nothing s.flags ≡ true → (c : ℕ) → c < 2 ^ bits_of_width s.width → absorbs o (bits_of_width s.width) c ≡ false → (d : Datum) →
      result_datum (mlir_meaning class_of kind value) head (Some (d ∷ integer s.width c ∷ [])) ≡ Some (constant_result (operator_of o) s.flags s.width d c)
  operation_gives Conjunction head s says nothing c lt apart d =
      constant_gives class_of kind value forth And head s says d c (conjunction_whole s.flags s.width c says.is lt d (λ e. false_true (nat_eq c 0) apart ((Decides-eqb c 0).1 (sym e))))
  operation_gives Disjunction head s says nothing c lt apart d =
      constant_gives class_of kind value forth Or head s says d c
      (disjunction_whole s.flags s.width c says.is lt d (not_true s.flags.disjoint (both_so (wraps_freely s.flags) (not s.flags.disjoint) nothing).1)
      (λ e. false_true (nat_eq c (2 ^ bits_of_width s.width - 1)) apart ((Decides-eqb c (2 ^ bits_of_width s.width - 1)).1 (sym e))))
  operation_gives Exclusion head s says nothing c lt apart d = constant_gives class_of kind value forth Xor head s says d c (exclusion_whole s.flags s.width c says.is lt d)

  module _ (o : AssociativeOperator) (head : Head) (s : Arithmetic) (says : SaysArithmetic (operator_of o) head s) (nothing : promises_nothing s.flags ≡ true) (a b : Operand) (t : ConstantOperation) (u : SaysConstant (operator_of o) no_flags s.width a t) (k : ℕ) (known : known_bits s.width b ≡ Some k) where
    abbrev joined : ℕ
    joined = joined_bits o t.constant k

    abbrev plain : Arithmetic
    plain = record { width = s.width; flags = no_flags }

    first_fits : t.constant < 2 ^ bits_of_width s.width
    first_fits = leaf_below s.width u.c t.constant u.reads

    second_fits : k < 2 ^ bits_of_width s.width
    second_fits = known_below s.width b k known

    both_fit : joined < 2 ^ bits_of_width s.width
    both_fit = fits o (bits_of_width s.width) t.constant k first_fits second_fits

    holds : absorbs o (bits_of_width s.width) joined ≡ false → IsRuleOf (record { head = head; operands = a ∷ b ∷ [] }) (arithmetic_with (operator_of o) plain t.value joined)
    holds apart =
        arithmetic_with_holds class_of kind value forth (operator_of o) head a b plain t.value joined says.is (subst (λ x. In t.value (operand_values x)) (sym u.is) (inr (inl (sym u.value_is)))) (λ env r agrees e. equal env r agrees e)
      where
        neither : (absorbs o (bits_of_width s.width) t.constant ≡ false) × (absorbs o (bits_of_width s.width) k ≡ false)
        neither = absorbs_none o (bits_of_width s.width) t.constant k first_fits second_fits apart

        inner : (h : Head) (i : Arithmetic) → SaysArithmetic (operator_of o) h i → i.width ≡ s.width → promises_nothing i.flags ≡ true → (d : Datum) → result_datum (mlir_meaning class_of kind value) h (Some (d ∷ integer s.width t.constant ∷ [])) ≡ Some (constant_result (operator_of o) i.flags s.width d t.constant)
        inner h i j same free d =
            ap (λ w. result_datum (mlir_meaning class_of kind value) h (Some (d ∷ integer w t.constant ∷ []))) (sym same)
            ∙ operation_gives o h i j free t.constant (subst (λ w. t.constant < 2 ^ bits_of_width w) (sym same) first_fits) (subst (λ w. absorbs o (bits_of_width w) t.constant ≡ false) (sym same) neither.0) d
            ∙ ap (λ w. Some (constant_result (operator_of o) i.flags w d t.constant)) same

        equal : (env : Environment) (r : Datum) → Agrees (mlir_meaning class_of kind value) env (record { head = head; operands = a ∷ b ∷ [] }) → view_datum (mlir_meaning class_of kind value) env (record { head = head; operands = a ∷ b ∷ [] }) ≡ Some r → term_datum (mlir_meaning class_of kind value) env (arithmetic_with (operator_of o) plain t.value joined) ≡ Some r
        equal env r agrees e =
            let both = both_have (mlir_meaning class_of kind value) head (operand_datum (mlir_meaning class_of kind value) env a) (operand_datum (mlir_meaning class_of kind value) env b) r e in
            let within = inner_gives class_of kind value forth env (operator_of o) no_flags s.width a t both.0 (λ h i j same free d. inner h i j same free d) u agrees.0 both.2 in
            ap (λ x. result_datum (mlir_meaning class_of kind value) (head_of_arithmetic (operator_of o) plain) (prepend_optional x (Some (integer s.width joined ∷ [])))) within.3
            ∙ operation_gives o (head_of_arithmetic (operator_of o) plain) plain (arithmetic_says (operator_of o) plain says.is) refl joined both_fit apart within.1
            ∙ ap Some (sym (joined_datum o within.0 s.flags s.width t.constant k says.is within.2 nothing first_fits within.1))
            ∙ ap (λ x. Some (constant_result (operator_of o) s.flags s.width x k)) (sym within.4)
            ∙ sym (operation_gives o head s says nothing k second_fits neither.1 both.0)
            ∙ ap₂ (λ p q. result_datum (mlir_meaning class_of kind value) head (prepend_optional p (prepend_optional q (Some [])))) (sym both.2) (ap Some (sym (known_reads class_of kind value forth env s.width b k both.1 known both.3)) ∙ sym both.3)
            ∙ e

  joined_holds : (o : AssociativeOperator) (head : Head) (a b : Operand) (term : Term) (s : Option Arithmetic) → arithmetic_of (operator_of o) head ≡ s → joined_if o s a b ≡ Some term → IsRuleOf (record { head = head; operands = a ∷ b ∷ [] }) term
  joined_holds o head a b term None e f = absurd (not_none f)
  joined_holds o head a b term (Some s) e f = of_flags (promises_nothing s.flags) refl f
    where
      of_bits : promises_nothing s.flags ≡ true → (t : ConstantOperation) → constant_operation (operator_of o) s.width a ≡ Some t → (x : Option ℕ) → known_bits s.width b ≡ x → joined_constants o s.width (Some t) x ≡ Some term → IsRuleOf (record { head = head; operands = a ∷ b ∷ [] }) term
      of_bits nothing t g None h i = absurd (not_none i)
      of_bits nothing t g (Some k) h i =
          let both = picked (not (absorbs o (bits_of_width s.width) (joined_bits o t.constant k))) (arithmetic_with (operator_of o) (record { width = s.width; flags = no_flags }) t.value (joined_bits o t.constant k)) term i in
          subst (IsRuleOf (record { head = head; operands = a ∷ b ∷ [] })) both.1
          (holds o head s (says_arithmetic (operator_of o) head s e) nothing a b t (says_constant (operator_of o) no_flags s.width a t g) k h (not_true (absorbs o (bits_of_width s.width) (joined_bits o t.constant k)) both.0))

      of_operation : promises_nothing s.flags ≡ true → (x : Option ConstantOperation) → constant_operation (operator_of o) s.width a ≡ x → joined_constants o s.width x (known_bits s.width b) ≡ Some term → IsRuleOf (record { head = head; operands = a ∷ b ∷ [] }) term
      of_operation nothing None g h = absurd (not_none h)
      of_operation nothing (Some t) g h = of_bits nothing t g (known_bits s.width b) refl h

      of_flags : (x : Bool) → promises_nothing s.flags ≡ x → (if x then joined_constants o s.width (constant_operation (operator_of o) s.width a) (known_bits s.width b) else None) ≡ Some term → IsRuleOf (record { head = head; operands = a ∷ b ∷ [] }) term
      of_flags false g h = absurd (not_none h)
      of_flags true g h = of_operation g (constant_operation (operator_of o) s.width a) refl h

  pub constants_hold : (head : Head) (a b : Operand) (term : Term) → rules_of_constants head a b ≡ Some term → IsRuleOf (record { head = head; operands = a ∷ b ∷ [] }) term
  constants_hold head a b term e = of_sum (join_sums (arithmetic_of Add head) a b) refl e
    where
      common : Option Term
      common = join_constants Conjunction head a b

      either : Option Term
      either = join_constants Disjunction head a b

      one : Option Term
      one = join_constants Exclusion head a b

      of_either : (x : Option Term) → join_constants Disjunction head a b ≡ x → option_or x one ≡ Some term → IsRuleOf (record { head = head; operands = a ∷ b ∷ [] }) term
      of_either None f g = joined_holds Exclusion head a b term (arithmetic_of Xor head) refl g
      of_either (Some t) f g = joined_holds Disjunction head a b term (arithmetic_of Or head) refl (f ∙ g)

      of_common : (x : Option Term) → join_constants Conjunction head a b ≡ x → option_or x (option_or either one) ≡ Some term → IsRuleOf (record { head = head; operands = a ∷ b ∷ [] }) term
      of_common None f g = of_either (join_constants Disjunction head a b) refl g
      of_common (Some t) f g = joined_holds Conjunction head a b term (arithmetic_of And head) refl (f ∙ g)

      of_sum : (x : Option Term) → join_sums (arithmetic_of Add head) a b ≡ x → option_or x (option_or common (option_or either one)) ≡ Some term → IsRuleOf (record { head = head; operands = a ∷ b ∷ [] }) term
      of_sum None f g = of_common (join_constants Conjunction head a b) refl g
      of_sum (Some t) f g = sums_hold class_of kind value forth head a b term (arithmetic_of Add head) refl (f ∙ g)
