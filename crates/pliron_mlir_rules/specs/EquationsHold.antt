-- Equations with sums.
use Rattle.std.proofs.Common.{◌≡◌, ℕ, ◌+◌, ◌-◌, ◌%◌, ◌^◌, ◌<◌, ◌≤◌, Bool, true, false, not, nat_eq, [], ◌∷◌, Option, Some, None, if◌then◌else◌, inl, inr, refl, sym, ap, ap₂, ◌∙◌, subst, arith}
use Rattle.std.proofs.Math.Nat.{mod-eq_of_lt, mod-add-mod, mod-eq-sub-mod}
use Rattle.std.proofs.lemmas.Bool.Decides.{Decides-eqb, Decides-like, same_from_decides}
use Rattle.std.proofs.lemmas.Nat.{mod_below, pow_pos}
use Rattle.pliron_core.specs.declared.attrs.Head.{Head}
use Rattle.pliron_core.specs.Tree.{In}
use Rattle.pliron_core.proofs.HoldingLemmas.{not_none, some_is}
use Rattle.pliron_laws.specs.Datum.{Datum}
use Rattle.pliron_laws.specs.States.{Environment, prepend_optional}
use Rattle.pliron_dialect.specs.Roles.{Interpretation}
use Rattle.pliron_bits.specs.declared.flags.Flags.{Flags}
use Rattle.pliron_bits.specs.declared.operators.BinaryOperator.TheVariants.{Add}
use Rattle.pliron_bits.specs.declared.operators.Predicate.{Predicate}
use Rattle.pliron_bits.specs.declared.operators.Predicate.TheVariants.{Equal, NotEqual, SignedLess, SignedLessEqual, SignedGreater, SignedGreaterEqual, UnsignedLess, UnsignedLessEqual, UnsignedGreater, UnsignedGreaterEqual}
use Rattle.pliron_bits.specs.Operators.{comparison}
use Rattle.pliron_dialect_mlir.specs.declared.kind.Class.{Class}
use Rattle.pliron_dialect_mlir.specs.declared.computations.Arithmetic.{Arithmetic}
use Rattle.pliron_dialect_mlir.specs.declared.computations.Comparison.{Comparison}
use Rattle.pliron_dialect_mlir.specs.Data.{is_width, bits_of_width, bit}
use Rattle.pliron_dialect_mlir.specs.Computations.{comparison_of}
use Rattle.pliron_rewrite_rules.specs.declared.view.Operand.{Operand}
use Rattle.pliron_rewrite_rules.specs.declared.view.View.{View}
use Rattle.pliron_rewrite_rules.specs.declared.term.Term.{Term}
use Rattle.pliron_rewrite_rules.specs.RuleLaws.{IsRule}
use Rattle.pliron_rewrite_rules.specs.Views.{Agrees, operand_values, operand_datum, result_datum, view_datum, term_datum}
use Rattle.pliron_mlir_rules.specs.declared.seen.ConstantOperation.{ConstantOperation}
use Rattle.pliron_mlir_rules.specs.ConstantComparisons.{compared_bits, compared_with, compare_with_gives, compare_with_holds}
use Rattle.pliron_mlir_rules.specs.ConstantsSeen.{SaysConstant, says_constant, inner_gives}
use Rattle.pliron_mlir_rules.specs.HeadsSay.{both_so, SaysComparison, says_comparison, SaysArithmetic}
use Rattle.pliron_mlir_rules.specs.IntegerActs.{number_or_poison, computed_datum, constant_result, comparison_result, mlir_meaning, mlir_effects, comparison_gives, sum_gives}
use Rattle.pliron_mlir_rules.specs.Integers.{bits_in, integer, bits_back, below_size}
use Rattle.pliron_mlir_rules.specs.MlirRules.{known_bits, compare_with, wraps_freely, no_flags, constant_operation, is_equation, moved_constant, compare_summand}
use Rattle.pliron_mlir_rules.specs.Seen.{both_have, known_reads, known_below, leaf_below}
use Rattle.pliron_mlir_rules.specs.SumsHold.{free_sum}
use Rattle.pliron_mlir_rules.specs.WidthMoves.{false_true}

-- ---- numbers

size_goes : (n m : ℕ) → n < m → (n + m) % m ≡ n
size_goes n m lt =
    let le : m ≤ n + m = omega arith in
    let back : n + m - m ≡ n = omega arith in
    mod-eq-sub-mod le ∙ ap (λ x. x % m) back ∙ mod-eq_of_lt lt

equation_moves : (m a c d : ℕ) → a < m → c < m → d < m → nat_eq ((a + c) % m) d ≡ nat_eq a ((d + (m - c)) % m)
equation_moves m a c d p q r =
    same_from_decides (nat_eq ((a + c) % m) d) (nat_eq a ((d + (m - c)) % m))
    (Decides-like (nat_eq ((a + c) % m) d) forth back (Decides-eqb ((a + c) % m) d))
    (Decides-eqb a ((d + (m - c)) % m))
  where
    forth : (a + c) % m ≡ d → a ≡ (d + (m - c)) % m
    forth e =
        let whole : a + c + (m - c) ≡ a + m = omega (arith, q) in
        sym (ap (λ x. (x + (m - c)) % m) (sym e) ∙ mod-add-mod (a + c) m (m - c) ∙ ap (λ x. x % m) whole ∙ size_goes a m p)

    back : a ≡ (d + (m - c)) % m → (a + c) % m ≡ d
    back e =
        let whole : d + (m - c) + c ≡ d + m = omega (arith, q) in
        ap (λ x. (x + c) % m) e ∙ mod-add-mod (d + (m - c)) m c ∙ ap (λ x. x % m) whole ∙ size_goes d m r

moves : (p : Predicate) → is_equation p ≡ true → (w a c d : ℕ) → a < 2 ^ w → c < 2 ^ w → d < 2 ^ w → comparison p w ((a + c) % 2 ^ w) d ≡ comparison p w a ((d + (2 ^ w - c)) % 2 ^ w)
moves Equal is w a c d f g h = equation_moves (2 ^ w) a c d f g h
moves NotEqual is w a c d f g h = ap not (equation_moves (2 ^ w) a c d f g h)
moves SignedLess is w a c d f g h = false_true false refl is
moves SignedLessEqual is w a c d f g h = false_true false refl is
moves SignedGreater is w a c d f g h = false_true false refl is
moves SignedGreaterEqual is w a c d f g h = false_true false refl is
moves UnsignedLess is w a c d f g h = false_true false refl is
moves UnsignedLessEqual is w a c d f g h = false_true false refl is
moves UnsignedGreater is w a c d f g h = false_true false refl is
moves UnsignedGreaterEqual is w a c d f g h = false_true false refl is

-- ---- data

moved_datum : (flags : Flags) (width : ℕ) (p : Predicate) (c n : ℕ) → is_width width ≡ true → wraps_freely flags ≡ true → is_equation p ≡ true → c < 2 ^ bits_of_width width → n < 2 ^ bits_of_width width → (x : Datum) →
    compared_bits width p (bits_in width (constant_result Add flags width x c)) (constant_result Add flags width x c) n ≡ compared_bits width p (bits_in width x) x ((n + (2 ^ bits_of_width width - c)) % 2 ^ bits_of_width width)
moved_datum flags width p c n is free equation small lt x = by (bits_in width x) refl
  where
    by : (o : Option ℕ) → bits_in width x ≡ o → compared_bits width p (bits_in width (constant_result Add flags width x c)) (constant_result Add flags width x c) n ≡ compared_bits width p o x ((n + (2 ^ bits_of_width width - c)) % 2 ^ bits_of_width width)
    by None e =
        ap (λ y. compared_bits width p (bits_in width y) y n) (ap (λ o. computed_datum Add flags width o x c) e)
        ∙ ap (λ o. compared_bits width p o x n) e
    by (Some a) e =
        ap (λ y. compared_bits width p (bits_in width y) y n) (ap (λ o. computed_datum Add flags width o x c) e ∙ ap (number_or_poison width) (free_sum flags (bits_of_width width) a c free))
        ∙ ap (λ o. compared_bits width p o (integer width ((a + c) % 2 ^ bits_of_width width)) n) (bits_back width ((a + c) % 2 ^ bits_of_width width) is (mod_below (a + c) (2 ^ bits_of_width width) (pow_pos (bits_of_width width))))
        ∙ ap (λ b. integer 1 (bit b)) (moves p equation (bits_of_width width) a c n (below_size width x a e) small lt)

module _ {K : Type 0} (class_of : K → Class) (kind : Class → K) (value : Interpretation) (forth : (c : Class) → class_of (kind c) ≡ c) where
  abbrev IsRuleOf : View → Term → Type 0
  IsRuleOf view term = IsRule (mlir_meaning class_of kind value) (mlir_effects class_of kind value) (λ attr. true) view term

  abbrev moved : Comparison → (c n : ℕ) → ℕ
  moved k c n = (n + (2 ^ bits_of_width k.width - c)) % 2 ^ bits_of_width k.width

  holds : (head : Head) (c : Comparison) → SaysComparison head c → is_equation c.predicate ≡ true → (a b : Operand) (t : ConstantOperation) → SaysConstant Add no_flags c.width a t → (n : ℕ) → known_bits c.width b ≡ Some n → IsRuleOf (record { head = head; operands = a ∷ b ∷ [] }) (compare_with c t.value (moved c t.constant n))
  holds head c says equation a b t u n known =
      compare_with_holds class_of kind value forth head a b c t.value (moved c t.constant n) says.is (subst (λ o. In t.value (operand_values o)) (sym u.is) (inr (inl (sym u.value_is)))) (λ env r agrees e. equal env r agrees e)
    where
      lt : n < 2 ^ bits_of_width c.width
      lt = known_below c.width b n known

      small : t.constant < 2 ^ bits_of_width c.width
      small = leaf_below c.width u.c t.constant u.reads

      sum : (h : Head) (s : Arithmetic) → SaysArithmetic Add h s → s.width ≡ c.width → (d : Datum) → result_datum (mlir_meaning class_of kind value) h (Some (d ∷ integer c.width t.constant ∷ [])) ≡ Some (constant_result Add s.flags c.width d t.constant)
      sum h s j same d =
          ap (λ w. result_datum (mlir_meaning class_of kind value) h (Some (d ∷ integer w t.constant ∷ []))) (sym same)
          ∙ sum_gives class_of kind value forth h s j d t.constant (subst (λ w. t.constant < 2 ^ bits_of_width w) (sym same) small)
          ∙ ap (λ w. Some (constant_result Add s.flags w d t.constant)) same

      equal : (env : Environment) (r : Datum) → Agrees (mlir_meaning class_of kind value) env (record { head = head; operands = a ∷ b ∷ [] }) → view_datum (mlir_meaning class_of kind value) env (record { head = head; operands = a ∷ b ∷ [] }) ≡ Some r → term_datum (mlir_meaning class_of kind value) env (compare_with c t.value (moved c t.constant n)) ≡ Some r
      equal env r agrees e =
          let both = both_have (mlir_meaning class_of kind value) head (operand_datum (mlir_meaning class_of kind value) env a) (operand_datum (mlir_meaning class_of kind value) env b) r e in
          let inner = inner_gives class_of kind value forth env Add no_flags c.width a t both.0 (λ h s j same nothing d. sum h s j same d) u agrees.0 both.2 in
          compare_with_gives class_of kind value forth env c t.value (moved c t.constant n) inner.1 says.is (mod_below (n + (2 ^ bits_of_width c.width - t.constant)) (2 ^ bits_of_width c.width) (pow_pos (bits_of_width c.width))) inner.3
          ∙ ap Some (sym (moved_datum inner.0 c.width c.predicate t.constant n says.is (both_so (wraps_freely inner.0) (not inner.0.disjoint) inner.2).0 equation small lt inner.1))
          ∙ ap (λ y. Some (compared_bits c.width c.predicate (bits_in c.width y) y n)) (sym inner.4)
          ∙ ap Some (sym (compared_with c.width c.predicate n says.is lt both.0))
          ∙ ap (λ y. Some (comparison_result c.width c.predicate both.0 y)) (sym (known_reads class_of kind value forth env c.width b n both.1 known both.3))
          ∙ sym (comparison_gives class_of kind value forth head c says both.0 both.1)
          ∙ ap₂ (λ p q. result_datum (mlir_meaning class_of kind value) head (prepend_optional p (prepend_optional q (Some [])))) (sym both.2) (sym both.3)
          ∙ e

  pub equations_hold : (head : Head) (a b : Operand) (term : Term) (c : Option Comparison) → comparison_of head ≡ c → compare_summand c a b ≡ Some term → IsRuleOf (record { head = head; operands = a ∷ b ∷ [] }) term
  equations_hold head a b term None e f = absurd (not_none f)
  equations_hold head a b term (Some c) e f = of_equation (is_equation c.predicate) refl f
    where
      of_bits : is_equation c.predicate ≡ true → (t : ConstantOperation) → constant_operation Add c.width a ≡ Some t → (o : Option ℕ) → known_bits c.width b ≡ o → moved_constant c (Some t) o ≡ Some term → IsRuleOf (record { head = head; operands = a ∷ b ∷ [] }) term
      of_bits equation t g None h i = absurd (not_none i)
      of_bits equation t g (Some n) h i = subst (IsRuleOf (record { head = head; operands = a ∷ b ∷ [] })) (some_is i) (holds head c (says_comparison head c e) equation a b t (says_constant Add no_flags c.width a t g) n h)

      of_sum : is_equation c.predicate ≡ true → (o : Option ConstantOperation) → constant_operation Add c.width a ≡ o → moved_constant c o (known_bits c.width b) ≡ Some term → IsRuleOf (record { head = head; operands = a ∷ b ∷ [] }) term
      of_sum equation None g h = absurd (not_none h)
      of_sum equation (Some t) g h = of_bits equation t g (known_bits c.width b) refl h

      of_equation : (x : Bool) → is_equation c.predicate ≡ x → (if x then moved_constant c (constant_operation Add c.width a) (known_bits c.width b) else None) ≡ Some term → IsRuleOf (record { head = head; operands = a ∷ b ∷ [] }) term
      of_equation false g h = absurd (not_none h)
      of_equation true g h = of_sum g (constant_operation Add c.width a) refl h
