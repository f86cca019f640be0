-- What comparisons with a constant give, whatever the other datum is.
use Rattle.std.proofs.Common.{◌≡◌, ℕ, ◌^◌, ◌<◌, Bool, true, false, not, nat_eq, nat_lt, nat_le, List, [], ◌∷◌, Option, Some, None, inl, inr, refl, sym, ap, ap₂, ◌∙◌, subst, arith, tests, ℤ}
use Rattle.std.specs.Prelude.{int_lt}
use Rattle.std.specs.List.{flat_map}
use Rattle.std.proofs.lemmas.Int.{ints}
use Rattle.std.proofs.lemmas.Bool.Decides.{Decides-like, same_from_decides}
use Rattle.pliron_core.specs.declared.attrs.Head.{Head}
use Rattle.pliron_core.specs.Tree.{In}
use Rattle.pliron_core.proofs.ListLemmas.{In-left}
use Rattle.pliron_laws.specs.Datum.{Datum, Number}
use Rattle.pliron_laws.specs.States.{Environment, prepend_optional}
use Rattle.pliron_dialect.specs.Identities.{same_datum}
use Rattle.pliron_dialect.specs.Roles.{Interpretation}
use Rattle.pliron_bits.specs.declared.operators.Predicate.{Predicate}
use Rattle.pliron_bits.specs.declared.operators.Predicate.TheVariants.{Equal, NotEqual, SignedLess, SignedLessEqual, SignedGreater, SignedGreaterEqual, UnsignedLess, UnsignedLessEqual, UnsignedGreater, UnsignedGreaterEqual}
use Rattle.pliron_bits.specs.Numbers.{signed_value}
use Rattle.pliron_bits.specs.Operators.{comparison}
use Rattle.pliron_dialect_mlir.specs.declared.kind.Class.{Class}
use Rattle.pliron_dialect_mlir.specs.declared.computations.Comparison.{Comparison}
use Rattle.pliron_dialect_mlir.specs.Data.{is_width, bits_of_width, number, bit}
use Rattle.pliron_dialect_mlir.specs.IntegerIdentities.{holds_of_equal, truth_of_equal}
use Rattle.pliron_dialect_mlir.specs.OtherData.{first_other, passed_on}
use Rattle.pliron_dialect_mlir.specs.Computations.{head_of_comparison}
use Rattle.pliron_rewrite_rules.specs.declared.view.Operand.{Operand}
use Rattle.pliron_rewrite_rules.specs.declared.view.View.{View}
use Rattle.pliron_rewrite_rules.specs.declared.term.Term.{Term}
use Rattle.pliron_rewrite_rules.specs.RuleLaws.{IsRule}
use Rattle.pliron_rewrite_rules.specs.Views.{Agrees, operand_values, result_datum, view_datum, term_datum, shown_in}
use Rattle.pliron_mlir_rules.specs.HeadsSay.{comparison_says}
use Rattle.pliron_mlir_rules.specs.IntegerActs.{unequal, comparison_result_if, comparison_result, mlir_meaning, mlir_effects, comparison_gives, pure_comparison}
use Rattle.pliron_mlir_rules.specs.Integers.{bits_in, integer, bits_back, first_is_other, first_is_later}
use Rattle.pliron_mlir_rules.specs.MlirRules.{compare_with, swapped_of}
use Rattle.pliron_mlir_rules.specs.SameData.{same_decides}

-- what a comparison with a number gives
abbrev pub compared_bits : (width : ℕ) → Predicate → Option ℕ → Datum → (c : ℕ) → Datum
compared_bits width p (Some a) d c = integer 1 (bit (comparison p (bits_of_width width) a c))
compared_bits width p None d c = passed_on width 1 d

-- ---- a number and itself

same_number : (n : ℕ) → nat_eq n n ≡ true
same_number n = grind (arith, tests)

never_less : (n : ℕ) → nat_lt n n ≡ false
never_less n = grind (arith, tests)

at_most_itself : (n : ℕ) → nat_le n n ≡ true
at_most_itself n = grind (arith, tests)

never_signed_less : (z : ℤ) → int_lt z z ≡ false
never_signed_less z = grind (arith, tests, ints)

compares_itself : (p : Predicate) (w n : ℕ) → comparison p w n n ≡ holds_of_equal p
compares_itself Equal w n = same_number n
compares_itself NotEqual w n = ap not (same_number n)
compares_itself SignedLess w n = never_signed_less (signed_value w n)
compares_itself SignedLessEqual w n = ap not (never_signed_less (signed_value w n))
compares_itself SignedGreater w n = never_signed_less (signed_value w n)
compares_itself SignedGreaterEqual w n = ap not (never_signed_less (signed_value w n))
compares_itself UnsignedLess w n = never_less n
compares_itself UnsignedLessEqual w n = at_most_itself n
compares_itself UnsignedGreater w n = never_less n
compares_itself UnsignedGreaterEqual w n = at_most_itself n

-- ---- the number behind, and before

module _ (width : ℕ) (p : Predicate) (c : ℕ) (is : is_width width ≡ true) (lt : c < 2 ^ bits_of_width width) where
  itself_with : (d : Datum) → d ≡ integer width c → Number (truth_of_equal p) ≡ compared_bits width p (bits_in width d) d c
  itself_with d e =
      ap (λ b. integer 1 (bit b)) (sym (compares_itself p (bits_of_width width) c))
      ∙ ap (λ o. compared_bits width p o d c) (sym (ap (bits_in width) e ∙ bits_back width c is lt))

  pub compared_with : (d : Datum) → comparison_result width p d (integer width c) ≡ compared_bits width p (bits_in width d) d c
  compared_with d = by (same_datum d (integer width c)) refl
    where
      other : (o : Option ℕ) → bits_in width d ≡ o → unequal width p o (bits_in width (integer width c)) d (integer width c) ≡ compared_bits width p o d c
      other (Some a) e = ap (λ q. unequal width p (Some a) q d (integer width c)) (bits_back width c is lt)
      other None e = ap (passed_on width 1) (first_is_other width d (integer width c ∷ []) e)

      by : (same : Bool) → same_datum d (integer width c) ≡ same → comparison_result_if same width p d (integer width c) ≡ compared_bits width p (bits_in width d) d c
      by true e = itself_with d ((same_decides d (integer width c)).0 e)
      by false e = other (bits_in width d) refl

pub same_turned : (d e : Datum) → same_datum d e ≡ same_datum e d
same_turned d e = same_from_decides (same_datum d e) (same_datum e d) (same_decides d e) (Decides-like (same_datum e d) (λ q. sym q) (λ q. sym q) (same_decides e d))

swapped_holds : (p : Predicate) → holds_of_equal p ≡ holds_of_equal (swapped_of p)
swapped_holds Equal = refl
swapped_holds NotEqual = refl
swapped_holds SignedLess = refl
swapped_holds SignedLessEqual = refl
swapped_holds SignedGreater = refl
swapped_holds SignedGreaterEqual = refl
swapped_holds UnsignedLess = refl
swapped_holds UnsignedLessEqual = refl
swapped_holds UnsignedGreater = refl
swapped_holds UnsignedGreaterEqual = refl

equal_turned : (a b : ℕ) → nat_eq a b ≡ nat_eq b a
equal_turned a b = grind (arith, tests)

swapped_compares : (p : Predicate) (w a b : ℕ) → comparison p w a b ≡ comparison (swapped_of p) w b a
swapped_compares Equal w a b = equal_turned a b
swapped_compares NotEqual w a b = ap not (equal_turned a b)
swapped_compares SignedLess w a b = refl
swapped_compares SignedLessEqual w a b = refl
swapped_compares SignedGreater w a b = refl
swapped_compares SignedGreaterEqual w a b = refl
swapped_compares UnsignedLess w a b = refl
swapped_compares UnsignedLessEqual w a b = refl
swapped_compares UnsignedGreater w a b = refl
swapped_compares UnsignedGreaterEqual w a b = refl

-- a number that is compared with a datum is that datum compared with the number
pub number_swaps : (width : ℕ) (p : Predicate) (c : ℕ) → is_width width ≡ true → c < 2 ^ bits_of_width width → (d : Datum) → comparison_result width p (integer width c) d ≡ comparison_result width (swapped_of p) d (integer width c)
number_swaps width p c is lt d =
    by (same_datum (integer width c) d)
    ∙ ap (λ same. comparison_result_if same width (swapped_of p) d (integer width c)) (same_turned (integer width c) d)
  where
    known : bits_in width (integer width c) ≡ Some c
    known = bits_back width c is lt

    other : (o : Option ℕ) → bits_in width d ≡ o → unequal width p (bits_in width (integer width c)) o (integer width c) d ≡ unequal width (swapped_of p) o (bits_in width (integer width c)) d (integer width c)
    other (Some a) e =
        ap (λ q. unequal width p q (Some a) (integer width c) d) known
        ∙ ap (λ b. integer 1 (bit b)) (swapped_compares p (bits_of_width width) c a)
        ∙ ap (λ q. unequal width (swapped_of p) (Some a) q d (integer width c)) (sym known)
    other None e =
        ap (λ q. unequal width p q None (integer width c) d) known
        ∙ ap (passed_on width 1)
        (first_is_later width (integer width c) (d ∷ []) c known ∙ first_is_other width d [] e ∙ sym (first_is_other width d (integer width c ∷ []) e))

    by : (same : Bool) → comparison_result_if same width p (integer width c) d ≡ comparison_result_if same width (swapped_of p) d (integer width c)
    by true = ap (λ b. integer 1 (bit b)) (swapped_holds p)
    by false = other (bits_in width d) refl

-- ---- rules whose term is such a comparison

module _ {K : Type 0} (class_of : K → Class) (kind : Class → K) (value : Interpretation) (forth : (c : Class) → class_of (kind c) ≡ c) where
  pub compare_with_gives : (env : Environment) (c : Comparison) (v k : ℕ) (d : Datum) → is_width c.width ≡ true → k < 2 ^ bits_of_width c.width → env v ≡ Some d → term_datum (mlir_meaning class_of kind value) env (compare_with c v k) ≡ Some (compared_bits c.width c.predicate (bits_in c.width d) d k)
  compare_with_gives env c v k d is lt has =
      ap (λ o. result_datum (mlir_meaning class_of kind value) (head_of_comparison c) (prepend_optional o (Some (integer c.width k ∷ [])))) has
      ∙ comparison_gives class_of kind value forth (head_of_comparison c) c (comparison_says c is) d (integer c.width k)
      ∙ ap Some (compared_with c.width c.predicate k is lt d)

  pub compare_with_holds : (head : Head) (a b : Operand) (c : Comparison) (v k : ℕ) → is_width c.width ≡ true → In v (operand_values a) →
      ((env : Environment) (r : Datum) → Agrees (mlir_meaning class_of kind value) env (record { head = head; operands = a ∷ b ∷ [] }) → view_datum (mlir_meaning class_of kind value) env (record { head = head; operands = a ∷ b ∷ [] }) ≡ Some r → term_datum (mlir_meaning class_of kind value) env (compare_with c v k) ≡ Some r)
      → IsRule (mlir_meaning class_of kind value) (mlir_effects class_of kind value) (λ attr. true) (record { head = head; operands = a ∷ b ∷ [] }) (compare_with c v k)
  compare_with_holds head a b c v k is shown equal = record {
    buildable = (pure_comparison class_of kind value forth (head_of_comparison c) (comparison_says c is).class, (tt, (refl, tt)));
    shown = λ u i. named u i;
    equal = equal;
  }
    where
      named : (u : ℕ) → In u (v ∷ []) → In u (shown_in (record { head = head; operands = a ∷ b ∷ [] }))
      named u (inl i) = In-left u (operand_values a) (flat_map operand_values (b ∷ [])) (subst (λ z. In z (operand_values a)) (sym i) shown)
      named u (inr never) = absurd never
