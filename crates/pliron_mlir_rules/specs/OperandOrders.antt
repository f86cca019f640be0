-- Where the order of operands doesn't matter, one of them being a number.
use Rattle.std.proofs.Common.{◌≡◌, ℕ, ◌+◌, ◌*◌, ◌^◌, ◌<◌, Bool, true, false, not, nat_eq, nat_lt, ◌&&◌, if◌then◌else◌, List, [], ◌∷◌, Option, Some, None, refl, sym, ap, ap₂, ◌∙◌, arith, ℤ, ◌+ℤ◌, ◌*ℤ◌}
use Rattle.std.specs.Option.{option_map, option_or}
use Rattle.std.specs.Ordering.{int_eq}
use Rattle.std.specs.Int.Bits.{xor_zero_l}
use Rattle.std.proofs.Math.Nat.{mul_comm}
use Rattle.std.proofs.Math.IntN.{*ℤ_comm}
use Rattle.std.proofs.lemmas.Int.{ints}
use Rattle.std.proofs.lemmas.Nat.{and_comm, or_comm, xor_comm}
use Rattle.pliron_core.specs.declared.attrs.Head.{Head}
use Rattle.pliron_core.proofs.HoldingLemmas.{not_none}
use Rattle.pliron_laws.specs.Datum.{Datum, Number}
use Rattle.pliron_dialect.specs.Identities.{same_datum, is_this, place_by, place_between, absorber_of, absorbed_of, equal_of, given_by, given_between}
use Rattle.pliron_dialect.specs.declared.identity.Identity.{Identity}
use Rattle.pliron_dialect.specs.Roles.{Interpretation, operand_left, results_given}
use Rattle.pliron_bits.specs.declared.flags.Flags.{Flags}
use Rattle.pliron_bits.specs.declared.operators.BinaryOperator.{BinaryOperator}
use Rattle.pliron_bits.specs.declared.operators.BinaryOperator.TheVariants.{Add, Multiply, And, Or, Xor}
use Rattle.pliron_bits.specs.Numbers.{signed_value}
use Rattle.pliron_bits.specs.Arithmetic.{unless_flagged, wrap}
use Rattle.pliron_bits.specs.Operators.{binary}
use Rattle.pliron_dialect_mlir.specs.declared.kind.Class.{Class}
use Rattle.pliron_dialect_mlir.specs.declared.kind.Class.TheVariants.{Binary}
use Rattle.pliron_dialect_mlir.specs.declared.computations.Arithmetic.{Arithmetic}
use Rattle.pliron_dialect_mlir.specs.Data.{is_width, bits_of_width, number}
use Rattle.pliron_dialect_mlir.specs.IntegerIdentities.{identity_at, or_identity}
use Rattle.pliron_dialect_mlir.specs.OtherData.{first_other, given_otherwise}
use Rattle.pliron_dialect_mlir.specs.Classes.{of_two}
use Rattle.pliron_rewrite_rules.specs.Views.{only_one, result_datum}
use Rattle.pliron_mlir_rules.specs.ConstantComparisons.{same_turned}
use Rattle.pliron_mlir_rules.specs.HeadsSay.{both_so, SaysArithmetic}
use Rattle.pliron_mlir_rules.specs.IntegerActs.{is_that, mlir_meaning, arithmetic_as_said, otherwise_is}
use Rattle.pliron_mlir_rules.specs.Integers.{bits_in, integer, bits_back, first_is_other, first_is_later}
use Rattle.pliron_mlir_rules.specs.SameData.{same_decides}
use Rattle.pliron_mlir_rules.specs.WidthMoves.{false_true}

-- ---- numbers

pub record Commutes (operator : BinaryOperator) : Type 0 where
  pub either : (flags : Flags) (width : ℕ) → (identity_at operator flags width).either_side ≡ true
  pub turned : (flags : Flags) (w a b : ℕ) → binary operator flags w a b ≡ binary operator flags w b a

pub sums_commute : Commutes Add
sums_commute = record {
  either = λ flags width. refl;
  turned = λ flags w a b. ap₂ (λ z n. wrap flags w z (nat_lt n (2 ^ w)) n) (readings (signed_value w a) (signed_value w b)) (numbers a b);
}
  where
    readings : (x y : ℤ) → x +ℤ y ≡ y +ℤ x
    readings x y = omega (arith, ints)

    numbers : (a b : ℕ) → a + b ≡ b + a
    numbers a b = omega arith

pub products_commute : Commutes Multiply
products_commute = record {
  either = λ flags width. refl;
  turned = λ flags w a b. ap₂ (λ z n. wrap flags w z (nat_lt n (2 ^ w)) n) (*ℤ_comm (signed_value w a) (signed_value w b)) (mul_comm a b);
}

pub conjunctions_commute : Commutes And
conjunctions_commute = record {
  either = λ flags width. refl;
  turned = λ flags w a b. ap Some (and_comm a b);
}

pub disjunctions_commute : Commutes Or
disjunctions_commute = record {
  either = λ flags width. by flags.disjoint width;
  turned = λ flags w a b. ap₂ (λ x y. unless_flagged (flags.disjoint && not (nat_eq x 0)) y) (and_comm a b) (or_comm a b);
}
  where
    by : (b : Bool) (width : ℕ) → (or_identity b width).either_side ≡ true
    by true width = refl
    by false width = refl

pub exclusions_commute : Commutes Xor
exclusions_commute = record {
  either = λ flags width. refl;
  turned = λ flags w a b. ap Some (xor_comm a b);
}

-- ---- data

with_true : (b x : Bool) → b ≡ true → b && x ≡ x
with_true true x e = refl
with_true false x e = false_true false refl e

both_this : (o : Option ℤ) (d e : Datum) → is_this o d ≡ true → is_this o e ≡ true → d ≡ e
both_this None d e p q = false_true false refl p
both_this (Some n) d e p q = is_that n d p ∙ sym (is_that n e q)

-- what is given where no operand is left, by the number that is given or computed
abbrev pub number_or_first : Option ℤ → (width : ℕ) → (d e : Datum) → Datum
number_or_first (Some n) width d e = Number n
number_or_first None width d e = first_other width (d ∷ e ∷ [])

abbrev pub outcome : (behind before equal : Bool) → Option ℤ → (width : ℕ) → (d e : Datum) → Datum
outcome true before equal given width d e = d
outcome false true equal given width d e = e
outcome false false true given width d e = d
outcome false false false given width d e = number_or_first given width d e

-- what an operation gives
abbrev pub whole_datum : BinaryOperator → Flags → (width : ℕ) → (d e : Datum) → Datum
whole_datum operator flags width d e =
    outcome (is_this (identity_at operator flags width).neutral e) ((identity_at operator flags width).either_side && is_this (identity_at operator flags width).neutral d) ((identity_at operator flags width).idempotent && same_datum d e)
    (option_or (given_between (identity_at operator flags width) d e) (option_map (number width) (of_two (binary operator flags (bits_of_width width)) (bits_in width d) (bits_in width e)))) width d e

given_turned : (i : Identity) (second first same : Bool) → given_by i second first same ≡ given_by i first second same
given_turned i true true same = refl
given_turned i true false same = refl
given_turned i false true same = refl
given_turned i false false same = refl

module _ (operator : BinaryOperator) (commutes : Commutes operator) (flags : Flags) (width c : ℕ) (is : is_width width ≡ true) (lt : c < 2 ^ bits_of_width width) (e : Datum) where
  abbrev computed : (d e : Datum) → Option ℤ
  computed d e = option_map (number width) (of_two (binary operator flags (bits_of_width width)) (bits_in width d) (bits_in width e))

  known : bits_in width (integer width c) ≡ Some c
  known = bits_back width c is lt

  -- the one datum of both orders that is no number of the width, or poison
  first_turned : (o : Option ℕ) → bits_in width e ≡ o → first_other width (integer width c ∷ e ∷ []) ≡ first_other width (e ∷ integer width c ∷ [])
  first_turned None f = first_is_later width (integer width c) (e ∷ []) c known ∙ first_is_other width e [] f ∙ sym (first_is_other width e (integer width c ∷ []) f)
  first_turned (Some a) f =
      first_is_later width (integer width c) (e ∷ []) c known ∙ first_is_later width e [] a f
      ∙ sym (first_is_later width e (integer width c ∷ []) a f ∙ first_is_later width (integer width c) [] c known)

  computed_turned : computed (integer width c) e ≡ computed e (integer width c)
  computed_turned =
      ap (λ q. option_map (number width) (of_two (binary operator flags (bits_of_width width)) q (bits_in width e))) known
      ∙ by (bits_in width e)
      ∙ ap (λ q. option_map (number width) (of_two (binary operator flags (bits_of_width width)) (bits_in width e) q)) (sym known)
    where
      by : (o : Option ℕ) → option_map (number width) (of_two (binary operator flags (bits_of_width width)) (Some c) o) ≡ option_map (number width) (of_two (binary operator flags (bits_of_width width)) o (Some c))
      by (Some a) = ap (option_map (number width)) (commutes.turned flags (bits_of_width width) c a)
      by None = refl

  number_turned : (o : Option ℤ) → number_or_first o width (integer width c) e ≡ number_or_first o width e (integer width c)
  number_turned (Some n) = refl
  number_turned None = first_turned (bits_in width e) refl

  outcome_turned : (q p s : Bool) (given : Option ℤ) → is_this (identity_at operator flags width).neutral e ≡ q → is_this (identity_at operator flags width).neutral (integer width c) ≡ p → (s ≡ true → integer width c ≡ e) → outcome q p s given width (integer width c) e ≡ outcome p q s given width e (integer width c)
  outcome_turned true true s given f g h = both_this (identity_at operator flags width).neutral (integer width c) e g f
  outcome_turned true false s given f g h = refl
  outcome_turned false true s given f g h = refl
  outcome_turned false false true given f g h = h refl
  outcome_turned false false false given f g h = number_turned given

  same_is : (s : Bool) → same_datum (integer width c) e ≡ s → s ≡ true → integer width c ≡ e
  same_is s f g = (same_decides (integer width c) e).0 (f ∙ g)

  -- the number and the datum in both orders
  pub whole_turned : whole_datum operator flags width (integer width c) e ≡ whole_datum operator flags width e (integer width c)
  whole_turned =
      ap₂ (λ p g. outcome (is_this (identity_at operator flags width).neutral e) p ((identity_at operator flags width).idempotent && same_datum (integer width c) e) (option_or g (computed (integer width c) e)) width (integer width c) e)
      (with_true (identity_at operator flags width).either_side (is_this (identity_at operator flags width).neutral (integer width c)) either)
      given_swaps
      ∙ ap (λ g. outcome (is_this (identity_at operator flags width).neutral e) (is_this (identity_at operator flags width).neutral (integer width c)) ((identity_at operator flags width).idempotent && same_datum (integer width c) e) (option_or (given_between (identity_at operator flags width) e (integer width c)) g) width (integer width c) e)
      computed_turned
      ∙ outcome_turned (is_this (identity_at operator flags width).neutral e) (is_this (identity_at operator flags width).neutral (integer width c)) ((identity_at operator flags width).idempotent && same_datum (integer width c) e) (option_or (given_between (identity_at operator flags width) e (integer width c)) (computed e (integer width c)))
      refl refl (λ s. same_is (same_datum (integer width c) e) refl (both_so (identity_at operator flags width).idempotent (same_datum (integer width c) e) s).1)
      ∙ ap₂ (λ p s. outcome (is_this (identity_at operator flags width).neutral (integer width c)) p ((identity_at operator flags width).idempotent && s) (option_or (given_between (identity_at operator flags width) e (integer width c)) (computed e (integer width c))) width e (integer width c))
      (sym (with_true (identity_at operator flags width).either_side (is_this (identity_at operator flags width).neutral e) either))
      (same_turned (integer width c) e)
    where
      either : (identity_at operator flags width).either_side ≡ true
      either = commutes.either flags width

      given_swaps : given_between (identity_at operator flags width) (integer width c) e ≡ given_between (identity_at operator flags width) e (integer width c)
      given_swaps =
          ap₂ (λ p s. given_by (identity_at operator flags width) (is_this (absorber_of (identity_at operator flags width)) e) p s)
          (with_true (identity_at operator flags width).either_side (is_this (absorber_of (identity_at operator flags width)) (integer width c)) either)
          (same_turned (integer width c) e)
          ∙ given_turned (identity_at operator flags width) (is_this (absorber_of (identity_at operator flags width)) e) (is_this (absorber_of (identity_at operator flags width)) (integer width c)) (same_datum e (integer width c))
          ∙ ap (λ p. given_by (identity_at operator flags width) (is_this (absorber_of (identity_at operator flags width)) (integer width c)) p (same_datum e (integer width c)))
          (sym (with_true (identity_at operator flags width).either_side (is_this (absorber_of (identity_at operator flags width)) e) either))

module _ {K : Type 0} (class_of : K → Class) (kind : Class → K) (value : Interpretation) (forth : (c : Class) → class_of (kind c) ≡ c) where
  -- what an operation gives, whatever its head says beside
  pub whole_gives : (operator : BinaryOperator) (head : Head) (s : Arithmetic) → SaysArithmetic operator head s → (d e : Datum) → result_datum (mlir_meaning class_of kind value) head (Some (d ∷ e ∷ [])) ≡ Some (whole_datum operator s.flags s.width d e)
  whole_gives operator head s says d e =
      arithmetic_as_said class_of kind value forth head operator s says d e
      ∙ by (is_this (identity_at operator s.flags s.width).neutral e) ((identity_at operator s.flags s.width).either_side && is_this (identity_at operator s.flags s.width).neutral d) ((identity_at operator s.flags s.width).idempotent && same_datum d e)
      (option_or (given_between (identity_at operator s.flags s.width) d e) (option_map (number s.width) (of_two (binary operator s.flags (bits_of_width s.width)) (bits_in s.width d) (bits_in s.width e))))
    where
      by : (behind before equal : Bool) (given : Option ℤ) → only_one (operand_left (d ∷ e ∷ []) (place_by behind before equal) (results_given (given_otherwise value) head (d ∷ e ∷ []) given)) ≡ Some (outcome behind before equal given s.width d e)
      by true before equal given = refl
      by false true equal given = refl
      by false false true given = refl
      by false false false (Some n) = refl
      by false false false None =
          ap only_one (otherwise_is class_of kind value forth head (Some (Binary operator)) says.class (d ∷ e ∷ []) None)
          ∙ ap (λ w. Some (first_other w (d ∷ e ∷ []))) says.width

  -- a number before a datum, or behind it
  pub order_gives : (operator : BinaryOperator) → Commutes operator → (head turned : Head) (s : Arithmetic) → SaysArithmetic operator head s → SaysArithmetic operator turned s → (c : ℕ) → c < 2 ^ bits_of_width s.width → (e : Datum) →
      result_datum (mlir_meaning class_of kind value) turned (Some (e ∷ integer s.width c ∷ [])) ≡ result_datum (mlir_meaning class_of kind value) head (Some (integer s.width c ∷ e ∷ []))
  order_gives operator commutes head turned s says other c lt e =
      whole_gives operator turned s other e (integer s.width c)
      ∙ ap Some (sym (whole_turned operator commutes s.flags s.width c says.is lt e))
      ∙ sym (whole_gives operator head s says (integer s.width c) e)
