-- What operations bit by bit with a constant give, whatever the other datum is.
use Rattle.std.proofs.Common.{◌≡◌, ℕ, ◌-◌, ◌^◌, ◌<◌, ◌≤◌, Bool, true, false, not, nat_eq, ◌&&◌, if◌then◌else◌, Option, Some, None, refl, sym, ap, ap₂, ◌∙◌, arith, ℤ}
use Rattle.std.specs.Prelude.{bit_and, bit_or}
use Rattle.std.specs.Int.Bits.{and_self, or_self, or_zero_l, or_zero_r, xor_zero_r}
use Rattle.std.specs.Option.{option_map, option_or}
use Rattle.std.proofs.lemmas.Nat.{and_comm, and_le_l, pow_pos}
use Rattle.pliron_laws.specs.Datum.{Datum}
use Rattle.pliron_dialect.specs.Identities.{same_datum, is_this, given_between}
use Rattle.pliron_dialect.specs.declared.identity.Identity.{Identity}
use Rattle.pliron_bits.specs.declared.flags.Flags.{Flags}
use Rattle.pliron_bits.specs.declared.operators.BinaryOperator.{BinaryOperator}
use Rattle.pliron_bits.specs.declared.operators.BinaryOperator.TheVariants.{And, Or, Xor}
use Rattle.pliron_bits.specs.Arithmetic.{unless_flagged}
use Rattle.pliron_bits.specs.Operators.{binary}
use Rattle.pliron_dialect_mlir.specs.Data.{is_width, bits_of_width, number}
use Rattle.pliron_dialect_mlir.specs.IntegerIdentities.{identity_at, or_identity, as_either, to_itself, with_absorbing, with_equal}
use Rattle.pliron_dialect_mlir.specs.Classes.{of_two}
use Rattle.pliron_mlir_rules.specs.BitNumbers.{ones_keep, ones_take}
use Rattle.pliron_mlir_rules.specs.ConstantArithmetic.{other_number, computed_first}
use Rattle.pliron_mlir_rules.specs.IntegerActs.{number_or_poison, computed_datum, constant_result, is_that, itself, zero_is, ones_is, zero_excluded, equal_excluded}
use Rattle.pliron_mlir_rules.specs.Integers.{bits_in, integer, bits_alone, bits_back, is_integer, below_size}
use Rattle.pliron_mlir_rules.specs.OperandOrders.{outcome, whole_datum}
use Rattle.pliron_mlir_rules.specs.SameData.{same_decides}

-- an operator of numbers of which one leaves the other, and one absorbs it
pub record IsMask (operator : BinaryOperator) (flags : Flags) (width n z : ℕ) (f : (a b : ℕ) → ℕ) : Type 0 where
  pub identity : identity_at operator flags width ≡ with_absorbing (as_either (Some (number width n)) true) (Some (number width z))
  pub computes : (a b : ℕ) → binary operator flags (bits_of_width width) a b ≡ Some (f a b)
  pub leaves_first : (a : ℕ) → a < 2 ^ bits_of_width width → f a n ≡ a
  pub leaves_second : (a : ℕ) → a < 2 ^ bits_of_width width → f n a ≡ a
  pub twice : (a : ℕ) → f a a ≡ a
  pub absorbed : (a : ℕ) → a < 2 ^ bits_of_width width → f z a ≡ z
  pub neutral_fits : n < 2 ^ bits_of_width width
  pub absorbing_fits : z < 2 ^ bits_of_width width

module _ (operator : BinaryOperator) (flags : Flags) (width c : ℕ) (is : is_width width ≡ true) (lt : c < 2 ^ bits_of_width width) (d : Datum) where
  abbrev computed : Option ℤ
  computed = option_map (number width) (of_two (binary operator flags (bits_of_width width)) (bits_in width d) (bits_in width (integer width c)))

  abbrev by_identity : Identity → Datum
  by_identity i =
      outcome (is_this i.neutral (integer width c)) (i.either_side && is_this i.neutral d) (i.idempotent && same_datum d (integer width c)) (option_or (given_between i d (integer width c)) computed) width d (integer width c)

  -- what is computed of a number
  computes_of : (a r : ℕ) → a < 2 ^ bits_of_width width → d ≡ integer width a → binary operator flags (bits_of_width width) a c ≡ Some r → integer width r ≡ constant_result operator flags width d c
  computes_of a r fits e f =
      sym (ap (λ x. constant_result operator flags width x c) e
      ∙ ap (λ o. computed_datum operator flags width o (integer width a) c) (bits_back width a is fits)
      ∙ ap (number_or_poison width) f)

  pub mask_whole : (n z : ℕ) (f : (a b : ℕ) → ℕ) → IsMask operator flags width n z f → (z ≡ c → ⊥) → whole_datum operator flags width d (integer width c) ≡ constant_result operator flags width d c
  mask_whole n z f mask apart =
      ap by_identity mask.identity
      ∙ ap (λ x. parts (is_this neutral (integer width c)) (is_this neutral d) (same_datum d (integer width c)) (is_this (absorbing_if x) (integer width c)) (is_this (absorbing_if x) d) x) (itself (number width z))
      ∙ ap (λ q. parts (is_this neutral (integer width c)) (is_this neutral d) (same_datum d (integer width c)) q (is_this (Some (number width z)) d) true) (other_number width z c apart)
      ∙ by (is_this neutral (integer width c)) refl (is_this neutral d) refl (same_datum d (integer width c)) refl (is_this (Some (number width z)) d) refl
    where
      neutral : Option ℤ
      neutral = Some (number width n)

      absorbing_if : Bool → Option ℤ
      absorbing_if agrees = option_map (λ a. a.operand) (if true && not agrees then None else Some (to_itself (number width z)))

      parts : (behind before same second first agrees : Bool) → Datum
      parts behind before same second first agrees =
          outcome behind before same (option_or (if second then result_if agrees else if first then result_if agrees else if same then None else None) computed) width d (integer width c)
        where
          result_if : Bool → Option ℤ
          result_if agrees = option_map (λ a. a.result) (if true && not agrees then None else Some (to_itself (number width z)))

      left : c ≡ n → (o : Option ℕ) → bits_in width d ≡ o → d ≡ computed_datum operator flags width o d c
      left e None g = refl
      left e (Some a) g = is_integer width d a g ∙ sym (ap (number_or_poison width) (mask.computes a c ∙ ap Some (ap (f a) e ∙ mask.leaves_first a (below_size width d a g))))

      by : (behind : Bool) → is_this neutral (integer width c) ≡ behind → (before : Bool) → is_this neutral d ≡ before → (same : Bool) → same_datum d (integer width c) ≡ same → (first : Bool) → is_this (Some (number width z)) d ≡ first → parts behind before same false first true ≡ constant_result operator flags width d c
      by true e before g same h first i = left (bits_alone width c n (is_that (number width n) (integer width c) e)) (bits_in width d) refl
      by false e true g same h first i = computes_of n c mask.neutral_fits (is_that (number width n) d g) (mask.computes n c ∙ ap Some (mask.leaves_second c lt))
      by false e false g true h first i =
          let equal : d ≡ integer width c = (same_decides d (integer width c)).0 h in
          equal ∙ computes_of c c lt equal (mask.computes c c ∙ ap Some (mask.twice c))
      by false e false g false h true i = computes_of z z mask.absorbing_fits (is_that (number width z) d i) (mask.computes z c ∙ ap Some (mask.absorbed c lt))
      by false e false g false h false i = computed_first operator flags width c is lt d

module _ (flags : Flags) (width c : ℕ) (is : is_width width ≡ true) (lt : c < 2 ^ bits_of_width width) (d : Datum) where
  some : 0 < 2 ^ bits_of_width width
  some = pow_pos (bits_of_width width)

  ones_fit : 2 ^ bits_of_width width - 1 < 2 ^ bits_of_width width
  ones_fit = omega (arith, some)

  pub conjunction_whole : (0 ≡ c → ⊥) → whole_datum And flags width d (integer width c) ≡ constant_result And flags width d c
  conjunction_whole = mask_whole And flags width c is lt d (2 ^ bits_of_width width - 1) 0 bit_and (record {
    identity = ap₂ (λ n z. with_absorbing (as_either n true) z) (ones_is width is) (zero_is width is);
    computes = λ a b. refl;
    leaves_first = λ a fits. ones_keep (bits_of_width width) a fits;
    leaves_second = λ a fits. and_comm (2 ^ bits_of_width width - 1) a ∙ ones_keep (bits_of_width width) a fits;
    twice = λ a. and_self a;
    absorbed = λ a fits. none a;
    neutral_fits = ones_fit;
    absorbing_fits = some;
  })
    where
      none : (a : ℕ) → bit_and 0 a ≡ 0
      none a = let le : bit_and 0 a ≤ 0 = and_le_l 0 a in omega (arith, le)

  pub disjunction_whole : flags.disjoint ≡ false → (2 ^ bits_of_width width - 1 ≡ c → ⊥) → whole_datum Or flags width d (integer width c) ≡ constant_result Or flags width d c
  disjunction_whole joint = mask_whole Or flags width c is lt d 0 (2 ^ bits_of_width width - 1) bit_or (record {
    identity = ap (λ b. or_identity b width) joint ∙ ap₂ (λ n z. with_absorbing (as_either n true) z) (zero_is width is) (ones_is width is);
    computes = λ a b. ap (λ x. unless_flagged (x && not (nat_eq (bit_and a b) 0)) (bit_or a b)) joint;
    leaves_first = λ a fits. or_zero_r a;
    leaves_second = λ a fits. or_zero_l a;
    twice = λ a. or_self a;
    absorbed = λ a fits. ones_take (bits_of_width width) a fits;
    neutral_fits = some;
    absorbing_fits = ones_fit;
  })

  pub exclusion_whole : whole_datum Xor flags width d (integer width c) ≡ constant_result Xor flags width d c
  exclusion_whole =
      ap (by_identity Xor flags width c is lt d) (ap (λ z. with_equal (as_either z false) z) (zero_is width is))
      ∙ ap (λ x. parts (is_this (Some (number width 0)) (integer width c)) (is_this (Some (number width 0)) d) (same_datum d (integer width c)) x) (itself (number width 0))
      ∙ by (is_this (Some (number width 0)) (integer width c)) refl (is_this (Some (number width 0)) d) refl (same_datum d (integer width c)) refl
    where
      parts : (behind before same agrees : Bool) → Datum
      parts behind before same agrees =
          outcome behind before false (option_or (if same then (if agrees && true then Some (number width 0) else None) else None) (computed Xor flags width c is lt d)) width d (integer width c)

      left : c ≡ 0 → (o : Option ℕ) → bits_in width d ≡ o → d ≡ computed_datum Xor flags width o d c
      left e None g = refl
      left e (Some a) g = is_integer width d a g ∙ sym (ap (λ n. computed_datum Xor flags width (Some a) d n) e ∙ ap (integer width) (xor_zero_r a))

      by : (behind : Bool) → is_this (Some (number width 0)) (integer width c) ≡ behind → (before : Bool) → is_this (Some (number width 0)) d ≡ before → (same : Bool) → same_datum d (integer width c) ≡ same → parts behind before same true ≡ constant_result Xor flags width d c
      by true e before g same h = left (bits_alone width c 0 (is_that (number width 0) (integer width c) e)) (bits_in width d) refl
      by false e true g same h = sym (ap (λ x. constant_result Xor flags width x c) (is_that (number width 0) d g) ∙ zero_excluded flags width c is)
      by false e false g true h = sym (ap (λ x. constant_result Xor flags width x c) ((same_decides d (integer width c)).0 h) ∙ equal_excluded flags width c is lt)
      by false e false g false h = computed_first Xor flags width c is lt d
