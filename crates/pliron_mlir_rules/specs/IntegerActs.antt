-- What operations on integers give, by their heads.
use Rattle.std.proofs.Common.{◌≡◌, ℕ, zero, suc, ◌+◌, ◌-◌, ◌%◌, ◌^◌, ◌<◌, ◌≤◌, Bool, true, false, not, nat_eq, nat_lt, nat_le, ◌&&◌, ◌||◌, if◌then◌else◌, List, [], ◌∷◌, Option, Some, None, IsTrue, refl, ap, ap₂, sym, ◌∙◌, subst, arith, tests, ℤ, pos, negsuc}
use Rattle.std.specs.Option.{option_map, option_or}
use Rattle.std.specs.Ordering.{int_eq}
use Rattle.std.proofs.lemmas.Bool.Decides.{Decides-int_eq}
use Rattle.std.specs.Int.Bits.{xor_zero_l, xor_self}
use Rattle.std.proofs.Math.Nat.{zero-mod}
use Rattle.std.proofs.lemmas.Nat.{pow_pos, and_mask}
use Rattle.pliron_core.specs.declared.attrs.AttrObj.{AttrObj}
use Rattle.pliron_core.specs.declared.attrs.Head.{Head}
use Rattle.pliron_laws.specs.Datum.{Datum, Empty, Number, Text, Join, Meaning}
use Rattle.pliron_dialect.specs.Identities.{no_identity, same_datum, is_this, place_by, place_between, place_in, place_of_one, given_between, given_in}
use Rattle.pliron_dialect.specs.declared.identity.Absorption.{Absorption}
use Rattle.pliron_dialect.specs.declared.identity.Identity.{Identity}
use Rattle.pliron_dialect.specs.Roles.{Interpretation, role_at, allows_at, meaning_by, effects_by, effects_of, act_of, by_role, by_form, by_kind, form_of, ends_block, takes_by, no_act, operand_left, results_given}
use Rattle.pliron_bits.specs.declared.flags.Flags.{Flags}
use Rattle.pliron_bits.specs.declared.operators.BinaryOperator.{BinaryOperator}
use Rattle.pliron_bits.specs.declared.operators.BinaryOperator.TheVariants.{Add, Subtract, And, Xor}
use Rattle.pliron_bits.specs.declared.operators.Predicate.{Predicate}
use Rattle.pliron_bits.specs.declared.operators.Cast.{Cast}
use Rattle.pliron_bits.specs.declared.operators.Cast.TheVariants.{ZeroExtend, SignExtend, Truncate}
use Rattle.pliron_bits.specs.Numbers.{signed_value, is_signed}
use Rattle.pliron_bits.specs.Arithmetic.{unless_flagged, truncation, zero_extended, sign_extended}
use Rattle.pliron_bits.specs.Operators.{binary, comparison, cast_to, predicate_of_number}
use Rattle.pliron_dialect_mlir.specs.declared.kind.Class.{Class}
use Rattle.pliron_dialect_mlir.specs.declared.kind.Class.TheVariants.{Compare, Cast as CastClass, Binary}
use Rattle.pliron_dialect_mlir.specs.ClassNumbers.{number_of_class, class_of_number, numbered_class}
use Rattle.pliron_dialect_mlir.specs.Data.{is_width, bits_of_width, number, bits_at, some_if, bit}
use Rattle.pliron_dialect_mlir.specs.Heads.{attribute_at, width_at, flags_at}
use Rattle.pliron_dialect_mlir.specs.IntegerIdentities.{zero_at, all_ones_at, as_second, as_either, to_itself, with_absorbing, with_equal, truth_of_equal, identity_at}
use Rattle.pliron_dialect_mlir.specs.OtherData.{poison, first_other, passed_on, passing, given_otherwise}
use Rattle.pliron_dialect_mlir.specs.Classes.{mlir, allows_of_class, role_of_class, of_two, of_one, truth_of_two, cast_of}
use Rattle.pliron_rewrite_rules.specs.Insertions.{pure_shape}
use Rattle.pliron_rewrite_rules.specs.RuleLaws.{IsPureHead}
use Rattle.pliron_rewrite_rules.specs.Views.{only_given, only_one, result_datum}
use Rattle.pliron_dialect_mlir.specs.declared.computations.Arithmetic.{Arithmetic}
use Rattle.pliron_dialect_mlir.specs.declared.computations.Comparison.{Comparison}
use Rattle.pliron_dialect_mlir.specs.declared.computations.Conversion.{Conversion}
use Rattle.pliron_mlir_rules.specs.CastNumbers.{cast_bits}
use Rattle.pliron_mlir_rules.specs.HeadsSay.{both_so, SaysComparison, SaysConversion, SaysArithmetic}
use Rattle.pliron_mlir_rules.specs.Integers.{bits_in, integer, bits_alone, bits_back, some_bits, is_integer, below_size, first_is_other, first_is_later}
use Rattle.pliron_mlir_rules.specs.MlirRules.{is_plain_cast, wraps_freely}
use Rattle.pliron_mlir_rules.specs.MaskNumbers.{mask_fits, mask_not_all, mask_not_none, ones_cut, mask_cut}
use Rattle.pliron_mlir_rules.specs.SameData.{same_decides}
use Rattle.pliron_mlir_rules.specs.SumNumbers.{sum_with_zero, zero_with_sum, difference_of_equal}

-- what two data that aren't one give
abbrev pub unequal : (width : ℕ) → Predicate → (a b : Option ℕ) → (d e : Datum) → Datum
unequal width predicate (Some a) (Some b) d e = integer 1 (bit (comparison predicate (bits_of_width width) a b))
unequal width predicate (Some a) None d e = passed_on width 1 (first_other width (d ∷ e ∷ []))
unequal width predicate None b d e = passed_on width 1 (first_other width (d ∷ e ∷ []))

abbrev pub comparison_result_if : Bool → (width : ℕ) → Predicate → (d e : Datum) → Datum
comparison_result_if true width predicate d e = Number (truth_of_equal predicate)
comparison_result_if false width predicate d e = unequal width predicate (bits_in width d) (bits_in width e) d e

-- what a comparison gives
abbrev pub comparison_result : (width : ℕ) → Predicate → (d e : Datum) → Datum
comparison_result width predicate d e = comparison_result_if (same_datum d e) width predicate d e

-- what a cast without flags gives
abbrev pub cast_datum : Cast → (width to : ℕ) → Option ℕ → Datum → Datum
cast_datum cast width to (Some a) d = integer to (cast_bits cast (bits_of_width width) (bits_of_width to) a)
cast_datum cast width to None d = passed_on width to (first_other width (d ∷ []))

abbrev pub cast_result : Cast → (width to : ℕ) → Datum → Datum
cast_result cast width to d = cast_datum cast width to (bits_in width d) d

-- what arithmetic gives, where no operand is left and no number is given
abbrev pub number_or_poison : (width : ℕ) → Option ℕ → Datum
number_or_poison width (Some n) = integer width n
number_or_poison width None = poison

-- what arithmetic with a constant gives
abbrev pub computed_datum : BinaryOperator → Flags → (width : ℕ) → Option ℕ → Datum → (c : ℕ) → Datum
computed_datum operator flags width (Some a) d c = number_or_poison width (binary operator flags (bits_of_width width) a c)
computed_datum operator flags width None d c = d

abbrev pub constant_result : BinaryOperator → Flags → (width : ℕ) → Datum → (c : ℕ) → Datum
constant_result operator flags width d c = computed_datum operator flags width (bits_in width d) d c

less_or_equal : (a b : ℕ) → nat_lt a b ≡ true → nat_le a b ≡ true
less_or_equal a b lt = grind (arith, tests, lt)

apart : (width to : ℕ) → nat_lt (bits_of_width width) (bits_of_width to) ≡ true → nat_eq width to ≡ false
apart width to lt = go (nat_eq width to) refl
  where
    go : (b : Bool) → nat_eq width to ≡ b → nat_eq width to ≡ false
    go false e = e
    go true e =
        let same : width ≡ to = grind (arith, tests, e) in
        absurd (never (bits_of_width to) (subst (λ w. nat_lt (bits_of_width w) (bits_of_width to) ≡ true) same lt))
      where
        never : (n : ℕ) → nat_lt n n ≡ true → ⊥
        never n h = grind (arith, tests, h)

apart_back : (width to : ℕ) → nat_lt (bits_of_width to) (bits_of_width width) ≡ true → nat_eq width to ≡ false
apart_back width to lt = go (nat_eq width to) refl
  where
    go : (b : Bool) → nat_eq width to ≡ b → nat_eq width to ≡ false
    go false e = e
    go true e =
        let same : width ≡ to = grind (arith, tests, e) in
        absurd (never (bits_of_width to) (subst (λ w. nat_lt (bits_of_width to) (bits_of_width w) ≡ true) same lt))
      where
        never : (n : ℕ) → nat_lt n n ≡ true → ⊥
        never n h = grind (arith, tests, h)

pub and_none : (x : Bool) → x && false ≡ false
and_none true = refl
and_none false = refl

not_so : (x : Bool) → not x ≡ true → x ≡ false
not_so true e = absurd (grind (arith, e))
not_so false e = refl

plain_apart : (cast : Cast) (c : Conversion) → is_plain_cast cast c ≡ true → nat_eq c.width c.to ≡ false
plain_apart ZeroExtend c plain = apart c.width c.to (both_so (nat_lt (bits_of_width c.width) (bits_of_width c.to)) (not c.flags.nonnegative) plain).0
plain_apart SignExtend c plain = apart c.width c.to plain
plain_apart Truncate c plain = apart_back c.width c.to (both_so (nat_lt (bits_of_width c.to) (bits_of_width c.width)) (wraps_freely c.flags) plain).0

cast_computes : (cast : Cast) (c : Conversion) → is_plain_cast cast c ≡ true → (n : ℕ) → cast_to cast c.flags (bits_of_width c.width) (bits_of_width c.to) n ≡ Some (cast_bits cast (bits_of_width c.width) (bits_of_width c.to) n)
cast_computes ZeroExtend c plain n =
    let both = both_so (nat_lt (bits_of_width c.width) (bits_of_width c.to)) (not c.flags.nonnegative) plain in
    ap (λ b. if b then zero_extended c.flags (bits_of_width c.width) n else None) (less_or_equal (bits_of_width c.width) (bits_of_width c.to) both.0)
    ∙ ap (λ b. unless_flagged (b && nat_le (2 ^ (bits_of_width c.width - 1)) n) n) (not_so c.flags.nonnegative both.1)
cast_computes SignExtend c plain n = ap (λ b. if b then sign_extended (bits_of_width c.width) (bits_of_width c.to) n else None) (less_or_equal (bits_of_width c.width) (bits_of_width c.to) plain)
cast_computes Truncate c plain n =
    let both = both_so (nat_lt (bits_of_width c.to) (bits_of_width c.width)) (wraps_freely c.flags) plain in
    let free = both_so (not c.flags.no_signed_wrap) (not c.flags.no_unsigned_wrap) both.1 in
    ap (λ b. if b then truncation c.flags (bits_of_width c.width) (bits_of_width c.to) n else None) (less_or_equal (bits_of_width c.to) (bits_of_width c.width) both.0)
    ∙ ap₂ (λ x y. unless_flagged ((x && not (is_signed (bits_of_width c.to) (signed_value (bits_of_width c.width) n))) || (y && not (nat_lt n (2 ^ bits_of_width c.to)))) (n % 2 ^ bits_of_width c.to))
    (not_so c.flags.no_signed_wrap free.0) (not_so c.flags.no_unsigned_wrap free.1)

-- ---- what is left and given

pub is_that : (n : ℤ) (d : Datum) → is_this (Some n) d ≡ true → d ≡ Number n
is_that n Empty e = absurd (grind (arith, e))
is_that n (Number m) e = ap Number ((Decides-int_eq m n).0 e)
is_that n (Text t) e = absurd (grind (arith, e))
is_that n (Join a b) e = absurd (grind (arith, e))

pub itself : (n : ℤ) → int_eq n n ≡ true
itself n = (Decides-int_eq n n).1 refl

pub zero_is : (width : ℕ) → is_width width ≡ true → zero_at width ≡ Some (number width 0)
zero_is width is = ap (λ b. some_if b (number width 0)) is

-- 0 added, and added to
zero_behind : (flags : Flags) (width : ℕ) (d : Datum) → is_width width ≡ true → constant_result Add flags width d 0 ≡ d
zero_behind flags width d is = by (bits_in width d) refl
  where
    by : (o : Option ℕ) → bits_in width d ≡ o → computed_datum Add flags width o d 0 ≡ d
    by None e = refl
    by (Some a) e = ap (number_or_poison width) (sum_with_zero flags (bits_of_width width) a (some_bits width is) (below_size width d a e)) ∙ sym (is_integer width d a e)

zero_before : (flags : Flags) (width : ℕ) (c : ℕ) → is_width width ≡ true → c < 2 ^ bits_of_width width → constant_result Add flags width (integer width 0) c ≡ integer width c
zero_before flags width c is lt =
    ap (λ o. computed_datum Add flags width o (integer width 0) c) (bits_back width 0 is (pow_pos (bits_of_width width)))
    ∙ ap (number_or_poison width) (zero_with_sum flags (bits_of_width width) c (some_bits width is) lt)

equal_differ : (flags : Flags) (width : ℕ) (c : ℕ) → is_width width ≡ true → c < 2 ^ bits_of_width width → constant_result Subtract flags width (integer width c) c ≡ integer width 0
equal_differ flags width c is lt =
    ap (λ o. computed_datum Subtract flags width o (integer width c) c) (bits_back width c is lt)
    ∙ ap (number_or_poison width) (difference_of_equal flags (bits_of_width width) c lt)

-- masks and exclusions
pub ones_is : (width : ℕ) → is_width width ≡ true → all_ones_at width ≡ Some (number width (2 ^ bits_of_width width - 1))
ones_is width is = ap (λ b. some_if b (number width (2 ^ bits_of_width width - 1))) is

ones_masked : (flags : Flags) (width k : ℕ) → is_width width ≡ true → k < bits_of_width width → constant_result And flags width (integer width (2 ^ bits_of_width width - 1)) (2 ^ k - 1) ≡ integer width (2 ^ k - 1)
ones_masked flags width k is less =
    let some : 0 < 2 ^ bits_of_width width = pow_pos (bits_of_width width) in
    ap (λ o. computed_datum And flags width o (integer width (2 ^ bits_of_width width - 1)) (2 ^ k - 1)) (bits_back width (2 ^ bits_of_width width - 1) is (omega (arith, some)))
    ∙ ap (integer width) (and_mask (2 ^ bits_of_width width - 1) k ∙ ones_cut k (bits_of_width width) less)

same_masked : (flags : Flags) (width k : ℕ) (d : Datum) → is_width width ≡ true → k < bits_of_width width → d ≡ integer width (2 ^ k - 1) → d ≡ constant_result And flags width d (2 ^ k - 1)
same_masked flags width k d is less e =
    e ∙ sym (ap (λ x. constant_result And flags width x (2 ^ k - 1)) e
    ∙ ap (λ o. computed_datum And flags width o (integer width (2 ^ k - 1)) (2 ^ k - 1)) (bits_back width (2 ^ k - 1) is (mask_fits k (bits_of_width width) less))
    ∙ ap (integer width) (and_mask (2 ^ k - 1) k ∙ mask_cut k))

zero_masked : (flags : Flags) (width k : ℕ) → is_width width ≡ true → constant_result And flags width (integer width 0) (2 ^ k - 1) ≡ integer width 0
zero_masked flags width k is =
    ap (λ o. computed_datum And flags width o (integer width 0) (2 ^ k - 1)) (bits_back width 0 is (pow_pos (bits_of_width width)))
    ∙ ap (integer width) (and_mask 0 k ∙ zero-mod (2 ^ k))

pub zero_excluded : (flags : Flags) (width c : ℕ) → is_width width ≡ true → constant_result Xor flags width (integer width 0) c ≡ integer width c
zero_excluded flags width c is =
    ap (λ o. computed_datum Xor flags width o (integer width 0) c) (bits_back width 0 is (pow_pos (bits_of_width width)))
    ∙ ap (integer width) (xor_zero_l c)

pub equal_excluded : (flags : Flags) (width c : ℕ) → is_width width ≡ true → c < 2 ^ bits_of_width width → constant_result Xor flags width (integer width c) c ≡ integer width 0
equal_excluded flags width c is lt =
    ap (λ o. computed_datum Xor flags width o (integer width c) c) (bits_back width c is lt)
    ∙ ap (integer width) (xor_self c)

abbrev pub mlir_meaning : {K : Type 0} → (K → Class) → (Class → K) → Interpretation → Meaning
mlir_meaning class_of kind value = meaning_by (mlir class_of kind value).value (role_at (mlir class_of kind value)) (allows_at (mlir class_of kind value))

abbrev pub mlir_effects : {K : Type 0} → (K → Class) → (Class → K) → Interpretation → Head → Option Bool
mlir_effects class_of kind value = effects_by (role_at (mlir class_of kind value))

module _ {K : Type 0} (class_of : K → Class) (kind : Class → K) (value : Interpretation) (forth : (c : Class) → class_of (kind c) ≡ c) where
  pub role_is : (n : ℕ) (c : Class) → class_of_number n ≡ Some c → role_at (mlir class_of kind value) n ≡ Some (role_of_class c)
  role_is n c e = ap (λ o. option_map (λ k. role_of_class (class_of k)) (option_map kind o)) e ∙ ap (λ x. Some (role_of_class x)) (forth c)

  -- what is given otherwise is what the class passes on
  pub otherwise_is : (head : Head) (k : Option Class) → class_of_number head.kind ≡ k → (input : List Datum) (o : Option ℤ) → results_given (given_otherwise value) head input o ≡ results_given (passing k value) head input o
  otherwise_is head k e input None = ap (λ c. results_given (passing c value) head input None) e
  otherwise_is head k e input (Some n) = refl

  module _ (head : Head) where
    -- ---- comparisons

    abbrev equal_identity : Bool → Option Predicate → Identity
    equal_identity wide predicate = if wide then with_equal no_identity (option_map truth_of_equal predicate) else no_identity

    abbrev compare_parts : Bool → Option Predicate → (d e : Datum) → Option Datum
    compare_parts wide predicate d e =
        only_one (operand_left (d ∷ e ∷ []) (place_in (equal_identity wide predicate) (d ∷ e ∷ []))
        (results_given (given_otherwise value) head (d ∷ e ∷ []) (option_or (given_in (equal_identity wide predicate) (d ∷ e ∷ []))
        (option_map (number 1) (of_two (truth_of_two predicate (bits_of_width (width_at head.attrs 0))) (bits_in (width_at head.attrs 0) d) (bits_in (width_at head.attrs 0) e))))))

    pub compare_gives : (predicate : Predicate) → class_of_number head.kind ≡ Some Compare → predicate_of_number (attribute_at head.attrs 1) ≡ Some predicate → is_width (width_at head.attrs 0) ≡ true → (d e : Datum) → result_datum (mlir_meaning class_of kind value) head (Some (d ∷ e ∷ [])) ≡ Some (comparison_result (width_at head.attrs 0) predicate d e)
    unfolding meaning_by
    compare_gives predicate class named is d e =
        ap (λ r. only_given (by_role no_act (act_of (given_otherwise value)) r (pure_shape head 2) Empty (d ∷ e ∷ []))) (role_is head.kind Compare class)
        ∙ ap₂ (λ wide p. compare_parts wide p d e) is named
        ∙ last (same_datum d e)
      where
        give : Option ℤ → List Datum
        give o = results_given (given_otherwise value) head (d ∷ e ∷ []) o

        unequal_given : (a b : Option ℕ) →
            only_one (operand_left (d ∷ e ∷ []) None (give (option_map (number 1) (of_two (truth_of_two (Some predicate) (bits_of_width (width_at head.attrs 0))) a b))))
            ≡ Some (unequal (width_at head.attrs 0) predicate a b d e)
        unequal_given (Some a) (Some b) = refl
        unequal_given (Some a) None = ap only_one (otherwise_is head (Some Compare) class (d ∷ e ∷ []) None)
        unequal_given None b = ap only_one (otherwise_is head (Some Compare) class (d ∷ e ∷ []) None)

        last : (same : Bool) →
            only_one (operand_left (d ∷ e ∷ []) None (give (option_or (if same then Some (truth_of_equal predicate) else None)
            (option_map (number 1) (of_two (truth_of_two (Some predicate) (bits_of_width (width_at head.attrs 0))) (bits_in (width_at head.attrs 0) d) (bits_in (width_at head.attrs 0) e))))))
            ≡ Some (comparison_result_if same (width_at head.attrs 0) predicate d e)
        last true = refl
        last false = unequal_given (bits_in (width_at head.attrs 0) d) (bits_in (width_at head.attrs 0) e)

    pub comparison_gives : (c : Comparison) → SaysComparison head c → (d e : Datum) → result_datum (mlir_meaning class_of kind value) head (Some (d ∷ e ∷ [])) ≡ Some (comparison_result c.width c.predicate d e)
    comparison_gives c says d e =
        compare_gives c.predicate says.class says.predicate (ap is_width says.width ∙ says.is) d e
        ∙ ap (λ w. Some (comparison_result w c.predicate d e)) says.width

    -- ---- casts

    abbrev cast_parts : Cast → Flags → Bool → Option ℕ → Datum → Option Datum
    cast_parts cast flags only a d =
        only_one (operand_left (d ∷ []) (place_of_one only) (results_given (given_otherwise value) head (d ∷ [])
        (option_map (number (width_at head.attrs 1)) (of_one (cast_of cast flags (width_at head.attrs 0) (width_at head.attrs 1)) a))))

    cast_as_said : (cast : Cast) (c : Conversion) → SaysConversion cast head c → is_plain_cast cast c ≡ true → (d : Datum) → result_datum (mlir_meaning class_of kind value) head (Some (d ∷ [])) ≡ Some (cast_result cast (width_at head.attrs 0) (width_at head.attrs 1) d)
    unfolding meaning_by
    cast_as_said cast c says plain d =
        ap (λ r. only_given (by_role no_act (act_of (given_otherwise value)) r (pure_shape head 1) Empty (d ∷ []))) (role_is head.kind (CastClass cast) says.class)
        ∙ ap₂ (λ f only. cast_parts cast f only (bits_in (width_at head.attrs 0) d) d) says.flags no_identity
        ∙ last (bits_in (width_at head.attrs 0) d)
      where
        no_identity : is_width (width_at head.attrs 0) && nat_eq (width_at head.attrs 0) (width_at head.attrs 1) ≡ false
        no_identity =
            ap₂ (λ v w. is_width v && nat_eq v w) says.from says.to
            ∙ ap (λ x. is_width c.width && x) (plain_apart cast c plain)
            ∙ and_none (is_width c.width)

        computed : (n : ℕ) → cast_of cast c.flags (width_at head.attrs 0) (width_at head.attrs 1) n ≡ Some (cast_bits cast (bits_of_width (width_at head.attrs 0)) (bits_of_width (width_at head.attrs 1)) n)
        computed n =
            ap₂ (λ v w. cast_of cast c.flags v w n) says.from says.to
            ∙ ap (λ b. if b then cast_to cast c.flags (bits_of_width c.width) (bits_of_width c.to) n else None) says.wide
            ∙ cast_computes cast c plain n
            ∙ ap₂ (λ v w. Some (cast_bits cast (bits_of_width v) (bits_of_width w) n)) (sym says.from) (sym says.to)

        last : (a : Option ℕ) → cast_parts cast c.flags false a d ≡ Some (cast_datum cast (width_at head.attrs 0) (width_at head.attrs 1) a d)
        last (Some n) = ap (λ o. only_one (results_given (given_otherwise value) head (d ∷ []) (option_map (number (width_at head.attrs 1)) o))) (computed n)
        last None = ap only_one (otherwise_is head (Some (CastClass cast)) says.class (d ∷ []) None)

    pub cast_gives : (cast : Cast) (c : Conversion) → SaysConversion cast head c → is_plain_cast cast c ≡ true → (d : Datum) → result_datum (mlir_meaning class_of kind value) head (Some (d ∷ [])) ≡ Some (cast_result cast c.width c.to d)
    cast_gives cast c says plain d = cast_as_said cast c says plain d ∙ ap₂ (λ v w. Some (cast_result cast v w d)) says.from says.to

    -- ---- arithmetic

    abbrev pub arithmetic_parts : BinaryOperator → Identity → Flags → (width : ℕ) → (d e : Datum) → Option Datum
    arithmetic_parts operator identity flags width d e =
        only_one (operand_left (d ∷ e ∷ []) (place_between identity d e) (results_given (given_otherwise value) head (d ∷ e ∷ [])
        (option_or (given_between identity d e) (option_map (number width) (of_two (binary operator flags (bits_of_width width)) (bits_in width d) (bits_in width e))))))

    pub arithmetic_as_said : (operator : BinaryOperator) (s : Arithmetic) → SaysArithmetic operator head s → (d e : Datum) → result_datum (mlir_meaning class_of kind value) head (Some (d ∷ e ∷ [])) ≡ arithmetic_parts operator (identity_at operator s.flags s.width) s.flags s.width d e
    unfolding meaning_by
    arithmetic_as_said operator s says d e =
        ap (λ r. only_given (by_role no_act (act_of (given_otherwise value)) r (pure_shape head 2) Empty (d ∷ e ∷ []))) (role_is head.kind (Binary operator) says.class)
        ∙ ap₂ (λ f w. arithmetic_parts operator (identity_at operator f w) f w d e) says.flags says.width

    -- what is computed
    computed_is : (operator : BinaryOperator) (s : Arithmetic) → SaysArithmetic operator head s → (d : Datum) (c : ℕ) → c < 2 ^ bits_of_width s.width →
        only_one (results_given (given_otherwise value) head (d ∷ integer s.width c ∷ []) (option_map (number s.width) (of_two (binary operator s.flags (bits_of_width s.width)) (bits_in s.width d) (bits_in s.width (integer s.width c)))))
        ≡ Some (constant_result operator s.flags s.width d c)
    computed_is operator s says d c lt =
        ap (λ q. given (option_map (number s.width) (of_two (binary operator s.flags (bits_of_width s.width)) (bits_in s.width d) q))) (bits_back s.width c says.is lt)
        ∙ by (bits_in s.width d) refl
      where
        given : Option ℤ → Option Datum
        given o = only_one (results_given (given_otherwise value) head (d ∷ integer s.width c ∷ []) o)

        passed : given None ≡ Some (first_other s.width (d ∷ integer s.width c ∷ []))
        passed =
            ap only_one (otherwise_is head (Some (Binary operator)) says.class (d ∷ integer s.width c ∷ []) None)
            ∙ ap (λ w. Some (first_other w (d ∷ integer s.width c ∷ []))) says.width

        number_is : (a : ℕ) → bits_in s.width d ≡ Some a → (o : Option ℕ) → given (option_map (number s.width) o) ≡ Some (number_or_poison s.width o)
        number_is a e (Some n) = refl
        number_is a e None =
            passed
            ∙ ap Some (first_is_later s.width d (integer s.width c ∷ []) a e ∙ first_is_later s.width (integer s.width c) [] c (bits_back s.width c says.is lt))

        by : (o : Option ℕ) → bits_in s.width d ≡ o → given (option_map (number s.width) (of_two (binary operator s.flags (bits_of_width s.width)) o (Some c))) ≡ Some (computed_datum operator s.flags s.width o d c)
        by (Some a) e = number_is a e (binary operator s.flags (bits_of_width s.width) a c)
        by None e = passed ∙ ap Some (first_is_other s.width d (integer s.width c ∷ []) e)

    pub sum_gives : (s : Arithmetic) → SaysArithmetic Add head s → (d : Datum) (c : ℕ) → c < 2 ^ bits_of_width s.width → result_datum (mlir_meaning class_of kind value) head (Some (d ∷ integer s.width c ∷ [])) ≡ Some (constant_result Add s.flags s.width d c)
    sum_gives s says d c lt =
        arithmetic_as_said Add s says d (integer s.width c)
        ∙ ap (λ z. arithmetic_parts Add (as_either z false) s.flags s.width d (integer s.width c)) (zero_is s.width says.is)
        ∙ by (is_this (Some (number s.width 0)) (integer s.width c)) (is_this (Some (number s.width 0)) d) (same_datum d (integer s.width c)) refl refl
      where
        parts : (behind before same : Bool) → Option Datum
        parts behind before same =
            only_one (operand_left (d ∷ integer s.width c ∷ []) (place_by behind before false) (results_given (given_otherwise value) head (d ∷ integer s.width c ∷ [])
            (option_or (if same then None else None) (option_map (number s.width) (of_two (binary Add s.flags (bits_of_width s.width)) (bits_in s.width d) (bits_in s.width (integer s.width c)))))))

        by : (behind before same : Bool) → is_this (Some (number s.width 0)) (integer s.width c) ≡ behind → is_this (Some (number s.width 0)) d ≡ before → parts behind before same ≡ Some (constant_result Add s.flags s.width d c)
        by true before same e f =
            let none : c ≡ 0 = bits_alone s.width c 0 (is_that (number s.width 0) (integer s.width c) e) in
            ap Some (sym (zero_behind s.flags s.width d says.is) ∙ ap (constant_result Add s.flags s.width d) (sym none))
        by false true same e f =
            ap Some (sym (zero_before s.flags s.width c says.is lt) ∙ ap (λ x. constant_result Add s.flags s.width x c) (sym (is_that (number s.width 0) d f)))
        by false false true e f = computed_is Add s says d c lt
        by false false false e f = computed_is Add s says d c lt

    -- the low bits, fewer than all
    pub mask_gives : (s : Arithmetic) → SaysArithmetic And head s → (d : Datum) (k : ℕ) → 1 ≤ k → k < bits_of_width s.width → result_datum (mlir_meaning class_of kind value) head (Some (d ∷ integer s.width (2 ^ k - 1) ∷ [])) ≡ Some (constant_result And s.flags s.width d (2 ^ k - 1))
    mask_gives s says d k some less =
        arithmetic_as_said And s says d (integer s.width (2 ^ k - 1))
        ∙ ap₂ (λ z n. arithmetic_parts And (with_absorbing (as_either n true) z) s.flags s.width d (integer s.width (2 ^ k - 1))) (zero_is s.width says.is) (ones_is s.width says.is)
        ∙ ap (λ b. parts (is_this ones (integer s.width (2 ^ k - 1))) (is_this ones d) (same_datum d (integer s.width (2 ^ k - 1))) b) (itself (number s.width 0))
        ∙ by (is_this ones (integer s.width (2 ^ k - 1))) (is_this ones d) (same_datum d (integer s.width (2 ^ k - 1))) (is_this zero_number (integer s.width (2 ^ k - 1))) (is_this zero_number d) refl refl refl refl refl
      where
        ones : Option ℤ
        ones = Some (number s.width (2 ^ bits_of_width s.width - 1))

        zero_number : Option ℤ
        zero_number = Some (number s.width 0)

        lt : 2 ^ k - 1 < 2 ^ bits_of_width s.width
        lt = mask_fits k (bits_of_width s.width) less

        -- what absorbs, where it gives itself
        absorber : Bool → Option Absorption
        absorber b = if true && not b then None else Some (to_itself (number s.width 0))

        given_number : (b second first same : Bool) → Option ℤ
        given_number b second first same =
            if second then option_map (λ a. a.result) (absorber b) else if first then option_map (λ a. a.result) (absorber b) else if same then None else None

        whole : (behind before same : Bool) → Option ℤ → Option Datum
        whole behind before same given =
            only_one (operand_left (d ∷ integer s.width (2 ^ k - 1) ∷ []) (place_by behind before same) (results_given (given_otherwise value) head (d ∷ integer s.width (2 ^ k - 1) ∷ [])
            (option_or given (option_map (number s.width) (of_two (binary And s.flags (bits_of_width s.width)) (bits_in s.width d) (bits_in s.width (integer s.width (2 ^ k - 1))))))))

        parts : (behind before same agrees : Bool) → Option Datum
        parts behind before same agrees =
            whole behind before same
            (given_number agrees (is_this (option_map (λ a. a.operand) (absorber agrees)) (integer s.width (2 ^ k - 1))) (is_this (option_map (λ a. a.operand) (absorber agrees)) d) same)

        by : (behind before same absorbs absorbed : Bool) → is_this ones (integer s.width (2 ^ k - 1)) ≡ behind → is_this ones d ≡ before → same_datum d (integer s.width (2 ^ k - 1)) ≡ same → is_this zero_number (integer s.width (2 ^ k - 1)) ≡ absorbs → is_this zero_number d ≡ absorbed → whole behind before same (given_number true absorbs absorbed same) ≡ Some (constant_result And s.flags s.width d (2 ^ k - 1))
        by true before same absorbs absorbed e f g h i =
            let all : 2 ^ k - 1 ≡ 2 ^ bits_of_width s.width - 1 = bits_alone s.width (2 ^ k - 1) (2 ^ bits_of_width s.width - 1) (is_that (number s.width (2 ^ bits_of_width s.width - 1)) (integer s.width (2 ^ k - 1)) e) in
            absurd (mask_not_all k (bits_of_width s.width) less all)
        by false true same absorbs absorbed e f g h i =
            ap Some (sym (ones_masked s.flags s.width k says.is less) ∙ ap (λ x. constant_result And s.flags s.width x (2 ^ k - 1)) (sym (is_that (number s.width (2 ^ bits_of_width s.width - 1)) d f)))
        by false false true absorbs absorbed e f g h i =
            ap Some (same_masked s.flags s.width k d says.is less ((same_decides d (integer s.width (2 ^ k - 1))).0 g))
        by false false false true absorbed e f g h i =
            let none : 2 ^ k - 1 ≡ 0 = bits_alone s.width (2 ^ k - 1) 0 (is_that (number s.width 0) (integer s.width (2 ^ k - 1)) h) in
            absurd (mask_not_none k some none)
        by false false false false true e f g h i =
            ap Some (sym (zero_masked s.flags s.width k says.is) ∙ ap (λ x. constant_result And s.flags s.width x (2 ^ k - 1)) (sym (is_that (number s.width 0) d i)))
        by false false false false false e f g h i = computed_is And s says d (2 ^ k - 1) lt

    -- exclusion
    pub exclusion_gives : (s : Arithmetic) → SaysArithmetic Xor head s → (d : Datum) (c : ℕ) → 0 < c → c < 2 ^ bits_of_width s.width → result_datum (mlir_meaning class_of kind value) head (Some (d ∷ integer s.width c ∷ [])) ≡ Some (constant_result Xor s.flags s.width d c)
    exclusion_gives s says d c some lt =
        arithmetic_as_said Xor s says d (integer s.width c)
        ∙ ap (λ z. arithmetic_parts Xor (with_equal (as_either z false) z) s.flags s.width d (integer s.width c)) (zero_is s.width says.is)
        ∙ ap (λ b. parts (is_this (Some (number s.width 0)) (integer s.width c)) (is_this (Some (number s.width 0)) d) (same_datum d (integer s.width c)) b) (itself (number s.width 0))
        ∙ by (is_this (Some (number s.width 0)) (integer s.width c)) (is_this (Some (number s.width 0)) d) (same_datum d (integer s.width c)) refl refl refl
      where
        parts : (behind before same agrees : Bool) → Option Datum
        parts behind before same agrees =
            only_one (operand_left (d ∷ integer s.width c ∷ []) (place_by behind before false) (results_given (given_otherwise value) head (d ∷ integer s.width c ∷ [])
            (option_or (if same then (if agrees && true then Some (number s.width 0) else None) else None) (option_map (number s.width) (of_two (binary Xor s.flags (bits_of_width s.width)) (bits_in s.width d) (bits_in s.width (integer s.width c)))))))

        by : (behind before same : Bool) → is_this (Some (number s.width 0)) (integer s.width c) ≡ behind → is_this (Some (number s.width 0)) d ≡ before → same_datum d (integer s.width c) ≡ same → parts behind before same true ≡ Some (constant_result Xor s.flags s.width d c)
        by true before same e f g =
            let none : c ≡ 0 = bits_alone s.width c 0 (is_that (number s.width 0) (integer s.width c) e) in
            absurd (omega (arith, some, none))
        by false true same e f g =
            ap Some (sym (zero_excluded s.flags s.width c says.is) ∙ ap (λ x. constant_result Xor s.flags s.width x c) (sym (is_that (number s.width 0) d f)))
        by false false true e f g =
            ap Some (sym (equal_excluded s.flags s.width c says.is lt) ∙ ap (λ x. constant_result Xor s.flags s.width x c) (sym ((same_decides d (integer s.width c)).0 g)))
        by false false false e f g = computed_is Xor s says d c lt

    pub difference_gives : (s : Arithmetic) → SaysArithmetic Subtract head s → (d : Datum) (c : ℕ) → 0 < c → c < 2 ^ bits_of_width s.width → result_datum (mlir_meaning class_of kind value) head (Some (d ∷ integer s.width c ∷ [])) ≡ Some (constant_result Subtract s.flags s.width d c)
    difference_gives s says d c some lt =
        arithmetic_as_said Subtract s says d (integer s.width c)
        ∙ ap (λ z. arithmetic_parts Subtract (with_equal (as_second z) z) s.flags s.width d (integer s.width c)) (zero_is s.width says.is)
        ∙ ap (λ b. parts (is_this (Some (number s.width 0)) (integer s.width c)) (same_datum d (integer s.width c)) b) (itself (number s.width 0))
        ∙ by (is_this (Some (number s.width 0)) (integer s.width c)) (same_datum d (integer s.width c)) refl refl
      where
        parts : (behind same agrees : Bool) → Option Datum
        parts behind same agrees =
            only_one (operand_left (d ∷ integer s.width c ∷ []) (place_by behind false false) (results_given (given_otherwise value) head (d ∷ integer s.width c ∷ [])
            (option_or (if same then (if agrees && true then Some (number s.width 0) else None) else None) (option_map (number s.width) (of_two (binary Subtract s.flags (bits_of_width s.width)) (bits_in s.width d) (bits_in s.width (integer s.width c)))))))

        by : (behind same : Bool) → is_this (Some (number s.width 0)) (integer s.width c) ≡ behind → same_datum d (integer s.width c) ≡ same → parts behind same true ≡ Some (constant_result Subtract s.flags s.width d c)
        by true same e f =
            let none : c ≡ 0 = bits_alone s.width c 0 (is_that (number s.width 0) (integer s.width c) e) in
            absurd (omega (arith, some, none))
        by false true e f =
            ap Some (sym (equal_differ s.flags s.width c says.is lt) ∙ ap (λ x. constant_result Subtract s.flags s.width x c) (sym ((same_decides d (integer s.width c)).0 f)))
        by false false e f = computed_is Subtract s says d c lt

  -- ---- such operations are pure

  pub pure_comparison : (head : Head) → class_of_number head.kind ≡ Some Compare → IsPureHead (mlir_meaning class_of kind value) (mlir_effects class_of kind value) head 2
  unfolding meaning_by effects_by
  pure_comparison head class = record {
    admitted = ap₂ (λ r k. by_role false (takes_by head 2 1 0 0) r && by_kind (λ c. allows_of_class (class_of c)) k head 2 1 0 0) (role_is head.kind Compare class) (ap (option_map kind) class)
        ∙ ap (λ c. allows_of_class c head 2 1 0 0) (forth Compare);
    no_terminator = ap (λ r. by_form false ends_block (option_map form_of r)) (role_is head.kind Compare class);
    harmless = ap (λ r. by_form None effects_of (option_map form_of r)) (role_is head.kind Compare class);
  }

  pub pure_cast : (cast : Cast) (head : Head) → class_of_number head.kind ≡ Some (CastClass cast) → IsPureHead (mlir_meaning class_of kind value) (mlir_effects class_of kind value) head 1
  unfolding meaning_by effects_by
  pure_cast cast head class = record {
    admitted = ap₂ (λ r k. by_role false (takes_by head 1 1 0 0) r && by_kind (λ c. allows_of_class (class_of c)) k head 1 1 0 0) (role_is head.kind (CastClass cast) class) (ap (option_map kind) class)
        ∙ ap (λ c. allows_of_class c head 1 1 0 0) (forth (CastClass cast));
    no_terminator = ap (λ r. by_form false ends_block (option_map form_of r)) (role_is head.kind (CastClass cast) class);
    harmless = ap (λ r. by_form None effects_of (option_map form_of r)) (role_is head.kind (CastClass cast) class);
  }

  pub pure_arithmetic : (operator : BinaryOperator) (head : Head) → class_of_number head.kind ≡ Some (Binary operator) → IsPureHead (mlir_meaning class_of kind value) (mlir_effects class_of kind value) head 2
  unfolding meaning_by effects_by
  pure_arithmetic operator head class = record {
    admitted = ap₂ (λ r k. by_role false (takes_by head 2 1 0 0) r && by_kind (λ c. allows_of_class (class_of c)) k head 2 1 0 0) (role_is head.kind (Binary operator) class) (ap (option_map kind) class)
        ∙ ap (λ c. allows_of_class c head 2 1 0 0) (forth (Binary operator));
    no_terminator = ap (λ r. by_form false ends_block (option_map form_of r)) (role_is head.kind (Binary operator) class);
    harmless = ap (λ r. by_form None effects_of (option_map form_of r)) (role_is head.kind (Binary operator) class);
  }
