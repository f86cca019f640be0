-- What extensions tell of the numbers that they extend.
use Rattle.std.proofs.Common.{◌≡◌, ℕ, ◌+◌, ◌-◌, ◌%◌, ◌^◌, ◌<◌, ◌≤◌, ◌⊎◌, inl, inr, Bool, true, false, not, nat_eq, nat_lt, nat_le, if◌then◌else◌, Option, Some, None, refl, ap, ap₂, sym, ◌∙◌, subst, arith, tests}
use Rattle.std.specs.Prelude.{int_lt}
use Rattle.std.proofs.Math.Nat.{mod-eq_of_lt}
use Rattle.std.proofs.Math.Pow.{pow_mono, pow-lt}
use Rattle.std.proofs.lemmas.Nat.{pow_pos}
use Rattle.std.proofs.lemmas.Bool.Decides.{Decides-eqb, Decides-like, Decides-ltb, same_from_decides}
use Rattle.pliron_core.proofs.HoldingLemmas.{not_none, some_is}
use Rattle.pliron_bits.specs.declared.operators.Predicate.{Predicate}
use Rattle.pliron_bits.specs.declared.operators.Predicate.TheVariants.{Equal, NotEqual, SignedLess, SignedLessEqual, SignedGreater, SignedGreaterEqual, UnsignedLess, UnsignedLessEqual, UnsignedGreater, UnsignedGreaterEqual}
use Rattle.pliron_bits.specs.declared.operators.Cast.{Cast}
use Rattle.pliron_bits.specs.declared.operators.Cast.TheVariants.{ZeroExtend, SignExtend}
use Rattle.pliron_bits.specs.Numbers.{signed_value, bits_of}
use Rattle.pliron_bits.specs.Arithmetic.{signed_less}
use Rattle.pliron_bits.specs.Operators.{comparison}
use Rattle.pliron_dialect_mlir.specs.Data.{some_if}
use Rattle.pliron_dialect_mlir.specs.IntegerIdentities.{truth_of_equal}
use Rattle.pliron_mlir_rules.specs.CastNumbers.{Changes, cast_bits, halves, signed_low, signed_high, below_by, order, bits_again, reads_again}
use Rattle.pliron_mlir_rules.specs.HeadsSay.{picked}
use Rattle.pliron_mlir_rules.specs.Integers.{signed_narrow}
use Rattle.pliron_mlir_rules.specs.MlirRules.{unsigned_of, narrow_predicate, narrow_high, narrow_number}

-- a cast to more bits that tells each number from the others, and their order
pub record Extends (cast : Cast) : Type 0 where
  pub changes : (v w : ℕ) → v < w → Changes cast v w
  pub wider : (v w : ℕ) → Changes cast v w → v < w
  pub apart : (v w a b : ℕ) → 1 ≤ v → v < w → a < 2 ^ v → b < 2 ^ v → cast_bits cast v w a ≡ cast_bits cast v w b → a ≡ b
  pub compares : (p : Predicate) (v w a b : ℕ) → 1 ≤ v → v < w → a < 2 ^ v → b < 2 ^ v → comparison p w (cast_bits cast v w a) (cast_bits cast v w b) ≡ comparison (narrow_predicate cast p) v a b
  pub truth : (p : Predicate) → truth_of_equal p ≡ truth_of_equal (narrow_predicate cast p)
  pub fits : (v w n k : ℕ) → 1 ≤ v → v < w → n < 2 ^ w → narrow_number cast v w n ≡ Some k → (k < 2 ^ v) × (cast_bits cast v w k ≡ n)

-- ---- zeros

not_less : (a b : ℕ) → not (nat_lt a b) ≡ nat_le b a
not_less a b = grind (arith, tests)

compares_narrow : (predicate : Predicate) (v w a b : ℕ) → v < w → a < 2 ^ v → b < 2 ^ v → comparison predicate w a b ≡ comparison (unsigned_of predicate) v a b
compares_narrow Equal v w a b lt p q = refl
compares_narrow NotEqual v w a b lt p q = refl
compares_narrow SignedLess v w a b lt p q = signed_narrow v w a b lt p q
compares_narrow SignedLessEqual v w a b lt p q = ap not (signed_narrow v w b a lt q p) ∙ not_less b a
compares_narrow SignedGreater v w a b lt p q = signed_narrow v w b a lt q p
compares_narrow SignedGreaterEqual v w a b lt p q = ap not (signed_narrow v w a b lt p q) ∙ not_less a b
compares_narrow UnsignedLess v w a b lt p q = refl
compares_narrow UnsignedLessEqual v w a b lt p q = refl
compares_narrow UnsignedGreater v w a b lt p q = refl
compares_narrow UnsignedGreaterEqual v w a b lt p q = refl

truth_is : (predicate : Predicate) → truth_of_equal predicate ≡ truth_of_equal (unsigned_of predicate)
truth_is Equal = refl
truth_is NotEqual = refl
truth_is SignedLess = refl
truth_is SignedLessEqual = refl
truth_is SignedGreater = refl
truth_is SignedGreaterEqual = refl
truth_is UnsignedLess = refl
truth_is UnsignedLessEqual = refl
truth_is UnsignedGreater = refl
truth_is UnsignedGreaterEqual = refl

pub zeros_extend : Extends ZeroExtend
zeros_extend = record {
  changes = λ v w lt. lt;
  wider = λ v w lt. lt;
  apart = λ v w a b some lt p q e. e;
  compares = λ p v w a b some lt first second. compares_narrow p v w a b lt first second;
  truth = truth_is;
  fits = λ v w n k some lt less e. of v n k e;
}
  where
    of : (v n k : ℕ) → some_if (nat_lt n (2 ^ v)) n ≡ Some k → (k < 2 ^ v) × (k ≡ n)
    of v n k e =
        let both = picked (nat_lt n (2 ^ v)) n k e in
        (subst (λ x. x < 2 ^ v) both.1 ((Decides-ltb n (2 ^ v)).0 both.0), sym both.1)

-- ---- signs

signs_low : (v w a : ℕ) → v < w → a < 2 ^ (v - 1) → bits_of w (signed_value v a) ≡ a
signs_low v w a lt low =
    let most : 2 ^ (v - 1) ≤ 2 ^ w = pow_mono (omega (arith, lt)) in
    ap (bits_of w) (signed_low v a low) ∙ mod-eq_of_lt (omega (arith, low, most))

signs_high : (v w a : ℕ) → v < w → 2 ^ (v - 1) ≤ a → a < 2 ^ v → bits_of w (signed_value v a) ≡ 2 ^ w - 2 ^ v + a
signs_high v w a lt high less =
    let most : 2 ^ v < 2 ^ w = pow-lt lt in
    ap (bits_of w) (signed_high v a high ∙ below_by a (2 ^ v) less)
    ∙ ap (λ x. 2 ^ w - 1 - x) (mod-eq_of_lt (omega (arith, most, less)))
    ∙ omega (arith, most, less)

signs_apart : (v w a b : ℕ) → 1 ≤ v → v < w → a < 2 ^ v → b < 2 ^ v → bits_of w (signed_value v a) ≡ bits_of w (signed_value v b) → a ≡ b
signs_apart v w a b some lt p q e =
    sym (bits_again v a p)
    ∙ ap (bits_of v) (sym (reads_again v w a some lt p) ∙ ap (signed_value w) e ∙ reads_again v w b some lt q)
    ∙ bits_again v b q

signs_equal : (v w a b : ℕ) → 1 ≤ v → v < w → a < 2 ^ v → b < 2 ^ v → nat_eq (bits_of w (signed_value v a)) (bits_of w (signed_value v b)) ≡ nat_eq a b
signs_equal v w a b some lt p q =
    same_from_decides (nat_eq (bits_of w (signed_value v a)) (bits_of w (signed_value v b))) (nat_eq a b)
    (Decides-like (nat_eq (bits_of w (signed_value v a)) (bits_of w (signed_value v b))) (signs_apart v w a b some lt p q) (ap (λ x. bits_of w (signed_value v x))) (Decides-eqb (bits_of w (signed_value v a)) (bits_of w (signed_value v b))))
    (Decides-eqb a b)

signs_less : (v w a b : ℕ) → 1 ≤ v → v < w → a < 2 ^ v → b < 2 ^ v → nat_lt (bits_of w (signed_value v a)) (bits_of w (signed_value v b)) ≡ nat_lt a b
signs_less v w a b some lt p q = of_orders (order a (2 ^ (v - 1))) (order b (2 ^ (v - 1)))
  where
    low_first : (k h x y : ℕ) → x < h → h ≤ y → nat_lt x (k + y) ≡ nat_lt x y
    low_first k h x y below above = grind (arith, tests, below, above)

    high_first : (k h m x y : ℕ) → m ≤ k + h → y < h → h ≤ x → nat_lt (k + x) y ≡ nat_lt x y
    high_first k h m x y most below above = grind (arith, tests, below, above)

    both_high : (k x y : ℕ) → nat_lt (k + x) (k + y) ≡ nat_lt x y
    both_high k x y = grind (arith, tests)

    of_orders : (a < 2 ^ (v - 1)) ⊎ (2 ^ (v - 1) ≤ a) → (b < 2 ^ (v - 1)) ⊎ (2 ^ (v - 1) ≤ b) → nat_lt (bits_of w (signed_value v a)) (bits_of w (signed_value v b)) ≡ nat_lt a b
    of_orders (inl low) (inl other) = ap₂ nat_lt (signs_low v w a lt low) (signs_low v w b lt other)
    of_orders (inl low) (inr high) = ap₂ nat_lt (signs_low v w a lt low) (signs_high v w b lt high q) ∙ low_first (2 ^ w - 2 ^ v) (2 ^ (v - 1)) a b low high
    of_orders (inr high) (inl low) = ap₂ nat_lt (signs_high v w a lt high p) (signs_low v w b lt low) ∙ high_first (2 ^ w - 2 ^ v) (2 ^ (v - 1)) 0 a b (omega arith) low high
    of_orders (inr high) (inr other) = ap₂ nat_lt (signs_high v w a lt high p) (signs_high v w b lt other q) ∙ both_high (2 ^ w - 2 ^ v) a b

at_most_unless : (a b : ℕ) → nat_le a b ≡ not (nat_lt b a)
at_most_unless a b = grind (arith, tests)

signs_signed : (v w a b : ℕ) → 1 ≤ v → v < w → a < 2 ^ v → b < 2 ^ v → signed_less w (bits_of w (signed_value v a)) (bits_of w (signed_value v b)) ≡ signed_less v a b
signs_signed v w a b some lt p q = ap₂ int_lt (reads_again v w a some lt p) (reads_again v w b some lt q)

signs_at_most : (v w a b : ℕ) → 1 ≤ v → v < w → a < 2 ^ v → b < 2 ^ v → nat_le (bits_of w (signed_value v a)) (bits_of w (signed_value v b)) ≡ nat_le a b
signs_at_most v w a b some lt p q =
    at_most_unless (bits_of w (signed_value v a)) (bits_of w (signed_value v b)) ∙ ap not (signs_less v w b a some lt q p) ∙ sym (at_most_unless a b)

signs_compare : (predicate : Predicate) (v w a b : ℕ) → 1 ≤ v → v < w → a < 2 ^ v → b < 2 ^ v → comparison predicate w (bits_of w (signed_value v a)) (bits_of w (signed_value v b)) ≡ comparison predicate v a b
signs_compare Equal v w a b some lt p q = signs_equal v w a b some lt p q
signs_compare NotEqual v w a b some lt p q = ap not (signs_equal v w a b some lt p q)
signs_compare SignedLess v w a b some lt p q = signs_signed v w a b some lt p q
signs_compare SignedLessEqual v w a b some lt p q = ap not (signs_signed v w b a some lt q p)
signs_compare SignedGreater v w a b some lt p q = signs_signed v w b a some lt q p
signs_compare SignedGreaterEqual v w a b some lt p q = ap not (signs_signed v w a b some lt p q)
signs_compare UnsignedLess v w a b some lt p q = signs_less v w a b some lt p q
signs_compare UnsignedLessEqual v w a b some lt p q = signs_at_most v w a b some lt p q
signs_compare UnsignedGreater v w a b some lt p q = signs_less v w b a some lt q p
signs_compare UnsignedGreaterEqual v w a b some lt p q = signs_at_most v w b a some lt q p

signs_fit : (v w n k : ℕ) → 1 ≤ v → v < w → n < 2 ^ w → narrow_number SignExtend v w n ≡ Some k → (k < 2 ^ v) × (bits_of w (signed_value v k) ≡ n)
signs_fit v w n k some lt less e = of_low (nat_lt n (2 ^ (v - 1))) refl e
  where
    whole : 2 ^ v ≡ 2 ^ (v - 1) + 2 ^ (v - 1)
    whole = halves v some

    most : 2 ^ v < 2 ^ w
    most = pow-lt lt

    half : 0 < 2 ^ (v - 1)
    half = pow_pos (v - 1)

    reach : (a b : ℕ) → nat_le a b ≡ true → a ≤ b
    reach a b h = grind (arith, tests, h)

    of_high : nat_le (2 ^ w - 2 ^ (v - 1)) n ≡ true → n - (2 ^ w - 2 ^ v) ≡ k → (k < 2 ^ v) × (bits_of w (signed_value v k) ≡ n)
    of_high high same =
        let le : 2 ^ w - 2 ^ (v - 1) ≤ n = reach (2 ^ w - 2 ^ (v - 1)) n high in
        let below : k < 2 ^ v = omega (arith, le, same, most, less, whole, half) in
        let above : 2 ^ (v - 1) ≤ k = omega (arith, le, same, most, whole) in
        (below, signs_high v w k lt above below ∙ omega (arith, le, same, most, whole))

    of_low : (b : Bool) → nat_lt n (2 ^ (v - 1)) ≡ b → (if b then Some n else narrow_high v w n) ≡ Some k → (k < 2 ^ v) × (bits_of w (signed_value v k) ≡ n)
    of_low true f g =
        let low : n < 2 ^ (v - 1) = (Decides-ltb n (2 ^ (v - 1))).0 f in
        let same : n ≡ k = some_is g in
        (subst (λ x. x < 2 ^ v) same (omega (arith, low, whole)), ap (λ x. bits_of w (signed_value v x)) (sym same) ∙ signs_low v w n lt low)
    of_low false f g =
        let both = picked (nat_le (2 ^ w - 2 ^ (v - 1)) n) (n - (2 ^ w - 2 ^ v)) k g in
        of_high both.0 both.1

pub signs_extend : Extends SignExtend
signs_extend = record {
  changes = λ v w lt. lt;
  wider = λ v w lt. lt;
  apart = signs_apart;
  compares = signs_compare;
  truth = λ p. refl;
  fits = signs_fit;
}
