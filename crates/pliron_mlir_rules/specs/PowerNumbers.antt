-- Products, quotients and remainders by powers of two.
use Rattle.std.proofs.Common.{◌≡◌, ℕ, zero, suc, ◌+◌, ◌-◌, ◌*◌, ◌/◌, ◌%◌, ◌^◌, ◌<◌, ◌≤◌, ◌⊎◌, inl, inr, Bool, true, false, not, nat_eq, nat_lt, nat_le, ◌&&◌, ◌||◌, if◌then◌else◌, Option, Some, None, refl, ap, ap₂, sym, ◌∙◌, subst, arith, tests, ℤ, pos, ◌*ℤ◌}
use Rattle.std.proofs.Math.Nat.{mod-eq_of_lt, pow-suc}
use Rattle.std.proofs.Math.Pow.{pow_mono, pow-lt}
use Rattle.std.proofs.lemmas.Nat.{pow_pos, and_mask}
use Rattle.std.proofs.lemmas.Int.{ints}
use Rattle.std.proofs.lemmas.Bool.Decides.{Decides-eqb, Decides-ltb}
use Rattle.pliron_bits.specs.declared.flags.Flags.{Flags}
use Rattle.pliron_bits.specs.declared.operators.BinaryOperator.TheVariants.{Multiply, UnsignedDivide, UnsignedRemainder, ShiftLeft, LogicalShiftRight, And}
use Rattle.pliron_bits.specs.Numbers.{signed_value, is_signed}
use Rattle.pliron_bits.specs.Arithmetic.{unless_flagged, wraps, wrap, product, shifted_left, unsigned_quotient, unsigned_remainder, logical_shift}
use Rattle.pliron_bits.specs.Operators.{binary}
use Rattle.pliron_mlir_rules.specs.CastNumbers.{signed_low, order}
use Rattle.pliron_mlir_rules.specs.HeadsSay.{both_so, picked}
use Rattle.pliron_mlir_rules.specs.MlirRules.{exponent_by}
use Rattle.pliron_mlir_rules.specs.SumNumbers.{signed_reach, no_wrap, zero_reads, is_below}

-- the number is two to the exponent, and neither 0 nor 1
pub record IsPower (k c : ℕ) : Type 0 where
  pub some : 0 < k
  pub is : 2 ^ k ≡ c

pub is_power : (z c k : ℕ) → exponent_by z c ≡ Some k → IsPower k c
is_power z c k e =
    let both = picked (nat_lt 0 z && nat_eq (2 ^ z) c) z k e in
    let parts = both_so (nat_lt 0 z) (nat_eq (2 ^ z) c) both.0 in
    record {
      some = subst (λ x. 0 < x) both.1 ((Decides-ltb 0 z).0 parts.0);
      is = subst (λ x. 2 ^ x ≡ c) both.1 ((Decides-eqb (2 ^ z) c).0 parts.1);
    }

pub at_least_two : (k : ℕ) → 0 < k → 2 ≤ 2 ^ k
at_least_two k some =
    let one : 1 ≤ k = omega (arith, some) in
    let two : 2 ^ 1 ≤ 2 ^ k = pow_mono one in
    omega (arith, two)

pub exponent_below : (k w : ℕ) → 2 ^ k < 2 ^ w → k < w
exponent_below k w lt = of_order (order k w)
  where
    of_order : (k < w) ⊎ (w ≤ k) → k < w
    of_order (inl less) = less
    of_order (inr le) = let more : 2 ^ w ≤ 2 ^ k = pow_mono le in absurd (omega (arith, lt, more))

-- ---- products

abbrev wraps_by : (x y : Bool) (w : ℕ) → ℤ → Bool → Bool
wraps_by x y w z exact = (x && not (is_signed w z)) || (y && not exact)

pub product_shifts : (f : Flags) (w a k : ℕ) → k < w → f.no_signed_wrap && nat_eq (k + 1) w ≡ false → product f w a (2 ^ k) ≡ shifted_left f w a k
product_shifts f w a k lt least =
    ap (λ b. unless_flagged b (a * 2 ^ k % 2 ^ w)) (by f.no_signed_wrap least)
    ∙ sym (ap (λ b. if b then wrap f w (signed_value w a *ℤ pos (2 ^ k)) (nat_lt (a * 2 ^ k) (2 ^ w)) (a * 2 ^ k) else None) (is_below k w lt))
  where
    apart : (m n : ℕ) → m < n → nat_eq (m + 1) n ≡ false → m < n - 1
    apart m n less e = grind (arith, tests, less, e)

    by : (x : Bool) → x && nat_eq (k + 1) w ≡ false → wraps_by x f.no_unsigned_wrap w (signed_value w a *ℤ signed_value w (2 ^ k)) (nat_lt (a * 2 ^ k) (2 ^ w)) ≡ wraps_by x f.no_unsigned_wrap w (signed_value w a *ℤ pos (2 ^ k)) (nat_lt (a * 2 ^ k) (2 ^ w))
    by true e = ap (λ z. wraps_by true f.no_unsigned_wrap w (signed_value w a *ℤ z) (nat_lt (a * 2 ^ k) (2 ^ w))) (signed_low w (2 ^ k) (pow-lt (apart k w lt e)))
    by false e = refl

pub one_times : (f : Flags) (w c : ℕ) → 2 ≤ w → c < 2 ^ w → product f w 1 c ≡ Some c
one_times f w c two lt =
    ap (λ b. unless_flagged b (1 * c % 2 ^ w)) (no_wrap f w (signed_value w 1 *ℤ signed_value w c) (nat_lt (1 * c) (2 ^ w)) signed (is_below (1 * c) (2 ^ w) (omega (arith, lt))))
    ∙ ap Some (ap (λ x. x % 2 ^ w) (omega arith) ∙ mod-eq_of_lt lt)
  where
    once : (z : ℤ) → pos 1 *ℤ z ≡ z
    once z = grind (arith, ints)

    half : 1 < 2 ^ (w - 1)
    half =
        let one : 1 ≤ w - 1 = omega (arith, two) in
        let le : 2 ^ 1 ≤ 2 ^ (w - 1) = pow_mono one in
        omega (arith, le)

    signed : is_signed w (signed_value w 1 *ℤ signed_value w c) ≡ true
    signed = ap (λ z. is_signed w (z *ℤ signed_value w c)) (signed_low w 1 half) ∙ ap (is_signed w) (once (signed_value w c)) ∙ signed_reach w c (omega (arith, two)) lt

pub zero_times : (f : Flags) (w c : ℕ) → 1 ≤ w → product f w 0 c ≡ Some 0
zero_times f w c some =
    ap (λ b. unless_flagged b (0 * c % 2 ^ w)) (no_wrap f w (signed_value w 0 *ℤ signed_value w c) (nat_lt (0 * c) (2 ^ w)) signed (is_below (0 * c) (2 ^ w) (subst (λ x. x < 2 ^ w) none (pow_pos w))))
    ∙ ap Some (ap (λ x. x % 2 ^ w) (sym none) ∙ mod-eq_of_lt (pow_pos w))
  where
    none : 0 ≡ 0 * c
    none = omega arith

    nothing : (z : ℤ) → pos 0 *ℤ z ≡ pos 0
    nothing z = grind (arith, ints)

    signed : is_signed w (signed_value w 0 *ℤ signed_value w c) ≡ true
    signed =
        ap (λ z. is_signed w (z *ℤ signed_value w c)) (zero_reads w)
        ∙ ap (is_signed w) (nothing (signed_value w c))
        ∙ ap (is_signed w) (sym (zero_reads w))
        ∙ signed_reach w 0 some (pow_pos w)

-- ---- quotients and remainders

not_none_at : (c : ℕ) → 0 < c → nat_eq c 0 ≡ false
not_none_at c some = grind (arith, tests, some)

no_shift_out : (k w : ℕ) → k < w → nat_le w k ≡ false
no_shift_out k w lt = grind (arith, tests, lt)

pub quotient_shifts : (f : Flags) (w a k : ℕ) → k < w → unsigned_quotient f a (2 ^ k) ≡ logical_shift f w a k
quotient_shifts f w a k lt =
    ap (λ x. unless_flagged (x || (f.exact && not (nat_eq (a % 2 ^ k) 0))) (a / 2 ^ k)) (not_none_at (2 ^ k) (pow_pos k) ∙ sym (no_shift_out k w lt))

pub remainder_masks : (a k : ℕ) → unsigned_remainder a (2 ^ k) ≡ binary And (record { no_signed_wrap = false; no_unsigned_wrap = false; exact = false; disjoint = false; nonnegative = false }) k a (2 ^ k - 1)
remainder_masks a k = ap (λ b. unless_flagged b (a % 2 ^ k)) (not_none_at (2 ^ k) (pow_pos k)) ∙ ap Some (sym (and_mask a k))

below_power : (n : ℕ) → n < 2 ^ n
below_power zero = omega arith
below_power (suc n) =
    let less : n < 2 ^ n = below_power n in
    let twice : 2 ^ n * 2 ≡ 2 ^ n + 2 ^ n = omega arith in
    subst (λ x. suc n < x) (sym (pow-suc 2 n ∙ twice)) (omega (arith, less))

-- the exponent is a number of so many bits, too
pub exponent_fits : (k c w : ℕ) → 2 ^ k ≡ c → c < 2 ^ w → k < 2 ^ w
exponent_fits k c w is lt = let less : k < 2 ^ k = below_power k in omega (arith, less, is, lt)
