-- Sums and differences of numbers and constants.
use Rattle.std.proofs.Common.{◌≡◌, ℕ, zero, suc, ◌+◌, ◌-◌, ◌*◌, ◌%◌, ◌^◌, ◌<◌, ◌≤◌, ◌⊎◌, inl, inr, Bool, true, false, not, nat_eq, nat_lt, nat_le, int_lt, int_le, ◌&&◌, ◌||◌, if◌then◌else◌, Option, Some, None, IsTrue, refl, ap, ap₂, sym, ◌∙◌, subst, arith, tests, ℤ, pos, negsuc, ◌+ℤ◌, ◌-ℤ◌, neg_ℤ}
use Rattle.std.proofs.Math.Nat.{mod-eq_of_lt, mod_self, mod-add-mod, add-mod-mod, pow-suc}
use Rattle.std.proofs.lemmas.Nat.{pow_pos}
use Rattle.std.proofs.lemmas.Int.{ints}
use Rattle.pliron_bits.specs.declared.flags.Flags.{Flags}
use Rattle.pliron_bits.specs.Numbers.{signed_value, is_signed}
use Rattle.pliron_bits.specs.Arithmetic.{unless_flagged, wraps, wrap, sum, difference}
use Rattle.pliron_mlir_rules.specs.CastNumbers.{halves, below_by, signed_low, signed_high, order, not_less}
use Rattle.pliron_mlir_rules.specs.MlirRules.{if_signed}

-- ---- what doesn't wrap

pub signed_reach : (w n : ℕ) → 1 ≤ w → n < 2 ^ w → is_signed w (signed_value w n) ≡ true
signed_reach w n some lt = of_order (order n (2 ^ (w - 1)))
  where
    reach_low : (h n : ℕ) → n < h → int_le (neg_ℤ (pos h)) (pos n) && int_lt (pos n) (pos h) ≡ true
    reach_low h n less = grind (arith, tests, ints, less)

    reach_high : (h k : ℕ) → k < h → int_le (neg_ℤ (pos h)) (negsuc k) && int_lt (negsuc k) (pos h) ≡ true
    reach_high h k less = grind (arith, tests, ints, less)

    whole : 2 ^ w ≡ 2 ^ (w - 1) + 2 ^ (w - 1)
    whole = halves w some

    of_order : (n < 2 ^ (w - 1)) ⊎ (2 ^ (w - 1) ≤ n) → is_signed w (signed_value w n) ≡ true
    of_order (inl low) = ap (is_signed w) (signed_low w n low) ∙ reach_low (2 ^ (w - 1)) n low
    of_order (inr high) =
        ap (is_signed w) (signed_high w n high ∙ below_by n (2 ^ w) lt)
        ∙ reach_high (2 ^ (w - 1)) (2 ^ w - n - 1) (omega (arith, lt, high, whole))

and_not : (x y : Bool) → y ≡ true → x && not y ≡ false
and_not true y e = ap not e
and_not false y e = refl

pub no_wrap : (f : Flags) (w : ℕ) (z : ℤ) (exact : Bool) → is_signed w z ≡ true → exact ≡ true → wraps f w z exact ≡ false
no_wrap f w z exact p q = ap₂ (λ x y. x || y) (and_not f.no_signed_wrap (is_signed w z) p) (and_not f.no_unsigned_wrap exact q)

pub zero_reads : (w : ℕ) → signed_value w 0 ≡ pos 0
zero_reads w = signed_low w 0 (pow_pos (w - 1))

pub is_below : (a b : ℕ) → a < b → nat_lt a b ≡ true
is_below a b h = grind (arith, tests)

is_at_most : (a : ℕ) → nat_le a a ≡ true
is_at_most a = grind (arith, tests)

pub sum_with_zero : (f : Flags) (w a : ℕ) → 1 ≤ w → a < 2 ^ w → sum f w a 0 ≡ Some a
sum_with_zero f w a some lt =
    ap (λ b. unless_flagged b ((a + 0) % 2 ^ w)) (no_wrap f w (signed_value w a +ℤ signed_value w 0) (nat_lt (a + 0) (2 ^ w)) signed (is_below (a + 0) (2 ^ w) (omega (arith, lt))))
    ∙ ap Some (ap (λ x. x % 2 ^ w) (omega arith) ∙ mod-eq_of_lt lt)
  where
    with_zero : (z : ℤ) → z +ℤ pos 0 ≡ z
    with_zero z = omega (arith, ints)

    signed : is_signed w (signed_value w a +ℤ signed_value w 0) ≡ true
    signed = ap (λ z. is_signed w (signed_value w a +ℤ z)) (zero_reads w) ∙ ap (is_signed w) (with_zero (signed_value w a)) ∙ signed_reach w a some lt

pub zero_with_sum : (f : Flags) (w c : ℕ) → 1 ≤ w → c < 2 ^ w → sum f w 0 c ≡ Some c
zero_with_sum f w c some lt =
    ap (λ b. unless_flagged b ((0 + c) % 2 ^ w)) (no_wrap f w (signed_value w 0 +ℤ signed_value w c) (nat_lt (0 + c) (2 ^ w)) signed (is_below (0 + c) (2 ^ w) (omega (arith, lt))))
    ∙ ap Some (ap (λ x. x % 2 ^ w) (omega arith) ∙ mod-eq_of_lt lt)
  where
    zero_with : (z : ℤ) → pos 0 +ℤ z ≡ z
    zero_with z = omega (arith, ints)

    signed : is_signed w (signed_value w 0 +ℤ signed_value w c) ≡ true
    signed = ap (λ z. is_signed w (z +ℤ signed_value w c)) (zero_reads w) ∙ ap (is_signed w) (zero_with (signed_value w c)) ∙ signed_reach w c some lt

pub difference_of_equal : (f : Flags) (w c : ℕ) → c < 2 ^ w → difference f w c c ≡ Some 0
difference_of_equal f w c lt =
    ap (λ b. unless_flagged b ((c + (2 ^ w - c)) % 2 ^ w)) (no_wrap f w (signed_value w c -ℤ signed_value w c) (nat_le c c) signed (is_at_most c))
    ∙ ap Some (ap (λ x. x % 2 ^ w) (omega (arith, lt)) ∙ mod_self (2 ^ w))
  where
    less_itself : (z : ℤ) → z -ℤ z ≡ pos 0
    less_itself z = omega (arith, ints)

    reach : (h : ℕ) → 0 < h → int_le (neg_ℤ (pos h)) (pos 0) && int_lt (pos 0) (pos h) ≡ true
    reach h some = grind (arith, tests, ints, some)

    signed : is_signed w (signed_value w c -ℤ signed_value w c) ≡ true
    signed = ap (is_signed w) (less_itself (signed_value w c)) ∙ reach (2 ^ (w - 1)) (pow_pos (w - 1))

-- ---- a constant that is subtracted is added

-- the opposite, read as signed, where it isn't the least number
opposite : (w c : ℕ) (z : ℤ) → 1 ≤ w → 0 < c → c < 2 ^ w → nat_eq c (2 ^ (w - 1)) ≡ false → z -ℤ signed_value w c ≡ z +ℤ signed_value w (2 ^ w - c)
opposite w c z some more lt apart = of_order (order c (2 ^ (w - 1)))
  where
    whole : 2 ^ w ≡ 2 ^ (w - 1) + 2 ^ (w - 1)
    whole = halves w some

    differs : (a b : ℕ) → nat_eq a b ≡ false → a ≡ b → ⊥
    differs a b e same = absurd (grind (arith, tests, e, same))

    strict : (a b : ℕ) → b ≤ a → nat_eq a b ≡ false → b < a
    strict a b le e = grind (arith, tests, le, e)

    of_order : (c < 2 ^ (w - 1)) ⊎ (2 ^ (w - 1) ≤ c) → z -ℤ signed_value w c ≡ z +ℤ signed_value w (2 ^ w - c)
    of_order (inl low) =
        ap (λ x. z -ℤ x) (signed_low w c low)
        ∙ turn (2 ^ w) c lt
        ∙ ap (λ x. z +ℤ x) (sym (signed_high w (2 ^ w - c) (omega (arith, low, whole))))
      where
        turn : (m k : ℕ) → k < m → z -ℤ pos k ≡ z +ℤ (pos (m - k) -ℤ pos m)
        turn m k less = omega (arith, ints, less)
    of_order (inr high) =
        let above : 2 ^ (w - 1) < c = strict c (2 ^ (w - 1)) high apart in
        ap (λ x. z -ℤ x) (signed_high w c high)
        ∙ turn (2 ^ w) c lt
        ∙ ap (λ x. z +ℤ x) (sym (signed_low w (2 ^ w - c) (omega (arith, above, whole, lt))))
      where
        turn : (m k : ℕ) → k < m → z -ℤ (pos k -ℤ pos m) ≡ z +ℤ pos (m - k)
        turn m k less = omega (arith, ints, less)

pub difference_is_sum : (f : Flags) (w a c : ℕ) → 1 ≤ w → 0 < c → c < 2 ^ w → f.no_unsigned_wrap ≡ false → f.no_signed_wrap && nat_eq c (2 ^ (w - 1)) ≡ false → difference f w a c ≡ sum (if_signed f.no_signed_wrap) w a (2 ^ w - c)
difference_is_sum f w a c some more lt unsigned least =
    ap (λ b. unless_flagged b ((a + (2 ^ w - c)) % 2 ^ w)) (ap (λ y. wraps_by f.no_signed_wrap y (signed_value w a -ℤ signed_value w c) (nat_le c a)) unsigned ∙ by f.no_signed_wrap least)
  where
    wraps_by : (x y : Bool) → ℤ → Bool → Bool
    wraps_by x y z exact = (x && not (is_signed w z)) || (y && not exact)

    by : (x : Bool) → x && nat_eq c (2 ^ (w - 1)) ≡ false → wraps_by x false (signed_value w a -ℤ signed_value w c) (nat_le c a) ≡ wraps_by x false (signed_value w a +ℤ signed_value w (2 ^ w - c)) (nat_lt (a + (2 ^ w - c)) (2 ^ w))
    by true e = ap (λ z. wraps_by true false z true) (opposite w c (signed_value w a) some more lt e)
    by false e = refl

-- ---- two constants

pub sums_join : (m a c d : ℕ) → ((a + c) % m + d) % m ≡ (a + (c + d) % m) % m
sums_join m a c d = mod-add-mod (a + c) m d ∙ ap (λ x. x % m) (omega arith) ∙ sym (add-mod-mod a (c + d) m)
