-- Comparisons with a number, and strict ones with the number beside.
use Rattle.std.proofs.Common.{◌≡◌, ℕ, zero, suc, ◌+◌, ◌-◌, ◌%◌, ◌^◌, ◌<◌, ◌≤◌, ◌⊎◌, inl, inr, Bool, true, false, not, nat_eq, nat_lt, nat_le, int_lt, if◌then◌else◌, Option, Some, None, refl, ap, ap₂, sym, ◌∙◌, subst, arith, tests, ℤ, pos, negsuc, ◌+ℤ◌, ◌-ℤ◌}
use Rattle.std.proofs.Math.Nat.{mod-eq_of_lt, mod_self, mod-eq-sub-mod}
use Rattle.std.proofs.lemmas.Nat.{pow_pos, mod_below}
use Rattle.std.proofs.lemmas.Int.{ints}
use Rattle.std.proofs.lemmas.Bool.Decides.{Decides-eqb}
use Rattle.pliron_core.proofs.HoldingLemmas.{not_none}
use Rattle.pliron_bits.specs.declared.operators.Predicate.{Predicate}
use Rattle.pliron_bits.specs.declared.operators.Predicate.TheVariants.{Equal, NotEqual, SignedLess, SignedLessEqual, SignedGreater, SignedGreaterEqual, UnsignedLess, UnsignedLessEqual, UnsignedGreater, UnsignedGreaterEqual}
use Rattle.pliron_bits.specs.Numbers.{signed_value}
use Rattle.pliron_bits.specs.Arithmetic.{signed_less}
use Rattle.pliron_bits.specs.Operators.{comparison}
use Rattle.pliron_mlir_rules.specs.CastNumbers.{halves, signed_low, signed_high, order}
use Rattle.pliron_mlir_rules.specs.HeadsSay.{picked}
use Rattle.pliron_mlir_rules.specs.MlirRules.{strict_of, next_unless, before_unless, number_beside}

not_that : (a b : ℕ) → not (nat_eq a b) ≡ true → a ≡ b → ⊥
not_that a b e same = absurd (grind (arith, tests, e, same))

less_than : (a b : ℕ) → a ≤ b → (a ≡ b → ⊥) → a < b
less_than a b le apart = of_order (order a b)
  where
    of_order : (a < b) ⊎ (b ≤ a) → a < b
    of_order (inl lt) = lt
    of_order (inr ge) = absurd (apart (omega (arith, le, ge)))

-- ---- the number beside

next_is : (w c : ℕ) → c + 1 < 2 ^ w → (c + 1) % 2 ^ w ≡ c + 1
next_is w c lt = mod-eq_of_lt lt

before_is : (w c : ℕ) → 0 < c → c < 2 ^ w → (c + (2 ^ w - 1)) % 2 ^ w ≡ c - 1
before_is w c some lt =
    let le : 2 ^ w ≤ c + (2 ^ w - 1) = omega (arith, some, lt) in
    let back : c + (2 ^ w - 1) - 2 ^ w ≡ c - 1 = omega (arith, some, lt) in
    let less : c - 1 < 2 ^ w = omega (arith, lt) in
    mod-eq-sub-mod le ∙ ap (λ x. x % 2 ^ w) back ∙ mod-eq_of_lt less

before_none : (w : ℕ) → (0 + (2 ^ w - 1)) % 2 ^ w ≡ 2 ^ w - 1
before_none w =
    let some : 0 < 2 ^ w = pow_pos w in
    ap (λ x. x % 2 ^ w) (omega arith) ∙ mod-eq_of_lt (omega (arith, some))

next_low : (n : ℕ) → pos (n + 1) ≡ pos n +ℤ pos 1
next_low n = omega (arith, ints)

next_high : (n m : ℕ) → pos (n + 1) -ℤ pos m ≡ (pos n -ℤ pos m) +ℤ pos 1
next_high n m = omega (arith, ints)

next_reads : (w c : ℕ) → 1 ≤ w → c < 2 ^ w → (c ≡ 2 ^ (w - 1) - 1 → ⊥) → signed_value w ((c + 1) % 2 ^ w) ≡ signed_value w c +ℤ pos 1
next_reads w c some lt apart = of_order (order c (2 ^ (w - 1)))
  where
    whole : 2 ^ w ≡ 2 ^ (w - 1) + 2 ^ (w - 1)
    whole = halves w some

    half : 0 < 2 ^ (w - 1)
    half = pow_pos (w - 1)

    -- all ones read as -1, which 0 follows
    ends : (m : ℕ) → c + 1 ≡ m → pos 0 ≡ (pos c -ℤ pos m) +ℤ pos 1
    ends m e = omega (arith, ints, e)

    of_end : 2 ^ (w - 1) ≤ c → (c + 1 < 2 ^ w) ⊎ (2 ^ w ≤ c + 1) → signed_value w ((c + 1) % 2 ^ w) ≡ signed_value w c +ℤ pos 1
    of_end high (inl less) =
        ap (signed_value w) (next_is w c less)
        ∙ signed_high w (c + 1) (omega (arith, high))
        ∙ next_high c (2 ^ w)
        ∙ ap (λ z. z +ℤ pos 1) (sym (signed_high w c high))
    of_end high (inr last) =
        let same : c + 1 ≡ 2 ^ w = omega (arith, lt, last) in
        ap (signed_value w) (ap (λ x. x % 2 ^ w) same ∙ mod_self (2 ^ w))
        ∙ signed_low w 0 half
        ∙ ends (2 ^ w) same
        ∙ ap (λ z. z +ℤ pos 1) (sym (signed_high w c high))

    of_order : (c < 2 ^ (w - 1)) ⊎ (2 ^ (w - 1) ≤ c) → signed_value w ((c + 1) % 2 ^ w) ≡ signed_value w c +ℤ pos 1
    of_order (inl low) =
        let near : c < 2 ^ (w - 1) - 1 = less_than c (2 ^ (w - 1) - 1) (omega (arith, low)) apart in
        ap (signed_value w) (next_is w c (omega (arith, low, near, whole)))
        ∙ signed_low w (c + 1) (omega (arith, near))
        ∙ next_low c
        ∙ ap (λ z. z +ℤ pos 1) (sym (signed_low w c low))
    of_order (inr high) = of_end high (order (c + 1) (2 ^ w))

before_reads : (w c : ℕ) → 1 ≤ w → c < 2 ^ w → (c ≡ 2 ^ (w - 1) → ⊥) → signed_value w ((c + (2 ^ w - 1)) % 2 ^ w) ≡ signed_value w c -ℤ pos 1
before_reads w c some lt apart = of_order (order c (2 ^ (w - 1)))
  where
    whole : 2 ^ w ≡ 2 ^ (w - 1) + 2 ^ (w - 1)
    whole = halves w some

    half : 0 < 2 ^ (w - 1)
    half = pow_pos (w - 1)

    less_low : (n : ℕ) → 0 < n → pos (n - 1) ≡ pos n -ℤ pos 1
    less_low n more = omega (arith, ints, more)

    less_high : (n m : ℕ) → 0 < n → pos (n - 1) -ℤ pos m ≡ (pos n -ℤ pos m) -ℤ pos 1
    less_high n m more = omega (arith, ints, more)

    least : (m : ℕ) → 0 < m → pos (m - 1) -ℤ pos m ≡ pos 0 -ℤ pos 1
    least m more = omega (arith, ints, more)

    of_zero : (0 < c) ⊎ (c ≤ 0) → c < 2 ^ (w - 1) → signed_value w ((c + (2 ^ w - 1)) % 2 ^ w) ≡ signed_value w c -ℤ pos 1
    of_zero (inl more) low =
        ap (signed_value w) (before_is w c more lt)
        ∙ signed_low w (c - 1) (omega (arith, low))
        ∙ less_low c more
        ∙ ap (λ z. z -ℤ pos 1) (sym (signed_low w c low))
    of_zero (inr none) low =
        let zero_is : c ≡ 0 = omega (arith, none) in
        ap (λ x. signed_value w ((x + (2 ^ w - 1)) % 2 ^ w)) zero_is
        ∙ ap (signed_value w) (before_none w)
        ∙ signed_high w (2 ^ w - 1) (omega (arith, whole, half))
        ∙ least (2 ^ w) (pow_pos w)
        ∙ ap (λ z. z -ℤ pos 1) (sym (signed_low w 0 half))
        ∙ ap (λ x. signed_value w x -ℤ pos 1) (sym zero_is)

    of_order : (c < 2 ^ (w - 1)) ⊎ (2 ^ (w - 1) ≤ c) → signed_value w ((c + (2 ^ w - 1)) % 2 ^ w) ≡ signed_value w c -ℤ pos 1
    of_order (inl low) = of_zero (order 0 c) low
    of_order (inr high) =
        let above : 2 ^ (w - 1) < c = less_than (2 ^ (w - 1)) c high (λ e. apart (sym e)) in
        ap (signed_value w) (before_is w c (omega (arith, above)) lt)
        ∙ signed_high w (c - 1) (omega (arith, above))
        ∙ less_high c (2 ^ w) (omega (arith, above))
        ∙ ap (λ z. z -ℤ pos 1) (sym (signed_high w c high))

-- ---- comparisons

at_most_signed : (x y : ℤ) → int_lt x (y +ℤ pos 1) ≡ not (int_lt y x)
at_most_signed x y = grind (arith, tests, ints)

at_least_signed : (x y : ℤ) → int_lt (y -ℤ pos 1) x ≡ not (int_lt x y)
at_least_signed x y = grind (arith, tests, ints)

at_most : (a c : ℕ) → nat_lt a (c + 1) ≡ nat_le a c
at_most a c = grind (arith, tests)

at_least : (a c : ℕ) → 0 < c → nat_lt (c - 1) a ≡ nat_le c a
at_least a c some = grind (arith, tests, some)

-- a number beside is one of so many bits, and the strict comparison with it says the same
pub beside_below : (p : Predicate) (w c k : ℕ) → number_beside p w c ≡ Some k → k < 2 ^ w
beside_below SignedLessEqual w c k e = subst (λ x. x < 2 ^ w) (picked (not (nat_eq c (2 ^ (w - 1) - 1))) ((c + 1) % 2 ^ w) k e).1 (mod_below (c + 1) (2 ^ w) (pow_pos w))
beside_below SignedGreaterEqual w c k e = subst (λ x. x < 2 ^ w) (picked (not (nat_eq c (2 ^ (w - 1)))) ((c + (2 ^ w - 1)) % 2 ^ w) k e).1 (mod_below (c + (2 ^ w - 1)) (2 ^ w) (pow_pos w))
beside_below UnsignedLessEqual w c k e = subst (λ x. x < 2 ^ w) (picked (not (nat_eq c (2 ^ w - 1))) ((c + 1) % 2 ^ w) k e).1 (mod_below (c + 1) (2 ^ w) (pow_pos w))
beside_below UnsignedGreaterEqual w c k e = subst (λ x. x < 2 ^ w) (picked (not (nat_eq c 0)) ((c + (2 ^ w - 1)) % 2 ^ w) k e).1 (mod_below (c + (2 ^ w - 1)) (2 ^ w) (pow_pos w))
beside_below Equal w c k e = absurd (not_none e)
beside_below NotEqual w c k e = absurd (not_none e)
beside_below SignedLess w c k e = absurd (not_none e)
beside_below SignedGreater w c k e = absurd (not_none e)
beside_below UnsignedLess w c k e = absurd (not_none e)
beside_below UnsignedGreater w c k e = absurd (not_none e)

pub beside_compares : (p : Predicate) (w c k a : ℕ) → 1 ≤ w → c < 2 ^ w → number_beside p w c ≡ Some k → comparison (strict_of p) w a k ≡ comparison p w a c
beside_compares SignedLessEqual w c k a some lt e =
    let both = picked (not (nat_eq c (2 ^ (w - 1) - 1))) ((c + 1) % 2 ^ w) k e in
    ap (λ x. int_lt (signed_value w a) (signed_value w x)) (sym both.1)
    ∙ ap (int_lt (signed_value w a)) (next_reads w c some lt (not_that c (2 ^ (w - 1) - 1) both.0))
    ∙ at_most_signed (signed_value w a) (signed_value w c)
beside_compares SignedGreaterEqual w c k a some lt e =
    let both = picked (not (nat_eq c (2 ^ (w - 1)))) ((c + (2 ^ w - 1)) % 2 ^ w) k e in
    ap (λ x. int_lt (signed_value w x) (signed_value w a)) (sym both.1)
    ∙ ap (λ z. int_lt z (signed_value w a)) (before_reads w c some lt (not_that c (2 ^ (w - 1)) both.0))
    ∙ at_least_signed (signed_value w a) (signed_value w c)
beside_compares UnsignedLessEqual w c k a some lt e =
    let both = picked (not (nat_eq c (2 ^ w - 1))) ((c + 1) % 2 ^ w) k e in
    let near : c < 2 ^ w - 1 = less_than c (2 ^ w - 1) (omega (arith, lt)) (not_that c (2 ^ w - 1) both.0) in
    ap (nat_lt a) (sym both.1 ∙ next_is w c (omega (arith, near))) ∙ at_most a c
beside_compares UnsignedGreaterEqual w c k a some lt e =
    let both = picked (not (nat_eq c 0)) ((c + (2 ^ w - 1)) % 2 ^ w) k e in
    let more : 0 < c = less_than 0 c (omega arith) (λ z. not_that c 0 both.0 (sym z)) in
    ap (λ x. nat_lt x a) (sym both.1 ∙ before_is w c more lt) ∙ at_least a c more
beside_compares Equal w c k a some lt e = absurd (not_none e)
beside_compares NotEqual w c k a some lt e = absurd (not_none e)
beside_compares SignedLess w c k a some lt e = absurd (not_none e)
beside_compares SignedGreater w c k a some lt e = absurd (not_none e)
beside_compares UnsignedLess w c k a some lt e = absurd (not_none e)
beside_compares UnsignedGreater w c k a some lt e = absurd (not_none e)
