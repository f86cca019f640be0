-- What casts make of numbers: two in a row are one, or none.
use Rattle.std.proofs.Common.{◌≡◌, ℕ, zero, suc, ◌+◌, ◌-◌, ◌*◌, ◌/◌, ◌%◌, ◌^◌, ◌<◌, ◌≤◌, ◌⊎◌, inl, inr, Bool, true, false, nat_lt, if◌then◌else◌, Option, Some, None, refl, ap, sym, ◌∙◌, subst, arith, tests, ℤ, pos, negsuc, ◌-ℤ◌}
use Rattle.std.proofs.Math.Nat.{mod-eq_of_lt, pow-suc}
use Rattle.std.proofs.Math.Pow.{mod-mod-pow, pow_mono}
use Rattle.std.proofs.lemmas.Nat.{pow-add, mod-pow-add, mod-mul-add, mod_below, pow_pos}
use Rattle.std.proofs.lemmas.Int.{ints}
use Rattle.pliron_bits.specs.declared.operators.Cast.{Cast}
use Rattle.pliron_bits.specs.declared.operators.Cast.TheVariants.{ZeroExtend, SignExtend, Truncate}
use Rattle.pliron_bits.specs.Numbers.{signed_value, bits_of}
use Rattle.pliron_core.proofs.HoldingLemmas.{not_none, some_is}
use Rattle.pliron_mlir_rules.specs.MlirRules.{joined_cast}

-- what a cast without flags makes of a number, from so many bits to so many
abbrev pub cast_bits : Cast → (from to a : ℕ) → ℕ
cast_bits ZeroExtend from to a = a
cast_bits SignExtend from to a = bits_of to (signed_value from a)
cast_bits Truncate from to a = a % 2 ^ to

-- ---- fewer bits of more

rest_of : (v w : ℕ) → v ≤ w → w - v + v ≡ w
rest_of v w le = omega (arith, le)

short_mod : (v w n : ℕ) → v ≤ w → n % 2 ^ w % 2 ^ v ≡ n % 2 ^ v
short_mod v w n le = subst (λ k. n % 2 ^ k % 2 ^ v ≡ n % 2 ^ v) (rest_of v w le) (mod-mod-pow n (w - v) v)

-- all ones less a number of more bits, in parts of the fewer ones
split_ones : (k s q r : ℕ) → q < k → r < s → k * s - 1 - (q * s + r) ≡ (k - 1 - q) * s + (s - 1 - r)
split_ones k s q r lt less =
    let whole : k ≡ k - 1 - q + 1 + q = omega (arith, lt) in
    ap (λ x. x * s - 1 - (q * s + r)) whole ∙ parts (k - 1 - q)
  where
    parts : (p : ℕ) → (p + 1 + q) * s - 1 - (q * s + r) ≡ p * s + (s - 1 - r)
    parts p = omega (arith, less)

cut_negative : (j v n : ℕ) → (2 ^ (j + v) - 1 - n % 2 ^ (j + v)) % 2 ^ v ≡ 2 ^ v - 1 - n % 2 ^ v
cut_negative j v n =
    let some : 0 < 2 ^ v = pow_pos v in
    let many : 0 < 2 ^ j = pow_pos j in
    let q : ℕ = n / 2 ^ v % 2 ^ j in
    let lt : q < 2 ^ j = mod_below (n / 2 ^ v) (2 ^ j) many in
    let less : n % 2 ^ v < 2 ^ v = mod_below n (2 ^ v) some in
    ap (λ x. (x - 1 - n % 2 ^ (j + v)) % 2 ^ v) (pow-add 2 j v)
    ∙ ap (λ x. (2 ^ j * 2 ^ v - 1 - x) % 2 ^ v) (mod-pow-add n j v)
    ∙ ap (λ x. x % 2 ^ v) (split_ones (2 ^ j) (2 ^ v) q (n % 2 ^ v) lt less)
    ∙ mod-mul-add (2 ^ j - 1 - q) (2 ^ v) (2 ^ v - 1 - n % 2 ^ v) (omega (arith, some))

-- the bits of a whole number, and the fewer of these
pub cut_signed : (v w : ℕ) (z : ℤ) → v ≤ w → bits_of w z % 2 ^ v ≡ bits_of v z
cut_signed v w (pos n) le = short_mod v w n le
cut_signed v w (negsuc n) le = subst (λ k. (2 ^ k - 1 - n % 2 ^ k) % 2 ^ v ≡ 2 ^ v - 1 - n % 2 ^ v) (rest_of v w le) (cut_negative (w - v) v n)

-- ---- readings

pub halves : (w : ℕ) → 1 ≤ w → 2 ^ w ≡ 2 ^ (w - 1) + 2 ^ (w - 1)
halves zero le = absurd (omega (arith, le))
halves (suc w) le =
    let twice : 2 ^ w * 2 ≡ 2 ^ w + 2 ^ w = omega arith in
    let back : w ≡ suc w - 1 = omega arith in
    pow-suc 2 w ∙ twice ∙ ap (λ k. 2 ^ k + 2 ^ k) back

pub below_by : (n m : ℕ) → n < m → pos n -ℤ pos m ≡ negsuc (m - n - 1)
below_by n m lt = omega (arith, ints, lt)

pub signed_low : (w n : ℕ) → n < 2 ^ (w - 1) → signed_value w n ≡ pos n
signed_low w n lt = ap (λ b. if b then pos n else pos n -ℤ pos (2 ^ w)) (yes n (2 ^ (w - 1)) lt)
  where
    yes : (a b : ℕ) → a < b → nat_lt a b ≡ true
    yes a b h = grind (arith, tests)

pub signed_high : (w n : ℕ) → 2 ^ (w - 1) ≤ n → signed_value w n ≡ pos n -ℤ pos (2 ^ w)
signed_high w n le = ap (λ b. if b then pos n else pos n -ℤ pos (2 ^ w)) (no_less n (2 ^ (w - 1)) le)
  where
    no_less : (a b : ℕ) → b ≤ a → nat_lt a b ≡ false
    no_less a b h = grind (arith, tests)

pub order : (n m : ℕ) → (n < m) ⊎ (m ≤ n)
order n zero = inr (omega arith)
order zero (suc m) = inl (omega arith)
order (suc n) (suc m) = again (order n m)
  where
    again : (n < m) ⊎ (m ≤ n) → (suc n < suc m) ⊎ (suc m ≤ suc n)
    again (inl lt) = inl (omega (arith, lt))
    again (inr le) = inr (omega (arith, le))

-- the bits of a number that is read as signed are that number
pub bits_again : (w n : ℕ) → n < 2 ^ w → bits_of w (signed_value w n) ≡ n
bits_again w n lt = of_order (order n (2 ^ (w - 1)))
  where
    of_order : (n < 2 ^ (w - 1)) ⊎ (2 ^ (w - 1) ≤ n) → bits_of w (signed_value w n) ≡ n
    of_order (inl low) = ap (bits_of w) (signed_low w n low) ∙ mod-eq_of_lt lt
    of_order (inr high) =
        ap (bits_of w) (signed_high w n high ∙ below_by n (2 ^ w) lt)
        ∙ ap (λ x. 2 ^ w - 1 - x) (mod-eq_of_lt (omega (arith, lt)))
        ∙ omega (arith, lt)

-- the reading is the same with more bits
pub reads_again : (v w n : ℕ) → 1 ≤ v → v < w → n < 2 ^ v → signed_value w (bits_of w (signed_value v n)) ≡ signed_value v n
reads_again v w n some less lt = of_order (order n (2 ^ (v - 1)))
  where
    half : 2 ^ v ≤ 2 ^ (w - 1)
    half = pow_mono (omega (arith, less))

    whole : 2 ^ w ≡ 2 ^ (w - 1) + 2 ^ (w - 1)
    whole = halves w (omega (arith, less))

    of_order : (n < 2 ^ (v - 1)) ⊎ (2 ^ (v - 1) ≤ n) → signed_value w (bits_of w (signed_value v n)) ≡ signed_value v n
    of_order (inl low) =
        ap (λ z. signed_value w (bits_of w z)) (signed_low v n low)
        ∙ ap (signed_value w) (mod-eq_of_lt (omega (arith, lt, half, whole)))
        ∙ signed_low w n (omega (arith, lt, half))
        ∙ sym (signed_low v n low)
    of_order (inr high) =
        let k : ℕ = 2 ^ v - n - 1 in
        ap (λ z. signed_value w (bits_of w z)) (signed_high v n high ∙ below_by n (2 ^ v) lt)
        ∙ ap (λ x. signed_value w (2 ^ w - 1 - x)) (mod-eq_of_lt (omega (arith, lt, half, whole)))
        ∙ signed_high w (2 ^ w - 1 - k) (omega (arith, lt, half, whole))
        ∙ below_by (2 ^ w - 1 - k) (2 ^ w) (omega (arith, half, whole, lt))
        ∙ ap negsuc (omega (arith, half, whole, lt))
        ∙ sym (signed_high v n high ∙ below_by n (2 ^ v) lt)

-- ---- two casts

-- whether the cast is to more bits, or to fewer, as its name says
abbrev pub Changes : Cast → (from to : ℕ) → Type 0
Changes ZeroExtend from to = from < to
Changes SignExtend from to = from < to
Changes Truncate from to = to < from

pub cast_fits : (cast : Cast) (from to a : ℕ) → Changes cast from to → a < 2 ^ from → cast_bits cast from to a < 2 ^ to
cast_fits ZeroExtend from to a changes lt =
    let more : 2 ^ from ≤ 2 ^ to = pow_mono (omega (arith, changes)) in
    omega (arith, lt, more)
cast_fits SignExtend from to a changes lt = whole (signed_value from a)
  where
    whole : (z : ℤ) → bits_of to z < 2 ^ to
    whole (pos n) = mod_below n (2 ^ to) (pow_pos to)
    whole (negsuc n) =
        let some : 0 < 2 ^ to = pow_pos to in
        omega (arith, some)
cast_fits Truncate from to a changes lt = mod_below a (2 ^ to) (pow_pos to)

-- a number of fewer bits, read as signed, is itself
reads_narrow : (v w a : ℕ) → v < w → a < 2 ^ v → signed_value w a ≡ pos a
reads_narrow v w a less lt =
    let half : 2 ^ v ≤ 2 ^ (w - 1) = pow_mono (omega (arith, less)) in
    signed_low w a (omega (arith, lt, half))

cut_of_fewer : (v w a : ℕ) → v ≤ w → a < 2 ^ v → a % 2 ^ w ≡ a
cut_of_fewer v w a le lt =
    let more : 2 ^ v ≤ 2 ^ w = pow_mono le in
    mod-eq_of_lt (omega (arith, lt, more))

is_less : (a b : ℕ) → nat_lt a b ≡ true → a < b
is_less a b e = grind (arith, tests, e)

pub not_less : (a b : ℕ) → nat_lt a b ≡ false → b ≤ a
not_less a b e = grind (arith, tests, e)

-- the cast that two in a row are makes the same of each number
pub joined_numbers : (first second third : Cast) (from mid to a : ℕ) → 1 ≤ from → Changes first from mid → Changes second mid to → joined_cast first second from to ≡ Some third → a < 2 ^ from → cast_bits second mid to (cast_bits first from mid a) ≡ cast_bits third from to a
joined_numbers ZeroExtend ZeroExtend third from mid to a some p q e lt = ap (λ c. cast_bits c from to a) (some_is e)
joined_numbers ZeroExtend SignExtend third from mid to a some p q e lt =
    ap (bits_of to) (reads_narrow from mid a p lt) ∙ cut_of_fewer from to a (omega (arith, p, q)) lt ∙ ap (λ c. cast_bits c from to a) (some_is e)
joined_numbers ZeroExtend Truncate third from mid to a some p q e lt = by (nat_lt from to) refl e
  where
    by : (b : Bool) → nat_lt from to ≡ b → Some (if b then ZeroExtend else Truncate) ≡ Some third → a % 2 ^ to ≡ cast_bits third from to a
    by true f g = cut_of_fewer from to a (omega (arith, is_less from to f)) lt ∙ ap (λ c. cast_bits c from to a) (some_is g)
    by false f g = ap (λ c. cast_bits c from to a) (some_is g)
joined_numbers SignExtend ZeroExtend third from mid to a some p q e lt = absurd (not_none e)
joined_numbers SignExtend SignExtend third from mid to a some p q e lt =
    ap (bits_of to) (reads_again from mid a some p lt) ∙ ap (λ c. cast_bits c from to a) (some_is e)
joined_numbers SignExtend Truncate third from mid to a some p q e lt =
    cut_signed to mid (signed_value from a) (omega (arith, q)) ∙ by (nat_lt from to) refl e
  where
    by : (b : Bool) → nat_lt from to ≡ b → Some (if b then SignExtend else Truncate) ≡ Some third → bits_of to (signed_value from a) ≡ cast_bits third from to a
    by true f g = ap (λ c. cast_bits c from to a) (some_is g)
    by false f g =
        sym (cut_signed to from (signed_value from a) (not_less from to f))
        ∙ ap (λ x. x % 2 ^ to) (bits_again from a lt)
        ∙ ap (λ c. cast_bits c from to a) (some_is g)
joined_numbers Truncate ZeroExtend third from mid to a some p q e lt = absurd (not_none e)
joined_numbers Truncate SignExtend third from mid to a some p q e lt = absurd (not_none e)
joined_numbers Truncate Truncate third from mid to a some p q e lt = short_mod to mid a (omega (arith, q)) ∙ ap (λ c. cast_bits c from to a) (some_is e)

-- and two that lead back leave it
pub back_again : (first second third : Cast) (from mid a : ℕ) → Changes first from mid → Changes second mid from → joined_cast first second from from ≡ Some third → a < 2 ^ from → cast_bits second mid from (cast_bits first from mid a) ≡ a
back_again ZeroExtend ZeroExtend third from mid a p q e lt = refl
back_again ZeroExtend SignExtend third from mid a p q e lt = absurd (omega (arith, p, q))
back_again ZeroExtend Truncate third from mid a p q e lt = mod-eq_of_lt lt
back_again SignExtend ZeroExtend third from mid a p q e lt = absurd (not_none e)
back_again SignExtend SignExtend third from mid a p q e lt = absurd (omega (arith, p, q))
back_again SignExtend Truncate third from mid a p q e lt = cut_signed from mid (signed_value from a) (omega (arith, q)) ∙ bits_again from a lt
back_again Truncate ZeroExtend third from mid a p q e lt = absurd (not_none e)
back_again Truncate SignExtend third from mid a p q e lt = absurd (not_none e)
back_again Truncate Truncate third from mid a p q e lt = absurd (omega (arith, p, q))
