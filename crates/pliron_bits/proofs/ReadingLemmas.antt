-- The signed reading and the bits of whole numbers are inverse, and signed sums have the bits of unsigned ones.
use Rattle.std.proofs.Common.{◌≡◌, ℕ, zero, suc, ◌+◌, ◌-◌, ◌*◌, ◌^◌, ◌<◌, ◌≤◌, Bool, true, false, nat_lt, if◌then◌else◌, IsTrue, ap, ◌∙◌, arith, tests, ℤ, pos, negsuc, ◌-ℤ◌}
use Rattle.std.proofs.Math.Nat.{mod-eq_of_lt, pow-suc}
use Rattle.std.proofs.lemmas.Int.{ints}
use Rattle.pliron_bits.specs.Numbers.{signed_value, is_signed, bits_of}

halves : (w : ℕ) → 1 ≤ w → 2 ^ w ≡ 2 ^ (w - 1) + 2 ^ (w - 1)
halves zero le = absurd (omega (arith, le))
halves (suc w) le =
    let twice : 2 ^ w * 2 ≡ 2 ^ w + 2 ^ w = omega arith in
    let back : w ≡ suc w - 1 = omega arith in
    pow-suc 2 w ∙ twice ∙ ap (λ k. 2 ^ k + 2 ^ k) back

below_by : (n m : ℕ) → n < m → pos n -ℤ pos m ≡ negsuc (m - n - 1)
below_by n m lt = omega (arith, ints, lt)

-- a number less the size of its width has the same bits
less_size : (w n : ℕ) → n < 2 ^ w → bits_of w (pos n -ℤ pos (2 ^ w)) ≡ n
less_size w n lt =
    ap (bits_of w) (below_by n (2 ^ w) lt)
    ∙ ap (λ x. 2 ^ w - 1 - x) (mod-eq_of_lt (omega (arith, lt)))
    ∙ omega (arith, lt)

pub bits-signed : (w n : ℕ) → n < 2 ^ w → bits_of w (signed_value w n) ≡ n
bits-signed w n lt = of_bool (nat_lt n (2 ^ (w - 1)))
  where
    of_bool : (b : Bool) → bits_of w (if b then pos n else pos n -ℤ pos (2 ^ w)) ≡ n
    of_bool true = mod-eq_of_lt lt
    of_bool false = less_size w n lt

signed_low : (w n : ℕ) → n < 2 ^ (w - 1) → signed_value w n ≡ pos n
signed_low w n lt = ap (λ b. if b then pos n else pos n -ℤ pos (2 ^ w)) (yes n (2 ^ (w - 1)) lt)
  where
    yes : (a b : ℕ) → a < b → nat_lt a b ≡ true
    yes a b h = grind (arith, tests)

signed_high : (w n : ℕ) → 2 ^ (w - 1) ≤ n → signed_value w n ≡ pos n -ℤ pos (2 ^ w)
signed_high w n le = ap (λ b. if b then pos n else pos n -ℤ pos (2 ^ w)) (no_less n (2 ^ (w - 1)) le)
  where
    no_less : (a b : ℕ) → b ≤ a → nat_lt a b ≡ false
    no_less a b h = grind (arith, tests)

bound_above : (w n : ℕ) → IsTrue (is_signed w (pos n)) → n < 2 ^ (w - 1)
bound_above w n s = grind (arith, tests, ints)

bound_below : (w n : ℕ) → IsTrue (is_signed w (negsuc n)) → n < 2 ^ (w - 1)
bound_below w n s = grind (arith, tests, ints)

pub signed-bits : (w : ℕ) (z : ℤ) → 1 ≤ w → IsTrue (is_signed w z) → signed_value w (bits_of w z) ≡ z
signed-bits w (pos n) le s =
    let lt : n < 2 ^ (w - 1) = bound_above w n s in
    let whole : 2 ^ w ≡ 2 ^ (w - 1) + 2 ^ (w - 1) = halves w le in
    ap (signed_value w) (mod-eq_of_lt (omega (arith, lt, whole))) ∙ signed_low w n lt
signed-bits w (negsuc n) le s =
    let lt : n < 2 ^ (w - 1) = bound_below w n s in
    let whole : 2 ^ w ≡ 2 ^ (w - 1) + 2 ^ (w - 1) = halves w le in
    ap (λ x. signed_value w (2 ^ w - 1 - x)) (mod-eq_of_lt (omega (arith, lt, whole)))
    ∙ signed_high w (2 ^ w - 1 - n) (omega (arith, lt, whole))
    ∙ below_by (2 ^ w - 1 - n) (2 ^ w) (omega (arith, lt, whole))
    ∙ ap negsuc (omega (arith, lt, whole))
