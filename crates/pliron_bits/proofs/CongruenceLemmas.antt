-- Sums and differences of numbers read as signed have the bits of the unsigned ones.
use Rattle.std.proofs.Common.{◌≡◌, ℕ, zero, suc, ◌+◌, ◌-◌, ◌%◌, ◌^◌, ◌<◌, ◌≤◌, ◌⊎◌, inl, inr, Bool, true, false, nat_lt, if◌then◌else◌, refl, ap, sym, ◌∙◌, arith, ℤ, pos, negsuc, ◌+ℤ◌, ◌-ℤ◌}
use Rattle.std.proofs.Math.Nat.{mod-eq_of_lt, mod-eq-sub-mod}
use Rattle.std.proofs.lemmas.Int.{ints}
use Rattle.pliron_bits.specs.Numbers.{signed_value, bits_of}

order : (n m : ℕ) → (n < m) ⊎ (m ≤ n)
order n zero = inr (omega arith)
order zero (suc m) = inl (omega arith)
order (suc n) (suc m) = again (order n m)
  where
    again : (n < m) ⊎ (m ≤ n) → (suc n < suc m) ⊎ (suc m ≤ suc n)
    again (inl lt) = inl (omega (arith, lt))
    again (inr le) = inr (omega (arith, le))

below_by : (n m : ℕ) → n < m → pos n -ℤ pos m ≡ negsuc (m - n - 1)
below_by n m lt = omega (arith, ints, lt)

above_by : (n m : ℕ) → m ≤ n → pos n -ℤ pos m ≡ pos (n - m)
above_by n m le = omega (arith, ints, le)

further : (n m : ℕ) → negsuc n -ℤ pos m ≡ negsuc (n + m)
further n m = omega (arith, ints)

-- a whole number and the one less by the size of the width have the same bits
less_once : (w : ℕ) (z : ℤ) → bits_of w (z -ℤ pos (2 ^ w)) ≡ bits_of w z
less_once w (pos n) = of_order (order n (2 ^ w))
  where
    of_order : (n < 2 ^ w) ⊎ (2 ^ w ≤ n) → bits_of w (pos n -ℤ pos (2 ^ w)) ≡ n % 2 ^ w
    of_order (inl lt) =
        ap (bits_of w) (below_by n (2 ^ w) lt)
        ∙ ap (λ x. 2 ^ w - 1 - x) (mod-eq_of_lt (omega (arith, lt)))
        ∙ omega (arith, lt) ∙ sym (mod-eq_of_lt lt)
    of_order (inr le) = ap (bits_of w) (above_by n (2 ^ w) le) ∙ sym (mod-eq-sub-mod le)
less_once w (negsuc n) =
    ap (bits_of w) (further n (2 ^ w))
    ∙ ap (λ x. 2 ^ w - 1 - x) (mod-eq-sub-mod (omega arith) ∙ ap (λ x. x % 2 ^ w) (omega arith))

pub sums_agree : (w a b : ℕ) → bits_of w (signed_value w a +ℤ signed_value w b) ≡ (a + b) % 2 ^ w
sums_agree w a b = of_bools (nat_lt a (2 ^ (w - 1))) (nat_lt b (2 ^ (w - 1)))
  where
    of_bools : (x y : Bool) → bits_of w ((if x then pos a else pos a -ℤ pos (2 ^ w)) +ℤ (if y then pos b else pos b -ℤ pos (2 ^ w))) ≡ (a + b) % 2 ^ w
    of_bools true true = refl
    of_bools true false =
        let e : pos a +ℤ (pos b -ℤ pos (2 ^ w)) ≡ pos (a + b) -ℤ pos (2 ^ w) = omega (arith, ints) in
        ap (bits_of w) e ∙ less_once w (pos (a + b))
    of_bools false true =
        let e : (pos a -ℤ pos (2 ^ w)) +ℤ pos b ≡ pos (a + b) -ℤ pos (2 ^ w) = omega (arith, ints) in
        ap (bits_of w) e ∙ less_once w (pos (a + b))
    of_bools false false =
        let e : (pos a -ℤ pos (2 ^ w)) +ℤ (pos b -ℤ pos (2 ^ w)) ≡ (pos (a + b) -ℤ pos (2 ^ w)) -ℤ pos (2 ^ w) = omega (arith, ints) in
        ap (bits_of w) e ∙ less_once w (pos (a + b) -ℤ pos (2 ^ w)) ∙ less_once w (pos (a + b))

pub differences_agree : (w a b : ℕ) → b < 2 ^ w → bits_of w (signed_value w a -ℤ signed_value w b) ≡ (a + (2 ^ w - b)) % 2 ^ w
differences_agree w a b lt = of_bools (nat_lt a (2 ^ (w - 1))) (nat_lt b (2 ^ (w - 1)))
  where
    of_bools : (x y : Bool) → bits_of w ((if x then pos a else pos a -ℤ pos (2 ^ w)) -ℤ (if y then pos b else pos b -ℤ pos (2 ^ w))) ≡ (a + (2 ^ w - b)) % 2 ^ w
    of_bools true true =
        let e : pos a -ℤ pos b ≡ pos (a + (2 ^ w - b)) -ℤ pos (2 ^ w) = omega (arith, ints, lt) in
        ap (bits_of w) e ∙ less_once w (pos (a + (2 ^ w - b)))
    of_bools true false =
        let e : pos a -ℤ (pos b -ℤ pos (2 ^ w)) ≡ pos (a + (2 ^ w - b)) = omega (arith, ints, lt) in
        ap (bits_of w) e
    of_bools false true =
        let e : (pos a -ℤ pos (2 ^ w)) -ℤ pos b ≡ (pos (a + (2 ^ w - b)) -ℤ pos (2 ^ w)) -ℤ pos (2 ^ w) = omega (arith, ints, lt) in
        ap (bits_of w) e ∙ less_once w (pos (a + (2 ^ w - b)) -ℤ pos (2 ^ w)) ∙ less_once w (pos (a + (2 ^ w - b)))
    of_bools false false =
        let e : (pos a -ℤ pos (2 ^ w)) -ℤ (pos b -ℤ pos (2 ^ w)) ≡ pos (a + (2 ^ w - b)) -ℤ pos (2 ^ w) = omega (arith, ints, lt) in
        ap (bits_of w) e ∙ less_once w (pos (a + (2 ^ w - b)))
