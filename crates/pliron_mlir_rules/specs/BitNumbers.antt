-- Numbers bit by bit.
use Rattle.std.proofs.Common.{◌≡◌, ℕ, ◌+◌, ◌-◌, ◌%◌, ◌^◌, ◌<◌, ◌≤◌, ◌⊎◌, inl, inr, max, false, nat_eq, ap, sym, ◌∙◌, arith, tests}
use Rattle.std.specs.Prelude.{bit_and, bit_or, bit_xor}
use Rattle.std.specs.Int.{bit_at}
use Rattle.std.specs.Int.Bits.{or_add_and, xor_assoc, xor_self, xor_zero_l, xor_zero_r}
use Rattle.std.proofs.Math.Nat.{mod-eq_of_lt, mod-eq-sub-mod}
use Rattle.std.proofs.lemmas.Bool.Decides.{Decides-eqb, Decides-like, same_from_decides}
use Rattle.std.proofs.lemmas.Nat.{and_mask, and_comm}
use Rattle.std.proofs.lemmas.Nat.Bits.{bit_at_or, same_from_bits}
use Rattle.pliron_mlir_rules.specs.CastNumbers.{order}

-- the order of two `|` is free
pub or_joins : (a b c : ℕ) → bit_or (bit_or a b) c ≡ bit_or a (bit_or b c)
or_joins a b c = same_from_bits (bit_or (bit_or a b) c) (bit_or a (bit_or b c)) (λ i. each i)
  where
    greatest : (x y z : ℕ) → max (max x y) z ≡ max x (max y z)
    greatest x y z = omega arith

    each : (i : ℕ) → bit_at (bit_or (bit_or a b) c) i ≡ bit_at (bit_or a (bit_or b c)) i
    each i =
        bit_at_or (bit_or a b) c i
        ∙ ap (λ x. max x (bit_at c i)) (bit_at_or a b i)
        ∙ greatest (bit_at a i) (bit_at b i) (bit_at c i)
        ∙ ap (max (bit_at a i)) (sym (bit_at_or b c i))
        ∙ sym (bit_at_or a (bit_or b c) i)

-- all bits
pub ones_keep : (w a : ℕ) → a < 2 ^ w → bit_and a (2 ^ w - 1) ≡ a
ones_keep w a lt = and_mask a w ∙ mod-eq_of_lt lt

pub ones_take : (w a : ℕ) → a < 2 ^ w → bit_or (2 ^ w - 1) a ≡ 2 ^ w - 1
ones_take w a lt =
    let whole : bit_or (2 ^ w - 1) a + bit_and (2 ^ w - 1) a ≡ 2 ^ w - 1 + a = or_add_and (2 ^ w - 1) a in
    let kept : bit_and (2 ^ w - 1) a ≡ a = and_comm (2 ^ w - 1) a ∙ ones_keep w a lt in
    omega (arith, whole, kept)

-- ---- what differs

-- the difference of two numbers is 0 where they are equal
pub no_difference : (m a b : ℕ) → a < m → b < m → nat_eq ((a + (m - b)) % m) 0 ≡ nat_eq a b
no_difference m a b p q = of_order (order a b)
  where
    less : (x y : ℕ) → x < y → nat_eq x y ≡ false
    less x y lt = grind (arith, tests, lt)

    some : (x : ℕ) → 0 < x → nat_eq x 0 ≡ false
    some x lt = grind (arith, tests, lt)

    back : (x y : ℕ) → y ≤ x → nat_eq (x - y) 0 ≡ nat_eq x y
    back x y le = grind (arith, tests, le)

    of_order : (a < b) ⊎ (b ≤ a) → nat_eq ((a + (m - b)) % m) 0 ≡ nat_eq a b
    of_order (inl lt) =
        let fits : a + (m - b) < m = omega (arith, lt, q) in
        let more : 0 < a + (m - b) = omega (arith, q) in
        ap (λ x. nat_eq x 0) (mod-eq_of_lt fits) ∙ some (a + (m - b)) more ∙ sym (less a b lt)
    of_order (inr le) =
        let over : m ≤ a + (m - b) = omega (arith, le, q) in
        let rest : a + (m - b) - m ≡ a - b = omega (arith, le, q) in
        let fits : a - b < m = omega (arith, p) in
        ap (λ x. nat_eq x 0) (mod-eq-sub-mod over ∙ ap (λ x. x % m) rest ∙ mod-eq_of_lt fits) ∙ back a b le

-- the bits of one of two numbers alone are none where they are equal
pub no_exclusion : (a b : ℕ) → nat_eq (bit_xor a b) 0 ≡ nat_eq a b
no_exclusion a b =
    same_from_decides (nat_eq (bit_xor a b) 0) (nat_eq a b)
    (Decides-like (nat_eq (bit_xor a b) 0) forth back (Decides-eqb (bit_xor a b) 0))
    (Decides-eqb a b)
  where
    forth : bit_xor a b ≡ 0 → a ≡ b
    forth e = sym (xor_zero_r a) ∙ ap (bit_xor a) (sym (xor_self b)) ∙ sym (xor_assoc a b b) ∙ ap (λ x. bit_xor x b) e ∙ xor_zero_l b

    back : a ≡ b → bit_xor a b ≡ 0
    back e = ap (λ x. bit_xor x b) e ∙ xor_self b
