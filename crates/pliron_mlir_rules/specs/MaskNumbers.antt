-- Masks of low bits, fewer than all.
use Rattle.std.proofs.Common.{◌≡◌, ℕ, ◌+◌, ◌-◌, ◌%◌, ◌^◌, ◌<◌, ◌≤◌, refl, ap, sym, ◌∙◌, subst, arith}
use Rattle.std.proofs.Math.Nat.{mod-eq_of_lt}
use Rattle.std.proofs.Math.Pow.{not_mod, pow-lt, pow_mono}
use Rattle.std.proofs.lemmas.Nat.{pow_pos}

pub mask_fits : (k w : ℕ) → k < w → 2 ^ k - 1 < 2 ^ w
mask_fits k w less =
    let some : 0 < 2 ^ k = pow_pos k in
    let more : 2 ^ k < 2 ^ w = pow-lt less in
    omega (arith, some, more)

pub mask_not_all : (k w : ℕ) → k < w → 2 ^ k - 1 ≡ 2 ^ w - 1 → ⊥
mask_not_all k w less e =
    let some : 0 < 2 ^ k = pow_pos k in
    let more : 2 ^ k < 2 ^ w = pow-lt less in
    omega (arith, some, more, e)

pub mask_not_none : (k : ℕ) → 1 ≤ k → 2 ^ k - 1 ≡ 0 → ⊥
mask_not_none k some e =
    let two : 2 ^ 1 ≤ 2 ^ k = pow_mono some in
    omega (arith, two, e)

pub mask_cut : (k : ℕ) → (2 ^ k - 1) % 2 ^ k ≡ 2 ^ k - 1
mask_cut k =
    let some : 0 < 2 ^ k = pow_pos k in
    mod-eq_of_lt (omega (arith, some))

less_none : (n : ℕ) → n - 0 ≡ n
less_none n = omega arith

pub ones_cut : (k w : ℕ) → k < w → (2 ^ w - 1) % 2 ^ k ≡ 2 ^ k - 1
ones_cut k w less =
    let rest : w - k + k ≡ w = omega (arith, less) in
    subst (λ v. (2 ^ v - 1) % 2 ^ k ≡ 2 ^ k - 1) rest (ap (λ x. x % 2 ^ k) (sym (less_none (2 ^ (w - k + k) - 1))) ∙ not_mod (w - k) k (pow_pos k) ∙ less_none (2 ^ k - 1))
