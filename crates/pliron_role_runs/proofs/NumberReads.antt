-- Numbers of 64 signed bits, as the calls on integers compute them, and numbers that are known.
use Rattle.std.proofs.Common.{◌≡◌, ℕ, zero, suc, ◌<◌, ◌^◌, ◌&&◌, true, false, List, [], ◌∷◌, length, take, Option, Some, None, refl, ap, sym, ◌∙◌, arith, unsigned_abs, to_z, of_z}
use Rattle.std.specs.Prelude.{ℤ, pos, is_some, slice_index_or}
use Rattle.std.specs.Int.{w64, int_rem_euclid, int_wrap}
use Rattle.std.proofs.lemmas.Int.{SFits-int_wrap, to_z-of_z}
use Rattle.pliron_role_runs.specs.Numbers.{are_known}

rem_wrapped : (n r : ℤ) → r ≡ int_rem_euclid n (pos (2 ^ 64)) → to_z w64 (unsigned_abs r) ≡ int_wrap w64 n
unfolding int_wrap
rem_wrapped n r e = ap (λ z. to_z w64 (unsigned_abs z)) e

-- the remainder by 2 to the power of 64, as a number of 64 signed bits
pub wrapped_is : (n r s : ℤ) → r ≡ int_rem_euclid n (pos (2 ^ 64)) → s ≡ to_z w64 (unsigned_abs r) → to_z w64 (of_z w64 s) ≡ int_wrap w64 n
wrapped_is n r s e f = ap (λ z. to_z w64 (of_z w64 z)) (f ∙ rem_wrapped n r e) ∙ to_z-of_z w64 (int_wrap w64 n) (SFits-int_wrap w64 n)

-- ---- whether all are known

pub one_more_known : (os : List (Option ℤ)) (i : ℕ) (n : ℤ) → i < length os → are_known (take i os) ≡ true → Some n ≡ slice_index_or os i None → are_known (take (suc i) os) ≡ true
one_more_known [] i n lt e f = absurd (omega (arith, lt))
one_more_known (o ∷ os) zero n lt e f = ap (λ z. is_some z && true) (sym f)
one_more_known (None ∷ os) (suc i) n lt e f = grind arith
one_more_known (Some m ∷ os) (suc i) n lt e f = one_more_known os i n (omega (arith, lt)) e f

pub one_unknown : (os : List (Option ℤ)) (i : ℕ) → i < length os → None ≡ slice_index_or os i None → false ≡ are_known os
one_unknown [] i lt f = absurd (omega (arith, lt))
one_unknown (o ∷ os) zero lt f = ap (λ z. is_some z && are_known os) f
one_unknown (None ∷ os) (suc i) lt f = refl
one_unknown (Some m ∷ os) (suc i) lt f = one_unknown os i (omega (arith, lt)) f
