-- Numbers of 64 signed bits, as the calls on integers compute them.
use Rattle.std.proofs.Common.{◌≡◌, ◌⊎◌, inl, inr, ℕ, zero, suc, ◌<◌, ◌^◌, Bool, true, false, Option, Some, None, IsTrue, FitsSigned, SomeIff, if◌then◌else◌, refl, ap, sym, ◌∙◌, arith, rules, int_div, unsigned_abs, to_z, of_z}
use Rattle.std.specs.Prelude.{ℤ, pos, negsuc}
use Rattle.std.specs.Int.{w64, CanDivide, cast_unsigned, int_rem_euclid, int_wrap}
use Rattle.std.proofs.lemmas.Option.{slice_get_past}
use Rattle.std.proofs.lemmas.Int.{SFits-int_wrap, to_z-of_z}
use Rattle.pliron_dialect_bench.specs.Bench.{kinds, kind_of}
use Rattle.pliron_dialect_bench.specs.BenchNumbers.{fits, quotient}
use Rattle.pliron_dialect.specs.Roles.{is_zero}

-- no kind has a number past the last one
pub none_past : (n : ℕ) → 15 < n → kind_of n ≡ None
unfolding kind_of
none_past n lt = slice_get_past kinds n (omega (arith, lt))

fit : (n : ℤ) → FitsSigned w64 n → IsTrue (fits n)
fit (pos n) h = let lt = h.sfits in search (rules, arith)
fit (negsuc n) h = let lt = h.sfits in search (rules, arith)

fits_back : (n : ℤ) → IsTrue (fits n) → FitsSigned w64 n
fits_back (pos n) h = record { sfits = search (rules, arith) }
fits_back (negsuc n) h = record { sfits = search (rules, arith) }

not_zero : (b : ℤ) → 0 < cast_unsigned w64 b → is_zero b ≡ false
not_zero (pos zero) lt = absurd (omega (arith, lt))
not_zero (pos (suc n)) lt = refl
not_zero (negsuc n) lt = refl

zero_or : (b : ℤ) → FitsSigned w64 b → (is_zero b ≡ true) ⊎ (0 < cast_unsigned w64 b)
zero_or (pos zero) h = inl refl
zero_or (pos (suc n)) h = inr (omega arith)
zero_or (negsuc n) h = let lt = h.sfits in inr (omega (arith, lt))

fit_or : (n : ℤ) → (fits n ≡ true) ⊎ (fits n ≡ false)
fit_or n = go (fits n)
  where
    go : (x : Bool) → (x ≡ true) ⊎ (x ≡ false)
    go true = inl refl
    go false = inr refl

divides : (a b : ℤ) → is_zero b ≡ false → fits (int_div a b) ≡ true → quotient a b ≡ Some (int_div a b)
divides a b e f = ap (λ x. if x then None else if fits (int_div a b) then Some (int_div a b) else None) e ∙ ap (λ x. if x then Some (int_div a b) else None) f

traps_at_zero : (a b : ℤ) → is_zero b ≡ true → quotient a b ≡ None
traps_at_zero a b e = ap (λ x. if x then None else if fits (int_div a b) then Some (int_div a b) else None) e

traps_beyond : (a b : ℤ) → is_zero b ≡ false → fits (int_div a b) ≡ false → quotient a b ≡ None
traps_beyond a b e f = ap (λ x. if x then None else if fits (int_div a b) then Some (int_div a b) else None) e ∙ ap (λ x. if x then Some (int_div a b) else None) f

-- what `checked_div` answers
pub checked_quotient : (r : Option ℤ) (a b : ℤ) → FitsSigned w64 b → SomeIff r (CanDivide w64 a b) (int_div a b) → r ≡ quotient a b
checked_quotient (Some q) a b h s = ap Some s.1 ∙ sym (divides a b (not_zero b s.0.0) (fit (int_div a b) s.0.1))
checked_quotient None a b h s = go (zero_or b h) (fit_or (int_div a b))
  where
    go : (is_zero b ≡ true) ⊎ (0 < cast_unsigned w64 b) → (fits (int_div a b) ≡ true) ⊎ (fits (int_div a b) ≡ false) → None ≡ quotient a b
    go (inl z) f = sym (traps_at_zero a b z)
    go (inr lt) (inl f) = absurd (s (lt, fits_back (int_div a b) f))
    go (inr lt) (inr f) = sym (traps_beyond a b (not_zero b lt) f)

rem_wrapped : (n r : ℤ) → r ≡ int_rem_euclid n (pos (2 ^ 64)) → to_z w64 (unsigned_abs r) ≡ int_wrap w64 n
unfolding int_wrap
rem_wrapped n r e = ap (λ z. to_z w64 (unsigned_abs z)) e

-- the remainder by 2 to the power of 64, as a number of 64 signed bits
pub wrapped_is : (n r s : ℤ) → r ≡ int_rem_euclid n (pos (2 ^ 64)) → s ≡ to_z w64 (unsigned_abs r) → to_z w64 (of_z w64 s) ≡ int_wrap w64 n
wrapped_is n r s e f = ap (λ z. to_z w64 (of_z w64 z)) (f ∙ rem_wrapped n r e) ∙ to_z-of_z w64 (int_wrap w64 n) (SFits-int_wrap w64 n)
