-- What is computed of known numbers are facts: knowing more keeps it, and what the identities say of it is so.
use Rattle.std.proofs.Common.{◌≡◌, ℕ, zero, suc, Bool, true, false, if◌then◌else◌, List, [], ◌∷◌, Option, Some, None, option_map, refl, ap, ap₂, ◌∙◌, arith}
use Rattle.std.proofs.lemmas.Int.{ints}
use Rattle.std.proofs.Math.Nat.{div_self, zero-div}
use Rattle.std.specs.Prelude.{ℤ, pos, negsuc, int_div, ◌*ℤ◌}
use Rattle.std.specs.Int.{w64, int_wrap}
use Rattle.pliron_core.specs.declared.attrs.Head.{Head}
use Rattle.pliron_dialect.specs.Identities.{IfAnyIs, IdentityHolds}
use Rattle.pliron_dialect.specs.Roles.{Stays, AllStay, Grows, ComputesFacts, AllSuffice, complete, is_zero}
use Rattle.pliron_dialect_bench.specs.BenchNumbers.{fits, wrapping_product, quotient, known_sum, zero_only, known_product, known_quotient, wrapped_known_at, of_both}
use Rattle.pliron_dialect_bench.specs.BenchMoves.{product_identity, quotient_identity, nothing_else}

-- ---- knowing more

abbrev KeepsMore : (Option ℤ → Option ℤ → Option ℤ) → Type 0
KeepsMore table = (a b c d : Option ℤ) → Stays a c → Stays b d → Stays (table a b) (table c d)

wrap_stays : (o p : Option ℤ) → Stays o p → Stays (option_map (int_wrap w64) o) (option_map (int_wrap w64) p)
wrap_stays None p s = tt
wrap_stays (Some n) p s = ap (option_map (int_wrap w64)) s

at_stays : (os ps : List (Option ℤ)) (i : ℕ) → AllStay os ps → Stays (wrapped_known_at os i) (wrapped_known_at ps i)
at_stays [] ps i s = tt
at_stays (o ∷ os) [] i s = absurd s
at_stays (o ∷ os) (p ∷ ps) zero s = wrap_stays o p s.0
at_stays (o ∷ os) (p ∷ ps) (suc i) s = at_stays os ps i s.1

both_grow : (table : Option ℤ → Option ℤ → Option ℤ) → KeepsMore table → Grows (of_both table)
both_grow table keeps h os ps s = keeps (wrapped_known_at os 0) (wrapped_known_at os 1) (wrapped_known_at ps 0) (wrapped_known_at ps 1) (at_stays os ps 0 s) (at_stays os ps 1 s)

sum_keeps : KeepsMore known_sum
sum_keeps (Some a) (Some b) c d s t = ap₂ known_sum s t
sum_keeps (Some a) None c d s t = tt
sum_keeps None (Some b) c d s t = tt
sum_keeps None None c d s t = tt

wrapped_zero : int_wrap w64 (pos 0) ≡ pos 0
unfolding int_wrap
wrapped_zero = refl

zero_times : (b : ℤ) → pos 0 *ℤ b ≡ pos 0
zero_times b = omega (arith, ints)

times_zero : (a : ℤ) → a *ℤ pos 0 ≡ pos 0
times_zero a = omega (arith, ints)

zero_product : (b : ℤ) → wrapping_product (pos 0) b ≡ pos 0
zero_product b = ap (int_wrap w64) (zero_times b) ∙ wrapped_zero

product_zero : (a : ℤ) → wrapping_product a (pos 0) ≡ pos 0
product_zero a = ap (int_wrap w64) (times_zero a) ∙ wrapped_zero

zero_by : (q : Option ℤ) → known_product (Some (pos 0)) q ≡ Some (pos 0)
zero_by None = refl
zero_by (Some b) = ap Some (zero_product b)

by_zero : (p : Option ℤ) → known_product p (Some (pos 0)) ≡ Some (pos 0)
by_zero None = refl
by_zero (Some a) = ap Some (product_zero a)

first_keeps : (a : ℤ) (c d : Option ℤ) → c ≡ Some a → Stays (zero_only a) (known_product c d)
first_keeps (pos zero) c d e = ap (λ p. known_product p d) e ∙ zero_by d
first_keeps (pos (suc n)) c d e = tt
first_keeps (negsuc n) c d e = tt

second_keeps : (b : ℤ) (c d : Option ℤ) → d ≡ Some b → Stays (zero_only b) (known_product c d)
second_keeps (pos zero) c d e = ap (known_product c) e ∙ by_zero c
second_keeps (pos (suc n)) c d e = tt
second_keeps (negsuc n) c d e = tt

product_keeps : KeepsMore known_product
product_keeps (Some a) (Some b) c d s t = ap₂ known_product s t
product_keeps (Some a) None c d s t = first_keeps a c d s
product_keeps None (Some b) c d s t = second_keeps b c d t
product_keeps None None c d s t = tt

stays_if : (q r : Option ℤ) → r ≡ q → Stays q r
stays_if None r e = tt
stays_if (Some n) r e = e

quotient_keeps : KeepsMore known_quotient
quotient_keeps (Some a) (Some b) c d s t = stays_if (quotient a b) (known_quotient c d) (ap₂ known_quotient s t)
quotient_keeps (Some a) None c d s t = tt
quotient_keeps None (Some b) c d s t = tt
quotient_keeps None None c d s t = tt

-- ---- all numbers

sum_suffices : AllSuffice 2 (of_both known_sum)
sum_suffices h [] e = grind arith
sum_suffices h (a ∷ []) e = grind arith
sum_suffices h (a ∷ b ∷ ns) e = refl

product_suffices : AllSuffice 2 (of_both known_product)
product_suffices h [] e = grind arith
product_suffices h (a ∷ []) e = grind arith
product_suffices h (a ∷ b ∷ ns) e = refl

-- ---- identities

product_holds : (h : Head) → IdentityHolds (product_identity h) (complete (of_both known_product) h)
product_holds h = record {
  bare = refl;
  annihilates = (λ b. ap (λ n. wrapping_product n (int_wrap w64 b)) wrapped_zero ∙ zero_product (int_wrap w64 b), λ a either. ap (wrapping_product (int_wrap w64 a)) wrapped_zero ∙ product_zero (int_wrap w64 a));
  equal = tt;
}

-- 0 by a number is 0, and a number by itself 1, unless that is 0
zero_over : (n : ℤ) → is_zero n ≡ false → int_div (pos 0) n ≡ pos 0
zero_over (pos zero) e = grind arith
zero_over (pos (suc n)) e = ap pos (zero-div (suc n))
zero_over (negsuc n) e = grind (arith, ints, zero-div (suc n))

itself_once : (n : ℤ) → is_zero n ≡ false → int_div n n ≡ pos 1
itself_once (pos zero) e = grind arith
itself_once (pos (suc n)) e = ap pos (div_self {n = suc n} (omega arith))
itself_once (negsuc n) e = ap pos (div_self {n = suc n} (omega arith))

-- the quotient is this number, if there is one
quotient_is : (a b n : ℤ) → (is_zero b ≡ false → int_div a b ≡ n) → IfAnyIs (quotient a b) n
quotient_is a b n is = by_cases (is_zero b) (fits (int_div a b)) refl
  where
    by_cases : (x y : Bool) → is_zero b ≡ x → IfAnyIs (if x then None else if y then Some (int_div a b) else None) n
    by_cases true y e = tt
    by_cases false true e = is e
    by_cases false false e = tt

quotient_holds : (h : Head) → IdentityHolds (quotient_identity h) (complete (of_both known_quotient) h)
quotient_holds h = record {
  bare = refl;
  annihilates = (λ b. quotient_is (int_wrap w64 (pos 0)) (int_wrap w64 b) (pos 0) (λ nonzero. ap (λ a. int_div a (int_wrap w64 b)) wrapped_zero ∙ zero_over (int_wrap w64 b) nonzero), λ a either. grind arith);
  equal = λ a. quotient_is (int_wrap w64 a) (int_wrap w64 a) (pos 1) (itself_once (int_wrap w64 a));
}

-- ---- the facts

pub sum_facts : ComputesFacts (of_both known_sum) nothing_else × AllSuffice 2 (of_both known_sum)
sum_facts = (record { grows = both_grow known_sum sum_keeps; identity_holds = λ h. record { bare = refl; annihilates = tt; equal = tt } }, sum_suffices)

pub product_facts : ComputesFacts (of_both known_product) product_identity × AllSuffice 2 (of_both known_product)
product_facts = (record { grows = both_grow known_product product_keeps; identity_holds = product_holds }, product_suffices)

pub quotient_facts : ComputesFacts (of_both known_quotient) quotient_identity
quotient_facts = record { grows = both_grow known_quotient quotient_keeps; identity_holds = quotient_holds }
