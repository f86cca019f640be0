-- What comes next in a list, and in what the pieces of a tree make together.
use Rattle.std.proofs.Common.{◌≡◌, ◌≢◌, ℕ, zero, suc, ◌+◌, true, false, nat_eq, ◌&&◌, not, List, [], ◌∷◌, ◌++◌, Option, Some, None, refl, sym, ap, ◌∙◌, subst, inl, inr, arith, append_assoc}
use Rattle.std.specs.List.{slice_get}
use Rattle.std.specs.Option.{is_some}
use Rattle.std.proofs.lemmas.Bool.{cases_eq, ne_eqb, eq-eqb}
use Rattle.pliron_core.specs.Lists.{In, IsDistinct, first_of, next_in}
use Rattle.pliron_core.specs.WalkSteps.{rest_after, rest_from}
use Rattle.pliron_core.proofs.ListLemmas.{distinct-apart, split_at}

-- the first, or the second where there is none
abbrev pub or_next : Option ℕ → Option ℕ → Option ℕ
or_next None o = o
or_next (Some x) o = Some x

pub first_of-or : (xs : List ℕ) (after : Option ℕ) → first_of xs after ≡ or_next (first_of xs None) after
first_of-or [] after = refl
first_of-or (x ∷ xs) after = refl

pub first_of-or_append : (xs ys : List ℕ) → first_of (xs ++ ys) None ≡ or_next (first_of xs None) (first_of ys None)
first_of-or_append [] ys = refl
first_of-or_append (x ∷ xs) ys = refl

pub or_next-some : (o after : Option ℕ) → is_some o ≡ true → or_next o after ≡ o
or_next-some None after e = absurd (cc)
or_next-some (Some x) after e = refl

pub or_next-none : (o after : Option ℕ) → is_some o ≡ false → or_next o after ≡ after
or_next-none None after e = refl
or_next-none (Some x) after e = absurd (cc)

pub or_found : (n a rest : Option ℕ) → n ≡ a → is_some n ≡ true → or_next a rest ≡ n
or_found n a rest e some = ap (λ o. or_next o rest) (sym e) ∙ or_next-some n rest some

pub or_passed : (n a rest : Option ℕ) → n ≡ a → is_some n ≡ false → or_next a rest ≡ rest
or_passed n a rest e none = ap (λ o. or_next o rest) (sym e) ∙ or_next-none n rest none

pub first_of-none : (xs : List ℕ) → is_some (first_of xs None) ≡ false → xs ≡ []
first_of-none [] e = refl
first_of-none (x ∷ xs) e = absurd (cc)

pub rest_after-split : (x : ℕ) (front back : List ℕ) → (In x front → ⊥) → rest_after x (front ++ x ∷ back) ≡ back
rest_after-split x [] back out = rw eq-eqb refl
rest_after-split x (y ∷ ys) back out = let ne : x ≢ y = λ e. out (inl e) in rw (ne_eqb x y ne) (rest_after-split x ys back (λ i. out (inr i)))

-- what comes next is the first of the rest
pub next_in-rest : (x : ℕ) (xs : List ℕ) → next_in x xs ≡ first_of (rest_after x xs) None
next_in-rest x [] = refl
next_in-rest x (y ∷ ys) = elim (cases_eq x y) [ inl e ↦ rw (eq-eqb x y e) refl | inr ne ↦ rw (ne_eqb x y ne) (next_in-rest x ys) ]

-- a member of a list without repeats stands between what is before it and the rest
pub rest_after-parts : (x : ℕ) (xs : List ℕ) → IsDistinct xs → In x xs → (front : List ℕ) × (xs ≡ front ++ x ∷ rest_after x xs) × (In x front → ⊥)
rest_after-parts x xs d i =
    let s = split_at x xs i in
    let out : In x s.0 → ⊥ = λ j. distinct-apart s.0 (x ∷ s.1) (subst IsDistinct s.2 d) x j (inl refl) in
    let rest : rest_after x xs ≡ s.1 = ap (rest_after x) s.2 ∙ rest_after-split x s.0 s.1 out in
    (s.0, s.2 ∙ ap (λ zs. s.0 ++ x ∷ zs) (sym rest), out)

-- from what comes next on, the list has the rest
pub rest_from-next : (x : ℕ) (xs : List ℕ) → IsDistinct xs → In x xs → rest_from (next_in x xs) xs ≡ rest_after x xs
rest_from-next x xs d i =
    let p = rest_after-parts x xs d i in
    ap (λ o. rest_from o xs) (next_in-rest x xs) ∙ go (rest_after x xs) (p.0 ++ x ∷ []) (p.1 ∙ sym (append_assoc p.0 (x ∷ []) (rest_after x xs)))
  where
    go : (back front : List ℕ) → xs ≡ front ++ back → rest_from (first_of back None) xs ≡ back
    go [] front e = refl
    go (y ∷ ys) front e =
        ap (λ zs. y ∷ zs) (ap (rest_after y) e ∙ rest_after-split y front ys (λ j. distinct-apart front (y ∷ ys) (subst IsDistinct e d) y j (inl refl)))

pub rest_from-first : (x : ℕ) (xs : List ℕ) → rest_from (Some x) (x ∷ xs) ≡ x ∷ xs
rest_from-first x xs = rw eq-eqb refl

-- what comes next is a member, and not the first one
pub next_in-member : (x y z : ℕ) (ys : List ℕ) → next_in x (y ∷ ys) ≡ Some z → In z ys
next_in-member x y z [] e =
    elim (cases_eq x y) [
      | inl s ↦ let none : next_in x (y ∷ []) ≡ None = rw (eq-eqb x y s) refl in absurd (cc)
      | inr ne ↦ let none : next_in x (y ∷ []) ≡ None = rw (ne_eqb x y ne) refl in absurd (cc)
    ]
next_in-member x y z (v ∷ vs) e =
    elim (cases_eq x y) [
      | inl s ↦ let found : next_in x (y ∷ v ∷ vs) ≡ Some v = rw (eq-eqb x y s) refl in inl (cc)
      | inr ne ↦ let further : next_in x (y ∷ v ∷ vs) ≡ next_in x (v ∷ vs) = rw (ne_eqb x y ne) refl in inr (next_in-member x v z vs (sym further ∙ e))
    ]

-- by indices
pub next_in-slice_get : (xs : List ℕ) (i x : ℕ) → IsDistinct xs → slice_get xs i ≡ Some x → next_in x xs ≡ slice_get xs (i + 1)
next_in-slice_get [] i x d e = absurd (cc)
next_in-slice_get (y ∷ ys) zero x d e =
    let s : x ≡ y = cc in rw (eq-eqb x y s) (go ys)
  where
    go : (ys : List ℕ) → first_of ys None ≡ slice_get ys 0
    go [] = refl
    go (z ∷ zs) = refl
next_in-slice_get (y ∷ ys) (suc i) x d e =
    let ne : x ≢ y = λ s. d.0 (subst (λ z. In z ys) s (member ys i e)) in
    let step : suc i + 1 ≡ suc (i + 1) = omega arith in
    rw (ne_eqb x y ne, step) (next_in-slice_get ys i x d.1 e)
  where
    member : (zs : List ℕ) (j : ℕ) → slice_get zs j ≡ Some x → In x zs
    member [] j e = absurd (cc)
    member (z ∷ zs) zero e = inl (cc)
    member (z ∷ zs) (suc j) e = inr (member zs j e)

-- what a comparison of keys says
pub keys_differ : (a b : ℕ) → false ≡ (nat_eq a b && true) → a ≢ b
keys_differ a b e s = let same : (nat_eq a b && true) ≡ true = ap (λ z. z && true) (eq-eqb a b s) in absurd (cc)

pub keys_unequal : (a b : ℕ) → true ≡ not (nat_eq a b && true) → a ≢ b
keys_unequal a b e s = let same : not (nat_eq a b && true) ≡ false = ap (λ z. not (z && true)) (eq-eqb a b s) in absurd (cc)

pub keys_same : (a b : ℕ) → false ≡ not (nat_eq a b && true) → a ≡ b
keys_same a b e =
    elim (cases_eq a b) [
      | inl s ↦ s
      | inr ne ↦ let differ : not (nat_eq a b && true) ≡ true = ap (λ z. not (z && true)) (ne_eqb a b ne) in absurd (cc)
    ]

-- a loop that goes on by what comes next takes the members in turn: from x on the list has x, and
-- then what it has from the next on
pub rest_from-step : (xs : List ℕ) (x : ℕ) (o : Option ℕ) → IsDistinct xs → In x xs → o ≡ next_in x xs → rest_from (Some x) xs ≡ x ∷ rest_from o xs
rest_from-step xs x o d i e = ap (λ zs. x ∷ zs) (sym (ap (λ z. rest_from z xs) e ∙ rest_from-next x xs d i))
