-- Lemmas on tables of rows: one entry written, and the last entry of a row taken off.
use Rattle.std.proofs.Common.{◌≡◌, ◌≢◌, ◌⊎◌, ℕ, zero, suc, ◌-◌, ◌<◌, ◌≤◌, List, [], ◌∷◌, length, take, get_or, set, Option, Some, None, refl, sym, ap, ◌∙◌, inl, inr, arith}
use Rattle.std.specs.List.{slice_get}
use Rattle.std.specs.Option.{IsSome}
use Rattle.std.proofs.lemmas.Bool.{cases_eq, false≢true}
use Rattle.std.proofs.lemmas.Option.{slice_get_within}
use Rattle.std.proofs.lemmas.List.{get_or-set_same, get_or-set_other, length-set, get_or_past, get_or_default}
use Rattle.pliron_core.specs.UseSlots.{at, put, cut}

module _ {A : Type 0} where
  pub set-same : (xs : List A) (j : ℕ) (x y : A) → slice_get xs j ≡ Some y → slice_get (set xs j x) j ≡ Some x
  set-same [] j x y e = absurd (cc)
  set-same (z ∷ zs) zero x y e = refl
  set-same (z ∷ zs) (suc j) x y e = set-same zs j x y e

  pub set-other : (xs : List A) (j p : ℕ) (x : A) → p ≢ j → slice_get (set xs j x) p ≡ slice_get xs p
  set-other [] j p x ne = refl
  set-other (z ∷ zs) zero zero x ne = absurd (ne refl)
  set-other (z ∷ zs) zero (suc p) x ne = refl
  set-other (z ∷ zs) (suc j) zero x ne = refl
  set-other (z ∷ zs) (suc j) (suc p) x ne = set-other zs j p x (λ e. ne (ap suc e))

  pub at-within : (rows : List (List A)) (u p : ℕ) (y : A) → at rows u p ≡ Some y → u < length rows
  at-within rows u p y e =
      elim (cases_lt u) [
        | inl h ↦ h
        | inr h ↦ let none : at rows u p ≡ None = ap (λ r. slice_get r p) (get_or_past rows u [] h) in absurd (cc)
      ]
    where
      cases_lt : (u : ℕ) → (u < length rows) ⊎ (length rows ≤ u)
      cases_lt u = grind arith

  pub at-same : (rows : List (List A)) (i : ℕ) (new : List A) (p : ℕ) → i < length rows → at (set rows i new) i p ≡ slice_get new p
  at-same rows i new p h = ap (λ r. slice_get r p) (get_or-set_same rows i new [] h)

  pub at-other : (rows : List (List A)) (i u : ℕ) (new : List A) (p : ℕ) → u ≢ i → at (set rows i new) u p ≡ at rows u p
  at-other rows i u new p ne = ap (λ r. slice_get r p) (get_or-set_other rows i u new [] ne)

pub same_cell : (u i p j : ℕ) → ((u ≡ i) × (p ≡ j)) ⊎ ((u ≡ i) → (p ≡ j) → ⊥)
same_cell u i p j =
    elim (cases_eq u i) [
      | inl eu ↦ elim (cases_eq p j) [ inl ep ↦ inl (eu, ep) | inr np ↦ inr (λ _ e. np e) ]
      | inr nu ↦ inr (λ e _. nu e)
    ]

module _ {A : Type 0} where
  -- an entry that is there
  pub at-some : (rows : List (List A)) (i j : ℕ) → IsSome (at rows i j) → (y : A) × (at rows i j ≡ Some y)
  at-some rows i j some = found (at rows i j) refl some
    where
      found : (o : Option A) → at rows i j ≡ o → IsSome o → (y : A) × (at rows i j ≡ Some y)
      found None e s = absurd (false≢true s)
      found (Some y) e s = (y, e)

  pub some-at : (o : Option A) (y : A) → o ≡ Some y → IsSome o
  some-at None y e = absurd (cc)
  some-at (Some x) y e = refl

  pub at-inside : (rows : List (List A)) (i j : ℕ) → i < length rows → j < length (get_or rows i []) → IsSome (at rows i j)
  at-inside rows i j hi hj = inside (get_or rows i []) j hj
    where
      inside : (xs : List A) (k : ℕ) → k < length xs → IsSome (slice_get xs k)
      inside [] k h = absurd (omega arith)
      inside (x ∷ xs) zero h = refl
      inside (x ∷ xs) (suc k) h = inside xs k (omega arith)

  pub put-here : (rows : List (List A)) (i j : ℕ) (x y : A) → at rows i j ≡ Some y → at (put rows i j x) i j ≡ Some x
  put-here rows i j x y e = at-same rows i _ j (at-within rows i j y e) ∙ set-same (get_or rows i []) j x y e

  pub put-other : (rows : List (List A)) (i j u p : ℕ) (x y : A) → at rows i j ≡ Some y → ((u ≡ i) → (p ≡ j) → ⊥) → at (put rows i j x) u p ≡ at rows u p
  put-other rows i j u p x y e other =
      elim (cases_eq u i) [
        | inl same ↦ rw same (at-same rows i _ p (at-within rows i j y e) ∙ set-other (get_or rows i []) j p x (other same))
        | inr ne ↦ at-other rows i u _ p ne
      ]

  pub put-cases : (rows : List (List A)) (i j u p : ℕ) (x y w : A) → at rows i j ≡ Some y → at (put rows i j x) u p ≡ Some w
      → ((u ≡ i) × (p ≡ j) × (x ≡ w)) ⊎ (((u ≡ i) → (p ≡ j) → ⊥) × (at rows u p ≡ Some w))
  put-cases rows i j u p x y w e there =
      elim (same_cell u i p j) [
        | inl same ↦
            let here : at (put rows i j x) u p ≡ Some x = rw (same.0, same.1) (put-here rows i j x y e) in
            let is : x ≡ w = cc in
            inl (same.0, same.1, is)
        | inr other ↦ inr (other, sym (put-other rows i j u p x y e other) ∙ there)
      ]

  pub put-length : (rows : List (List A)) (i j u : ℕ) (x y : A) → at rows i j ≡ Some y → length (get_or (put rows i j x) u []) ≡ length (get_or rows u [])
  put-length rows i j u x y e =
      elim (cases_eq u i) [
        | inl same ↦ rw same (ap length (get_or-set_same rows i _ [] (at-within rows i j y e)) ∙ length-set (get_or rows i []) j x)
        | inr ne ↦ ap length (get_or-set_other rows i u _ [] ne)
      ]

  pub take-below : (xs : List A) (n k : ℕ) → k < n → slice_get (take n xs) k ≡ slice_get xs k
  take-below xs zero k h = absurd (omega arith)
  take-below [] (suc n) k h = refl
  take-below (x ∷ xs) (suc n) zero h = refl
  take-below (x ∷ xs) (suc n) (suc k) h = take-below xs n k (omega arith)

  pub take-within : (xs : List A) (n k : ℕ) (w : A) → slice_get (take n xs) k ≡ Some w → (k < n) × (slice_get xs k ≡ Some w)
  take-within xs zero k w e = absurd (cc)
  take-within [] (suc n) k w e = absurd (cc)
  take-within (x ∷ xs) (suc n) zero w e = (omega arith, e)
  take-within (x ∷ xs) (suc n) (suc k) w e = let h = take-within xs n k w e in (omega (arith, h.0), h.1)

  pub cut-cases : (rows : List (List A)) (i u p : ℕ) (w : A) → i < length rows → at (cut rows i) u p ≡ Some w
      → ((u ≡ i) → (p ≡ length (get_or rows i []) - 1) → ⊥) × (at rows u p ≡ Some w)
  cut-cases rows i u p w h e =
      elim (cases_eq u i) [
        | inl same ↦
            let there = take-within (get_or rows i []) (length (get_or rows i []) - 1) p w (sym (at-same rows i _ p h) ∙ ap (λ z. at (cut rows i) z p) (sym same) ∙ e) in
            (λ _ last. omega (arith, there.0, last), ap (λ z. at rows z p) same ∙ there.1)
        | inr ne ↦ (λ eu _. ne eu, sym (at-other rows i u _ p ne) ∙ e)
      ]

  pub cut-kept : (rows : List (List A)) (i u p : ℕ) (w : A) → i < length rows → ((u ≡ i) → (p ≡ length (get_or rows i []) - 1) → ⊥) → at rows u p ≡ Some w → at (cut rows i) u p ≡ Some w
  cut-kept rows i u p w h other e =
      elim (cases_eq u i) [
        | inl same ↦
            let there : slice_get (get_or rows i []) p ≡ Some w = ap (λ z. at rows z p) (sym same) ∙ e in
            let far : p ≢ length (get_or rows i []) - 1 = other same in
            let within = slice_get_within (get_or rows i []) p w there in
            rw same (at-same rows i _ p h ∙ take-below (get_or rows i []) _ p (omega (arith, within, far)) ∙ there)
        | inr ne ↦ at-other rows i u _ p ne ∙ e
      ]

  -- the length of a row that was read
  pub row-length : (rows : List (List A)) (i n : ℕ) (read : List A) → i < length rows → read ≡ get_or rows i read → n ≡ length read → n ≡ length (get_or rows i [])
  row-length rows i n read h e long = long ∙ ap length (e ∙ get_or_default rows i read [] h)
