-- Tables that are blank at some keys.
use Rattle.std.proofs.Common.{◌≡◌, ℕ, zero, suc, ◌<◌, Bool, true, false, List, [], ◌∷◌, length, get_or, refl, sym, ap, ◌∙◌, arith, if◌then◌else◌}
use Rattle.std.proofs.lemmas.List.{ext_get_or}
use Rattle.pliron_core.specs.Erased.{blank_at}

pub length-blanked : {A : Type 0} (deleted : ℕ → Bool) (none : A) (xs : List A) → length (blank_at deleted none xs) ≡ length xs
length-blanked deleted none [] = refl
length-blanked deleted none (x ∷ xs) = ap suc (length-blanked (λ k. deleted (suc k)) none xs)

pub get_blanked : {A : Type 0} (deleted : ℕ → Bool) (none : A) (xs : List A) (i : ℕ) → get_or (blank_at deleted none xs) i none ≡ (if deleted i then none else get_or xs i none)
get_blanked deleted none [] i = go (deleted i)
  where
    go : (b : Bool) → none ≡ (if b then none else none)
    go true = refl
    go false = refl
get_blanked deleted none (x ∷ xs) zero = refl
get_blanked deleted none (x ∷ xs) (suc i) = get_blanked (λ k. deleted (suc k)) none xs i

pub blanked_gone : {A : Type 0} (deleted : ℕ → Bool) (none : A) (xs : List A) (i : ℕ) → deleted i ≡ true → get_or (blank_at deleted none xs) i none ≡ none
blanked_gone deleted none xs i e = get_blanked deleted none xs i ∙ ap (λ b. if b then none else get_or xs i none) e

pub blanked_kept : {A : Type 0} (deleted : ℕ → Bool) (none : A) (xs : List A) (i : ℕ) → deleted i ≡ false → get_or (blank_at deleted none xs) i none ≡ get_or xs i none
blanked_kept deleted none xs i e = get_blanked deleted none xs i ∙ ap (λ b. if b then none else get_or xs i none) e

-- a table of the same length that is blank where it is to be, and else the same
pub is_blanked : {A : Type 0} (deleted : ℕ → Bool) (none : A) (xs ys : List A) → length ys ≡ length xs → ((i : ℕ) → deleted i ≡ true → get_or ys i none ≡ none) → ((i : ℕ) → deleted i ≡ false → get_or ys i none ≡ get_or xs i none) → ys ≡ blank_at deleted none xs
is_blanked deleted none xs ys len blank kept = ext_get_or none ys (blank_at deleted none xs) (len ∙ sym (length-blanked deleted none xs)) (λ i lt. go i (deleted i) refl)
  where
    go : (i : ℕ) (b : Bool) → deleted i ≡ b → get_or ys i none ≡ get_or (blank_at deleted none xs) i none
    go i true e = blank i e ∙ sym (blanked_gone deleted none xs i e)
    go i false e = kept i e ∙ sym (blanked_kept deleted none xs i e)

-- the same, for tests that agree within the table
pub blanked_same : {A : Type 0} (deleted away : ℕ → Bool) (none : A) (xs : List A) → ((i : ℕ) → i < length xs → deleted i ≡ away i) → blank_at deleted none xs ≡ blank_at away none xs
blanked_same deleted away none [] same = refl
blanked_same deleted away none (x ∷ xs) same =
    let here : deleted 0 ≡ away 0 = same 0 (omega arith) in
    let rest : blank_at (λ k. deleted (suc k)) none xs ≡ blank_at (λ k. away (suc k)) none xs = blanked_same (λ k. deleted (suc k)) (λ k. away (suc k)) none xs (λ i lt. same (suc i) (omega (arith, lt))) in
    ap (λ b. (if b then none else x) ∷ blank_at (λ k. deleted (suc k)) none xs) here ∙ ap (λ ys. (if away 0 then none else x) ∷ ys) rest

pub blanked_twice : {A : Type 0} (deleted : ℕ → Bool) (none : A) (xs : List A) → blank_at deleted none (blank_at deleted none xs) ≡ blank_at deleted none xs
blanked_twice deleted none [] = refl
blanked_twice deleted none (x ∷ xs) = ap (λ y. y ∷ blank_at (λ k. deleted (suc k)) none (blank_at (λ k. deleted (suc k)) none xs)) (twice (deleted 0)) ∙ ap (λ ys. (if deleted 0 then none else x) ∷ ys) (blanked_twice (λ k. deleted (suc k)) none xs)
  where
    twice : (b : Bool) → (if b then none else (if b then none else x)) ≡ (if b then none else x)
    twice true = refl
    twice false = refl
