-- The last of a list, and lists without an element.
use Rattle.std.proofs.Common.{◌≡◌, ◌≢◌, ◌⊎◌, ℕ, zero, suc, ◌-◌, Bool, true, false, nat_eq, List, [], ◌∷◌, ◌++◌, length, take, Option, Some, None, refl, sym, ap, ◌∙◌, subst, inl, inr, arith, slice_get, length-append, if◌then◌else◌}
use Rattle.std.proofs.lemmas.List.{take_at}
use Rattle.pliron_core.specs.Tree.{In, IsRising, without, last_of}

-- what stands last is there, and what stands before it
pub last_split : (before : Option ℕ) (xs : List ℕ) (x : ℕ) → last_of before xs ≡ Some x → ((xs ≡ []) × (before ≡ Some x)) ⊎ ((front : List ℕ) × (xs ≡ front ++ x ∷ []))
last_split before [] x e = inl (refl, e)
last_split before (y ∷ ys) x e = inr (go (last_split (Some y) ys x e))
  where
    go : ((ys ≡ []) × (Some y ≡ Some x)) ⊎ ((front : List ℕ) × (ys ≡ front ++ x ∷ [])) → (front : List ℕ) × (y ∷ ys ≡ front ++ x ∷ [])
    go (inl s) = let f : y ≡ x = cc in ([], ap (λ zs. y ∷ zs) s.0 ∙ ap (λ z. z ∷ []) f)
    go (inr s) = (y ∷ s.0, ap (λ zs. y ∷ zs) s.1)

pub last_front : (xs : List ℕ) (x : ℕ) → last_of None xs ≡ Some x → (front : List ℕ) × (xs ≡ front ++ x ∷ [])
last_front xs x e = elim (last_split None xs x e) [ inl s ↦ absurd (cc) | inr s ↦ s ]

pub in_end : (x : ℕ) (front : List ℕ) → In x (front ++ x ∷ [])
in_end x [] = inl refl
in_end x (y ∷ ys) = inr (in_end x ys)

pub last_in : (xs : List ℕ) (x : ℕ) → last_of None xs ≡ Some x → In x xs
last_in xs x e = let s = last_front xs x e in subst (In x) (sym s.1) (in_end x s.0)

-- what a list has last, it has last after anything
pub last_after : (before : Option ℕ) (xs : List ℕ) (x : ℕ) → last_of None xs ≡ Some x → last_of before xs ≡ Some x
last_after before [] x e = absurd (cc)
last_after before (y ∷ ys) x e = e

last_some : (y : ℕ) (ys : List ℕ) → (x : ℕ) × (last_of (Some y) ys ≡ Some x)
last_some y [] = (y, refl)
last_some y (z ∷ zs) = last_some z zs

pub last_none : (xs : List ℕ) → last_of None xs ≡ None → xs ≡ []
last_none [] e = refl
last_none (y ∷ ys) e = let s = last_some y ys in absurd (cc)

pub take_front : (front : List ℕ) (x : ℕ) → take (length (front ++ x ∷ []) - 1) (front ++ x ∷ []) ≡ front
take_front front x = let e : length front ≡ length (front ++ x ∷ []) - 1 = omega (arith, length-append front (x ∷ [])) in take_at front (x ∷ []) (length (front ++ x ∷ []) - 1) e

pub get_before : (front : List ℕ) (x : ℕ) (i y : ℕ) → slice_get (front ++ x ∷ []) i ≡ Some y → y ≢ x → slice_get front i ≡ Some y
get_before [] x zero y e ne = absurd (ne (cc))
get_before [] x (suc i) y e ne = absurd (cc)
get_before (z ∷ zs) x zero y e ne = e
get_before (z ∷ zs) x (suc i) y e ne = get_before zs x i y e ne

pub get_kept : (front : List ℕ) (x : ℕ) (i y : ℕ) → slice_get front i ≡ Some y → slice_get (front ++ x ∷ []) i ≡ Some y
get_kept [] x i y e = absurd (cc)
get_kept (z ∷ zs) x zero y e = e
get_kept (z ∷ zs) x (suc i) y e = get_kept zs x i y e

-- what a list without an element has, it had before
pub without_in : (x y : ℕ) (xs : List ℕ) → In y (without x xs) → In y xs
without_in x y [] i = i
without_in x y (z ∷ zs) i = go (nat_eq x z) i (λ j. without_in x y zs j)
  where
    go : (b : Bool) → In y (if b then zs else z ∷ without x zs) → (In y (without x zs) → In y zs) → In y (z ∷ zs)
    go true j rest = inr j
    go false (inl e) rest = inl e
    go false (inr j) rest = inr (rest j)

pub without_rising : (x : ℕ) (xs : List ℕ) → IsRising xs → IsRising (without x xs)
without_rising x [] r = tt
without_rising x (z ∷ zs) r = go (nat_eq x z) (without_rising x zs r.1)
  where
    go : (b : Bool) → IsRising (without x zs) → IsRising (if b then zs else z ∷ without x zs)
    go true rest = r.1
    go false rest = (λ y i. r.0 y (without_in x y zs i), rest)

pub get_last_is : (xs : List ℕ) (x : ℕ) → slice_get xs (length xs - 1) ≡ Some x → last_of None xs ≡ Some x
get_last_is [] x e = absurd (cc)
get_last_is (y ∷ ys) x e = go y ys (ap (slice_get (y ∷ ys)) (omega arith) ∙ e)
  where
    go : (z : ℕ) (zs : List ℕ) → slice_get (z ∷ zs) (length zs) ≡ Some x → last_of (Some z) zs ≡ Some x
    go z [] f = f
    go z (w ∷ ws) f = go w ws f
