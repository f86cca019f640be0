-- Reading a list that has grown at its end.
use Rattle.std.proofs.Common.{◌≡◌, ◌⊎◌, ℕ, zero, suc, ◌+◌, ◌<◌, ◌≤◌, List, [], ◌∷◌, ◌++◌, length, map, get_or, Some, refl, sym, ap, ◌∙◌, inl, inr, ⊎_elim, arith, slice_get, slice_set, replicate, append_assoc}
use Rattle.std.specs.List.{range_with_len}
use Rattle.std.proofs.lemmas.List.{map-id}
use Rattle.std.proofs.lemmas.List.FromFn.{map-range_with_len_more}
use Rattle.pliron_core.specs.Tree.{In}

pub get_grown : {A : Type 0} (xs : List A) (d : A) (k : ℕ) → get_or (xs ++ d ∷ []) k d ≡ get_or xs k d
get_grown [] d zero = refl
get_grown [] d (suc k) = refl
get_grown (x ∷ xs) d zero = refl
get_grown (x ∷ xs) d (suc k) = get_grown xs d k

-- a row that was there, or the new one
pub get_last : {A : Type 0} (xs : List A) (y d : A) (k : ℕ) → (get_or (xs ++ y ∷ []) k d ≡ get_or xs k d) ⊎ ((get_or (xs ++ y ∷ []) k d ≡ y) × (get_or xs k d ≡ d) × (k ≡ length xs))
get_last [] y d zero = inr (refl, refl, refl)
get_last [] y d (suc k) = inl refl
get_last (x ∷ xs) y d zero = inl refl
get_last (x ∷ xs) y d (suc k) = ⊎_elim (λ e. inl e) (λ e. inr (e.0, e.1, ap suc e.2)) (get_last xs y d k)

pub get_last_same : {A : Type 0} (xs : List A) (y d : A) → get_or (xs ++ y ∷ []) (length xs) d ≡ y
get_last_same [] y d = refl
get_last_same (x ∷ xs) y d = get_last_same xs y d

pub get_padded : {A : Type 0} (xs : List A) (d : A) (n k : ℕ) → get_or (xs ++ replicate n d) k d ≡ get_or xs k d
get_padded [] d zero k = refl
get_padded [] d (suc n) zero = refl
get_padded [] d (suc n) (suc k) = get_padded [] d n k
get_padded (x ∷ xs) d n zero = refl
get_padded (x ∷ xs) d n (suc k) = get_padded xs d n k

-- what was there is there
pub slice_get_kept : {A : Type 0} (xs ys : List A) (k : ℕ) (x : A) → slice_get xs k ≡ Some x → slice_get (xs ++ ys) k ≡ Some x
slice_get_kept [] ys k x e = absurd (grind arith)
slice_get_kept (z ∷ xs) ys zero x e = e
slice_get_kept (z ∷ xs) ys (suc k) x e = slice_get_kept xs ys k x e

pub slice_get_added : {A : Type 0} (xs ys : List A) (j : ℕ) → slice_get (xs ++ ys) (length xs + j) ≡ slice_get ys j
slice_get_added [] ys j = ap (slice_get ys) (omega arith)
slice_get_added (x ∷ xs) ys j = let e : suc (length xs) + j ≡ suc (length xs + j) = omega arith in ap (slice_get (x ∷ (xs ++ ys))) e ∙ slice_get_added xs ys j

-- a range at an index
pub range_at : (first count i v : ℕ) → slice_get (range_with_len first count) i ≡ Some v → (v ≡ first + i) × (i < count)
range_at first zero i v e = absurd (grind arith)
range_at first (suc n) zero v e = let f : first ≡ v = cc in (sym f ∙ omega arith, omega arith)
range_at first (suc n) (suc i) v e = let r = range_at (first + 1) n i v e in (omega (arith, r.0), omega (arith, r.1))

pub range_get : (first count i : ℕ) → i < count → slice_get (range_with_len first count) i ≡ Some (first + i)
range_get first zero i lt = absurd (omega arith)
range_get first (suc n) zero lt = ap Some (omega arith)
range_get first (suc n) (suc i) lt = range_get (first + 1) n i (omega (arith, lt)) ∙ ap Some (omega arith)

pub mapped_range_get : {A : Type 0} (f : ℕ → A) (first count i : ℕ) → i < count → slice_get (map f (range_with_len first count)) i ≡ Some (f (first + i))
mapped_range_get f first zero i lt = absurd (omega arith)
mapped_range_get f first (suc n) zero lt = ap (λ z. Some (f z)) (omega arith)
mapped_range_get f first (suc n) (suc i) lt = mapped_range_get f (first + 1) n i (omega (arith, lt)) ∙ ap (λ z. Some (f z)) (omega arith)

pub in_range : (first count v : ℕ) → In v (range_with_len first count) → first ≤ v
in_range first zero v i = absurd i
in_range first (suc n) v (inl e) = omega (arith, e)
in_range first (suc n) v (inr i) = let h = in_range (first + 1) n v i in omega (arith, h)

pub range_more : (a n : ℕ) → range_with_len a (n + 1) ≡ range_with_len a n ++ (a + n) ∷ []
range_more a n = sym (map-id _) ∙ map-range_with_len_more (λ k. k) a n (a + n) refl ∙ ap (λ r. r ++ (a + n) ∷ []) (map-id _)

pub replicate_more : {A : Type 0} (n : ℕ) (x : A) → replicate (n + 1) x ≡ replicate n x ++ x ∷ []
replicate_more zero x = refl
replicate_more (suc n) x = let e : suc n + 1 ≡ suc (n + 1) = omega arith in ap (λ k. replicate k x) e ∙ ap (λ l. x ∷ l) (replicate_more n x)

pub mapped_range_more : {A : Type 0} (f : ℕ → A) (n : ℕ) → map f (range_with_len 0 (n + 1)) ≡ map f (range_with_len 0 n) ++ f n ∷ []
mapped_range_more f n = map-range_with_len_more f 0 n n (omega arith)

-- one more at the end of what was added
pub added_more : {A : Type 0} (old new added more : List A) (x : A) → new ≡ old ++ added → more ≡ added ++ x ∷ [] → new ++ x ∷ [] ≡ old ++ more
added_more old new added more x e f = rw (e, f) (append_assoc old added (x ∷ []))

-- the last is replaced
pub set_last : {A : Type 0} (xs : List A) (x y : A) → slice_set (xs ++ x ∷ []) (length xs) y ≡ xs ++ y ∷ []
set_last [] x y = refl
set_last (z ∷ xs) x y = ap (λ l. z ∷ l) (set_last xs x y)
