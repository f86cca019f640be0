-- The values along edges, as the code computes their places.
use Rattle.std.proofs.Common.{◌≡◌, inl, inr, ℕ, zero, suc, ◌+◌, ◌-◌, ◌<◌, ◌≤◌, min, List, [], ◌∷◌, Some, length, slice_get, take, drop, map, refl, ap, ap₂, sym, ◌∙◌, arith, add-one}
use Rattle.std.proofs.lemmas.List.{drop-map, take-map, take_all}
use Rattle.pliron_core.specs.declared.attrs.AttrObj.{AttrObj}
use Rattle.pliron_dialect.specs.Counted.{start_of, count_of, edge_counts_in, two_counts, start_next, count_at, count_past}
use Rattle.pliron_dialect.specs.Counts.{counted_by}
use Rattle.pliron_evaluator.specs.declared.evaluator.values.Datum.{Datum as DatumValue}
use Rattle.pliron_evaluator.specs.Evaluator.{datum_of_value}

min_zero : (m : ℕ) → 0 ≡ min 0 m
min_zero m = omega arith

pub count_there : (c i r most : ℕ) (attrs : List AttrObj) (a : AttrObj) → i < c → slice_get attrs i ≡ Some a → r ≡ min (counted_by a) most → r ≡ min (count_of (edge_counts_in c attrs) i) most
count_there c i r most attrs a lt at e = e ∙ ap (λ x. min x most) (sym (count_at c i attrs a lt at))

pub none_behind : (c i most : ℕ) (attrs : List AttrObj) → c ≤ i → 0 ≡ min (count_of (edge_counts_in c attrs) i) most
none_behind c i most attrs le = min_zero most ∙ ap (λ x. min x most) (sym (count_past c i attrs (inl le)))

pub none_past : (c i most : ℕ) (attrs : List AttrObj) → length attrs ≤ i → 0 ≡ min (count_of (edge_counts_in c attrs) i) most
none_past c i most attrs le = min_zero most ∙ ap (λ x. min x most) (sym (count_past c i attrs (inr le)))

min_sum : (a b m : ℕ) → min (min a m + min b m) m ≡ min (a + b) m
min_sum a b m = omega arith

-- one more edge
pub start_more : (c j most start count sum : ℕ) (attrs : List AttrObj) → start ≡ min (start_of (edge_counts_in c attrs) j) most → count ≡ min (count_of (edge_counts_in c attrs) j) most → sum ≡ min (start + count) most → sum ≡ min (start_of (edge_counts_in c attrs) (j + 1)) most
start_more c j most start count sum attrs e f g =
    g ∙ ap₂ (λ x y. min (x + y) most) e f ∙ min_sum (start_of (edge_counts_in c attrs) j) (count_of (edge_counts_in c attrs) j) most
    ∙ ap (λ x. min x most) (sym (start_next (edge_counts_in c attrs) j) ∙ ap (start_of (edge_counts_in c attrs)) (sym (add-one j)))

-- places beyond the end are none
capped_drop : {A : Type 0} (s : ℕ) (xs : List A) → drop (min s (length xs)) xs ≡ drop s xs
capped_drop zero xs = let e : min 0 (length xs) ≡ 0 = omega arith in ap (λ z. drop z xs) e
capped_drop {A} (suc s) [] =
    let nothing : List A = [] in
    let e : min (suc s) 0 ≡ 0 = omega arith in
    ap (λ z. drop z nothing) e
capped_drop (suc s) (x ∷ xs) =
    let e : min (suc s) (suc (length xs)) ≡ suc (min s (length xs)) = omega arith in
    ap (λ z. drop z (x ∷ xs)) e ∙ capped_drop s xs

capped_take : {A : Type 0} (c n : ℕ) (xs : List A) → length xs ≤ n → take (min c n) xs ≡ take c xs
capped_take zero n xs le = let e : min 0 n ≡ 0 = omega arith in ap (λ z. take z xs) e
capped_take (suc c) n [] le = let all : 0 ≤ min (suc c) n = omega arith in take_all (min (suc c) n) [] all
capped_take (suc c) zero (x ∷ xs) le = absurd (omega (arith, le))
capped_take (suc c) (suc n) (x ∷ xs) le =
    let e : min (suc c) (suc n) ≡ suc (min c n) = omega arith in
    ap (λ z. take z (x ∷ xs)) e ∙ ap (λ z. x ∷ z) (capped_take c n xs (omega (arith, le)))

fewer_left : {A : Type 0} (s : ℕ) (xs : List A) → length (drop s xs) ≤ length xs
fewer_left zero xs = omega arith
fewer_left (suc s) [] = omega arith
fewer_left (suc s) (x ∷ xs) = let r = fewer_left s xs in omega (arith, r)

pub capped_values : {A : Type 0} (start count s c : ℕ) (xs ys : List A) → start ≡ min s (length xs) → count ≡ min c (length xs) → ys ≡ take count (drop start xs) → ys ≡ take c (drop s xs)
capped_values start count s c xs ys e f g =
    g ∙ ap₂ (λ x y. take x (drop y xs)) f e ∙ ap (take (min c (length xs))) (capped_drop s xs) ∙ capped_take c (length xs) (drop s xs) (fewer_left s xs)

-- of data and of what they stand for
pub along_edge : (ns : List ℕ) (i : ℕ) (xs : List DatumValue) → map datum_of_value (take (count_of ns i) (drop (start_of ns i) xs)) ≡ take (count_of ns i) (drop (start_of ns i) (map datum_of_value xs))
along_edge ns i xs = sym (take-map datum_of_value (count_of ns i) (drop (start_of ns i) xs)) ∙ ap (take (count_of ns i)) (sym (drop-map datum_of_value (start_of ns i) xs))

-- of two edges

pub first_of_two : {A : Type 0} (n m first : ℕ) (xs ys : List A) → first ≡ min n m → ys ≡ take first (drop 0 xs) → ys ≡ take (count_of (two_counts n m) 0) (drop (start_of (two_counts n m) 0) xs)
first_of_two n m first xs ys e g = g ∙ ap (λ z. take z xs) e

pub second_of_two : {A : Type 0} (n m first : ℕ) (xs ys : List A) → first ≡ min n m → ys ≡ take (m - first) (drop first xs) → ys ≡ take (count_of (two_counts n m) 1) (drop (start_of (two_counts n m) 1) xs)
second_of_two n m first xs ys e g = g ∙ ap₂ (λ x y. take x (drop y xs)) (omega (arith, e)) (omega (arith, e))

pub no_third : {A : Type 0} (n m i : ℕ) (xs : List A) → 2 ≤ i → take 0 xs ≡ take (count_of (two_counts n m) i) (drop (start_of (two_counts n m) i) xs)
no_third n m zero xs le = absurd (omega (arith, le))
no_third n m (suc zero) xs le = absurd (omega (arith, le))
no_third n m (suc (suc i)) xs le = refl
