-- Lemmas on sums over halves.
use Rattle.std.proofs.Common.{◌≡◌, ◌≢◌, ◌⊎◌, ℕ, zero, suc, ◌+◌, ◌-◌, ◌*◌, ◌/◌, ◌%◌, ◌<◌, ◌≤◌, List, [], ◌∷◌, ◌++◌, length, take, get_or, set, Some, refl, sym, ap, ◌∙◌, subst, inl, inr, arith, add-one}
use Rattle.std.specs.List.{slice_get, sum}
use Rattle.std.proofs.lemmas.Bool.{cases_eq}
use Rattle.std.proofs.lemmas.Option.{get_or_from_slice_get, slice_get-get_or}
use Rattle.std.specs.Option.{IsSome}
use Rattle.std.proofs.lemmas.List.{length-set, get_or-set_same, get_or-set_other, get_or_past, get_or_push, get_or_append_left, length_push, take_more, take_all, get_or_default}
use Rattle.std.proofs.lemmas.List.Sums.{sum_by-cons, sum_by_more, sum_by-le}
use Rattle.pliron_core.specs.UseSlots.{at, put}
use Rattle.pliron_core.specs.Counts.{pairs, AreMarks, level, AreSums, one_less, above}
use Rattle.pliron_core.proofs.TableLemmas.{some-at}

sum-cons : (x : ℕ) (xs : List ℕ) → sum (x ∷ xs) ≡ x + sum xs
sum-cons x xs = sum_by-cons (λ z. z) x xs

pub sum-pairs : (xs : List ℕ) → sum (pairs xs) ≡ sum xs
sum-pairs [] = refl
sum-pairs (x ∷ []) = refl
sum-pairs (x ∷ y ∷ zs) = omega (arith, sum-cons (x + y) (pairs zs), sum-pairs zs, sum-cons x (y ∷ zs), sum-cons y zs)

pub length-pairs : (xs : List ℕ) → (length xs ≤ 2 * length (pairs xs)) × (2 * length (pairs xs) ≤ length xs + 1)
length-pairs [] = (omega arith, omega arith)
length-pairs (x ∷ []) = (omega arith, omega arith)
length-pairs (x ∷ y ∷ zs) = let h = length-pairs zs in (omega (arith, h.0), omega (arith, h.1))

-- two entries are one of the level above
pub get-pairs : (xs : List ℕ) (q i : ℕ) → i ≡ 2 * q → get_or (pairs xs) q 0 ≡ get_or xs i 0 + get_or xs (suc i) 0
get-pairs [] q i e = refl
get-pairs (x ∷ []) zero zero e = omega arith
get-pairs (x ∷ []) zero (suc i) e = absurd (omega (arith, e))
get-pairs (x ∷ []) (suc q) zero e = absurd (omega (arith, e))
get-pairs (x ∷ []) (suc q) (suc i) e = refl
get-pairs (x ∷ y ∷ zs) zero zero e = refl
get-pairs (x ∷ y ∷ zs) zero (suc i) e = absurd (omega (arith, e))
get-pairs (x ∷ y ∷ zs) (suc q) zero e = absurd (omega (arith, e))
get-pairs (x ∷ y ∷ zs) (suc q) (suc zero) e = absurd (omega (arith, e))
get-pairs (x ∷ y ∷ zs) (suc q) (suc (suc i)) e = get-pairs zs q i (omega (arith, e))

take-nil : (q : ℕ) → take {A = ℕ} q [] ≡ []
take-nil zero = refl
take-nil (suc q) = refl

-- so many pairs have the sum of twice as many entries
pub take-pairs : (xs : List ℕ) (q i : ℕ) → i ≡ 2 * q → sum (take i xs) ≡ sum (take q (pairs xs))
take-pairs xs zero zero e = refl
take-pairs xs zero (suc i) e = absurd (omega (arith, e))
take-pairs xs (suc q) zero e = absurd (omega (arith, e))
take-pairs xs (suc q) (suc zero) e = absurd (omega (arith, e))
take-pairs [] (suc q) (suc (suc i)) e = refl
take-pairs (x ∷ []) (suc q) (suc (suc i)) e = ap (λ l. sum (x ∷ l)) (sym (take-nil q))
take-pairs (x ∷ y ∷ zs) (suc q) (suc (suc i)) e =
    omega (arith, sum-cons x (y ∷ take i zs), sum-cons y (take i zs), sum-cons (x + y) (take q (pairs zs)), take-pairs zs q i (omega (arith, e)))

-- one less below is one less above
pub less-pairs : (xs : List ℕ) (p q : ℕ) → p / 2 ≡ q → 0 < get_or xs p 0 → pairs (one_less xs p) ≡ one_less (pairs xs) q
less-pairs [] p q e h = absurd (omega (arith, h))
less-pairs (x ∷ []) zero zero e h = refl
less-pairs (x ∷ []) zero (suc q) e h = absurd (omega (arith, e))
less-pairs (x ∷ []) (suc p) q e h = absurd (omega (arith, h))
less-pairs (x ∷ y ∷ zs) zero zero e h = let s : x - 1 + y ≡ x + y - 1 = omega (arith, h) in ap (λ z. z ∷ pairs zs) s
less-pairs (x ∷ y ∷ zs) zero (suc q) e h = absurd (omega (arith, e))
less-pairs (x ∷ y ∷ zs) (suc zero) zero e h = let s : x + (y - 1) ≡ x + y - 1 = omega (arith, h) in ap (λ z. z ∷ pairs zs) s
less-pairs (x ∷ y ∷ zs) (suc zero) (suc q) e h = absurd (omega (arith, e))
less-pairs (x ∷ y ∷ zs) (suc (suc p)) zero e h = absurd (omega (arith, e))
less-pairs (x ∷ y ∷ zs) (suc (suc p)) (suc q) e h = ap (λ l. (x + y) ∷ l) (less-pairs zs p q (omega (arith, e)) h)

pub sum-marks : (xs : List ℕ) → AreMarks xs → sum xs ≤ length xs
sum-marks xs m = omega (arith, sum_by-le (λ z. z) 1 xs m)

pub sum-marks_take : (xs : List ℕ) (n : ℕ) → AreMarks xs → sum (take n xs) ≤ n
sum-marks_take xs zero m = omega arith
sum-marks_take [] (suc n) m = omega arith
sum-marks_take (x ∷ xs) (suc n) m =
    let first : x ≤ 1 = m 0 0 (omega arith) in
    let rest : sum (take n xs) ≤ n = sum-marks_take xs n (λ k d h. m (suc k) d (omega (arith, h))) in
    omega (arith, first, rest, sum-cons x (take n xs))

entry-le : (xs : List ℕ) (i : ℕ) → get_or xs i 0 ≤ sum xs
entry-le [] i = omega arith
entry-le (x ∷ xs) zero = omega (arith, sum-cons x xs)
entry-le (x ∷ xs) (suc i) = omega (arith, sum-cons x xs, entry-le xs i)

-- what one step up keeps
pub half-sum : (xs : List ℕ) (place : ℕ) → place ≤ length xs → (place % 2 ≡ 0) → sum (take place xs) ≡ sum (take (place / 2) (pairs xs))
half-sum xs place within even = take-pairs xs (place / 2) place (omega (arith, even))

pub half-sum_odd : (xs : List ℕ) (place : ℕ) → place ≤ length xs → (place % 2 ≡ 1) → sum (take place xs) ≡ sum (take (place / 2) (pairs xs)) + get_or xs (place - 1) 0
half-sum_odd xs place within odd =
    let next : place - 1 + 1 ≡ place = omega (arith, odd) in
    let more : sum (take (place - 1 + 1) xs) ≡ sum (take (place - 1) xs) + get_or xs (place - 1) 0 = sum_by_more (λ z. z) xs (place - 1) 0 (omega (arith, odd, within)) in
    ap (λ n. sum (take n xs)) (sym next) ∙ more ∙ ap (λ n. n + get_or xs (place - 1) 0) (take-pairs xs (place / 2) (place - 1) (omega (arith, odd)))

take-none : (xs : List ℕ) (n : ℕ) → n ≡ 0 → sum (take n xs) ≡ 0
take-none xs zero e = refl
take-none xs (suc n) e = absurd (omega (arith, e))

-- the levels of counts
module _ (levels : List (List ℕ)) (is : AreSums levels) where
  pub level-sum : (k : ℕ) → k < length levels → sum (level levels k) ≡ sum (level levels 0)
  level-sum zero h = refl
  level-sum (suc k) h = ap sum (is.each k h) ∙ sum-pairs (level levels k) ∙ level-sum k (omega (arith, h))

  cases_top : (k : ℕ) → k < length levels → (suc k < length levels) ⊎ (k ≡ length levels - 1)
  cases_top k h = grind arith

  -- the end of the places counted, one level up
  pub up-within : (k end : ℕ) → k < length levels → end ≤ length (level levels k) → end / 2 ≤ length (level levels (suc k))
  up-within k end h within = elim (cases_top k h) [
    | inl more ↦ omega (arith, ap length (is.each k more), (length-pairs (level levels k)).0, within)
    | inr last ↦ let one : length (level levels k) ≤ 1 = subst (λ z. length (level levels z) ≤ 1) (sym last) is.top in omega (arith, one, within)
  ]

  pub up-even : (k end : ℕ) → k < length levels → end ≤ length (level levels k) → (end % 2 ≡ 0) → sum (take end (level levels k)) ≡ sum (take (end / 2) (level levels (suc k)))
  up-even k end h within even = elim (cases_top k h) [
    | inl more ↦ half-sum (level levels k) end within even ∙ ap (λ l. sum (take (end / 2) l)) (sym (is.each k more))
    | inr last ↦
        let one : length (level levels k) ≤ 1 = subst (λ z. length (level levels z) ≤ 1) (sym last) is.top in
        take-none (level levels k) end (omega (arith, one, within, even)) ∙ sym (take-none (level levels (suc k)) (end / 2) (omega (arith, one, within, even)))
  ]

  pub up-odd : (k end : ℕ) → k < length levels → end ≤ length (level levels k) → (end % 2 ≡ 1) → sum (take end (level levels k)) ≡ sum (take (end / 2) (level levels (suc k))) + get_or (level levels k) (end - 1) 0
  up-odd k end h within odd = elim (cases_top k h) [
    | inl more ↦ half-sum_odd (level levels k) end within odd ∙ ap (λ l. sum (take (end / 2) l) + get_or (level levels k) (end - 1) 0) (sym (is.each k more))
    | inr last ↦
        let one : length (level levels k) ≤ 1 = subst (λ z. length (level levels z) ≤ 1) (sym last) is.top in
        half-sum_odd (level levels k) end within odd ∙ ap (λ n. n + get_or (level levels k) (end - 1) 0)
        (take-none (pairs (level levels k)) (end / 2) (omega (arith, one, within, odd)) ∙ sym (take-none (level levels (suc k)) (end / 2) (omega (arith, one, within, odd))))
  ]

  -- an entry that is not zero, and the one above it
  pub above-some : (place k : ℕ) → 0 < get_or (level levels 0) place 0 → k < length levels → 0 < get_or (level levels k) (above place k) 0
  above-some place zero some h = some
  above-some place (suc k) some h =
      let below : 0 < get_or (level levels k) (above place k) 0 = above-some place k some (omega (arith, h)) in
      rw (is.each k h) (half-some (level levels k) (above place k) (above place k / 2) refl below)
    where
      half-some : (xs : List ℕ) (p q : ℕ) → p / 2 ≡ q → 0 < get_or xs p 0 → 0 < get_or (pairs xs) q 0
      half-some [] p q e s = absurd (omega (arith, s))
      half-some (x ∷ []) zero zero e s = s
      half-some (x ∷ []) zero (suc q) e s = absurd (omega (arith, e))
      half-some (x ∷ []) (suc p) q e s = absurd (omega (arith, s))
      half-some (x ∷ y ∷ zs) zero zero e s = omega (arith, s)
      half-some (x ∷ y ∷ zs) zero (suc q) e s = absurd (omega (arith, e))
      half-some (x ∷ y ∷ zs) (suc zero) zero e s = omega (arith, s)
      half-some (x ∷ y ∷ zs) (suc zero) (suc q) e s = absurd (omega (arith, e))
      half-some (x ∷ y ∷ zs) (suc (suc p)) zero e s = absurd (omega (arith, e))
      half-some (x ∷ y ∷ zs) (suc (suc p)) (suc q) e s = half-some zs p q (omega (arith, e)) s

  -- all levels with one less
  module _ (levels' : List (List ℕ)) (place : ℕ) (one : slice_get (level levels 0) place ≡ Some 1) (long : length levels' ≡ length levels)
      (less : (k : ℕ) → k < length levels → level levels' k ≡ one_less (level levels k) (above place k)) where
    is_one : get_or (level levels 0) place 0 ≡ 1
    is_one = get_or_from_slice_get (level levels 0) place 1 0 one

    pub freed-view : level levels' 0 ≡ set (level levels 0) place 0
    freed-view = less 0 is.some ∙ ap (λ n. set (level levels 0) place (n - 1)) is_one

    pub freed-sums : AreSums levels'
    freed-sums = record {
      some = omega (arith, long, is.some);
      lowest = λ k d h. lowest k d (omega (arith, h, ap length freed-view, length-set (level levels 0) place 0));
      each = λ k h. each k (omega (arith, h, long));
      top = rw long (omega (arith, is.top, ap length (less (length levels - 1) (omega (arith, is.some))), length-set (level levels (length levels - 1)) (above place (length levels - 1)) (get_or (level levels (length levels - 1)) (above place (length levels - 1)) 0 - 1)));
    }
      where
        lowest : (k d : ℕ) → k < length (level levels 0) → get_or (level levels' 0) k d ≤ 1
        lowest k d h = elim (cases_eq k place) [
          | inl same ↦ rw (freed-view, same) (rw (get_or-set_same (level levels 0) place 0 d (omega (arith, h, same))) (omega arith))
          | inr other ↦ rw freed-view (rw (get_or-set_other (level levels 0) place k 0 d other) (is.lowest k d h))
        ]

        each : (k : ℕ) → suc k < length levels → level levels' (suc k) ≡ pairs (level levels' k)
        each k h =
            less (suc k) h ∙ ap (λ l. one_less l (above place k / 2)) (is.each k h)
            ∙ sym (less-pairs (level levels k) (above place k) (above place k / 2) refl (above-some place k (omega (arith, is_one)) (omega (arith, h))))
            ∙ ap pairs (sym (less k (omega (arith, h))))

-- the levels that are made so far, and the one to go above them
pub record IsBuilt (row : List ℕ) (levels : List (List ℕ)) (below : List ℕ) : Type 0 where
  pub first : level (levels ++ below ∷ []) 0 ≡ row
  pub each : (k : ℕ) → suc k < length (levels ++ below ∷ []) → level (levels ++ below ∷ []) (suc k) ≡ pairs (level (levels ++ below ∷ []) k)
  pub sums : sum below ≡ sum row

pub built-more : (row : List ℕ) (levels : List (List ℕ)) (below : List ℕ) → IsBuilt row levels below → IsBuilt row (levels ++ below ∷ []) (pairs below)
built-more row levels below is = record {
  first = kept 0 (omega (arith, long)) ∙ is.first;
  each = λ k h. elim (cases k (omega (arith, h, longer))) [
    | inl last ↦
        let here : level (more ++ pairs below ∷ []) (suc k) ≡ pairs below = get_or_push more (pairs below) [] (suc k) (omega (arith, last, long)) in
        let under : level more k ≡ below = get_or_push levels below [] k (sym last) in
        here ∙ ap pairs (sym under) ∙ ap pairs (sym (kept k (omega (arith, last, long))))
    | inr lower ↦ kept (suc k) (omega (arith, lower, long)) ∙ is.each k (omega (arith, lower, long)) ∙ ap pairs (sym (kept k (omega (arith, lower, long))))
  ];
  sums = sum-pairs below ∙ is.sums;
}
  where
    more : List (List ℕ)
    more = levels ++ below ∷ []

    long : length (levels ++ below ∷ []) ≡ length levels + 1
    long = length_push levels below

    longer : length (levels ++ below ∷ [] ++ pairs below ∷ []) ≡ length levels + 2
    longer = omega (arith, length_push (levels ++ below ∷ []) (pairs below), long)

    kept : (k : ℕ) → k < length (levels ++ below ∷ []) → level (levels ++ below ∷ [] ++ pairs below ∷ []) k ≡ level (levels ++ below ∷ []) k
    kept k h = get_or_append_left (levels ++ below ∷ []) (pairs below ∷ []) [] k h

    cases : (k : ℕ) → suc k < length levels + 2 → (k ≡ length levels) ⊎ (suc k < length levels + 1)
    cases k h = grind arith

-- what `sums_of` makes
module _ (xs : List ℕ) where
  pub pair-read : (q x y : ℕ) → slice_get xs (2 * q) ≡ Some x → slice_get xs (2 * q + 1) ≡ Some y → get_or (pairs xs) q 0 ≡ x + y
  pair-read q x y e f =
      let one : get_or xs (2 * q) 0 ≡ x = get_or_from_slice_get xs (2 * q) x 0 e in
      let two : get_or xs (2 * q + 1) 0 ≡ y = get_or_from_slice_get xs (2 * q + 1) y 0 f in
      let next : get_or xs (suc (2 * q)) 0 ≡ y = ap (λ i. get_or xs i 0) (sym (add-one (2 * q))) ∙ two in
      omega (arith, get-pairs xs q (2 * q) refl, one, next)

  pub pair-fits : (q x y : ℕ) → slice_get xs (2 * q) ≡ Some x → slice_get xs (2 * q + 1) ≡ Some y → x + y ≤ sum xs
  pair-fits q x y e f = omega (arith, pair-read q x y e f, entry-le (pairs xs) q, sum-pairs xs)

  pub sums-more : (sums sums' : List ℕ) (q x y : ℕ) → sums ≡ take q (pairs xs) → q < length xs / 2 → slice_get xs (2 * q) ≡ Some x → slice_get xs (2 * q + 1) ≡ Some y → sums' ≡ sums ++ (x + y) ∷ [] → sums' ≡ take (q + 1) (pairs xs)
  sums-more sums sums' q x y is h e f more =
      let within : q < length (pairs xs) = omega (arith, h, (length-pairs xs).0) in
      more ∙ ap (λ l. l ++ (x + y) ∷ []) is ∙ ap (λ n. take q (pairs xs) ++ n ∷ []) (sym (pair-read q x y e f)) ∙ sym (take_more (pairs xs) q 0 within)

  pub sums-odd : (sums sums' : List ℕ) (half x : ℕ) → sums ≡ take half (pairs xs) → half ≡ length xs / 2 → 2 * half < length xs → slice_get xs (2 * half) ≡ Some x → sums' ≡ sums ++ x ∷ [] → sums' ≡ pairs xs
  sums-odd sums sums' half x is h odd e more =
      let one : get_or xs (2 * half) 0 ≡ x = get_or_from_slice_get xs (2 * half) x 0 e in
      let none : get_or xs (suc (2 * half)) 0 ≡ 0 = get_or_past xs (suc (2 * half)) 0 (omega (arith, h)) in
      let last : get_or (pairs xs) half 0 ≡ x = omega (arith, get-pairs xs half (2 * half) refl, one, none) in
      let long = length-pairs xs in
      more ∙ ap (λ l. l ++ x ∷ []) is ∙ ap (λ n. take half (pairs xs) ++ n ∷ []) (sym last) ∙ sym (take_more (pairs xs) half 0 (omega (arith, long.0, odd))) ∙ take_all (half + 1) (pairs xs) (omega (arith, long.1, h))

  pub sums-even : (sums : List ℕ) (half : ℕ) → sums ≡ take half (pairs xs) → half ≡ length xs / 2 → length xs ≤ 2 * half → sums ≡ pairs xs
  sums-even sums half is h even = is ∙ take_all half (pairs xs) (omega (arith, (length-pairs xs).1, h, even))

-- one level up in `rank`
module _ (levels : List (List ℕ)) (is : AreSums levels) (k end count total : ℕ) (h : k < length levels) (within : end ≤ length (level levels k))
    (so_far : count + sum (take end (level levels k)) ≡ total) where
  pub rank-odd : (n : ℕ) → end % 2 ≡ 1 → at levels k (end - 1) ≡ Some n → count + n + sum (take (end / 2) (level levels (k + 1))) ≡ total
  rank-odd n odd e =
      let entry : get_or (level levels k) (end - 1) 0 ≡ n = get_or_from_slice_get (level levels k) (end - 1) n 0 e in
      rw (add-one k) (omega (arith, up-odd levels is k end h within odd, entry, so_far))

  pub rank-even : end % 2 ≢ 1 → count + sum (take (end / 2) (level levels (k + 1))) ≡ total
  rank-even even = rw (add-one k) (omega (arith, up-even levels is k end h within (omega (arith, even)), so_far))

  pub rank-within : end / 2 ≤ length (level levels (k + 1))
  rank-within = rw (add-one k) (up-within levels is k end h within)

pub rank-fits : (levels : List (List ℕ)) (place : ℕ) → AreSums levels → sum (take place (level levels 0)) ≤ place
rank-fits levels place is = sum-marks_take (level levels 0) place is.lowest

some-within : (xs : List ℕ) (i : ℕ) → 0 < get_or xs i 0 → i < length xs
some-within [] i h = absurd (omega (arith, h))
some-within (x ∷ xs) zero h = omega arith
some-within (x ∷ xs) (suc i) h = omega (arith, some-within xs i h)

pub top-entry : (xs : List ℕ) → length xs ≤ 1 → get_or xs 0 0 ≡ sum xs
top-entry [] h = refl
top-entry (x ∷ []) h = omega (arith, sum-cons x [])
top-entry (x ∷ y ∷ zs) h = absurd (omega (arith, h))

pub top-sum : (levels : List (List ℕ)) → AreSums levels → get_or (level levels (length levels - 1)) 0 0 ≡ sum (level levels 0)
top-sum levels is = top-entry (level levels (length levels - 1)) is.top ∙ level-sum levels is (length levels - 1) (omega (arith, is.some))

-- one level down in `select`
module _ (levels : List (List ℕ)) (is : AreSums levels) (k place rest i : ℕ) (h : k < length levels) (lower : 0 < k)
    (some : rest < get_or (level levels k) place 0) (so_far : sum (take place (level levels k)) + rest ≡ i) where
  abbrev under : List ℕ
  under = level levels (k - 1)

  sums : level levels k ≡ pairs under
  sums = let next : suc (k - 1) ≡ k = omega (arith, lower) in ap (level levels) (sym next) ∙ is.each (k - 1) (omega (arith, lower, h))

  pub down-within : place * 2 < length under
  down-within =
      let w : place < length (pairs under) = some-within (pairs under) place (omega (arith, some, ap (λ l. get_or l place 0) sums)) in
      omega (arith, w, (length-pairs under).1)

  both : get_or (level levels k) place 0 ≡ get_or under (place * 2) 0 + get_or under (place * 2 + 1) 0
  both = rw (add-one (place * 2)) (ap (λ l. get_or l place 0) sums ∙ get-pairs under place (place * 2) (omega arith))

  before : sum (take (place * 2) under) ≡ sum (take place (level levels k))
  before = take-pairs under place (place * 2) (omega arith) ∙ ap (λ l. sum (take place l)) (sym sums)

  module _ (left : ℕ) (e : at levels (k - 1) (place * 2) ≡ Some left) where
    left_is : get_or under (place * 2) 0 ≡ left
    left_is = get_or_from_slice_get under (place * 2) left 0 e

    pub down-left : rest < left → (rest < get_or under (place * 2) 0) × (sum (take (place * 2) under) + rest ≡ i)
    down-left less = (omega (arith, less, left_is), omega (arith, before, so_far))

    pub down-right : left ≤ rest → (rest - left < get_or under (place * 2 + 1) 0) × (sum (take (place * 2 + 1) under) + (rest - left) ≡ i)
    down-right more = (
      omega (arith, both, left_is, some, more),
      omega (arith, sum_by_more (λ z. z) under (place * 2) 0 down-within, left_is, before, so_far, more),
    )

-- what `select` finds at the marks
pub selected : (levels : List (List ℕ)) (place rest i : ℕ) → AreSums levels → rest < get_or (level levels 0) place 0 → sum (take place (level levels 0)) + rest ≡ i → (slice_get (level levels 0) place ≡ Some 1) × (sum (take place (level levels 0)) ≡ i)
selected levels place rest i is some so_far =
    let within : place < length (level levels 0) = some-within (level levels 0) place (omega (arith, some)) in
    let mark : get_or (level levels 0) place 0 ≤ 1 = is.lowest place 0 within in
    let one : get_or (level levels 0) place 0 ≡ 1 = omega (arith, mark, some) in
    (slice_get-get_or (level levels 0) place 0 within ∙ ap Some one, omega (arith, so_far, mark, some))

-- the entry that `free` lowers
pub free-entry : (levels levels' : List (List ℕ)) (place at' k : ℕ) → AreSums levels → slice_get (level levels 0) place ≡ Some 1 → k < length levels → level levels' k ≡ level levels k → at' ≡ above place k → 0 < get_or (level levels' k) at' 0
free-entry levels levels' place at' k is one h same e =
    rw (same, e) (above-some levels is place k (omega (arith, get_or_from_slice_get (level levels 0) place 1 0 one)) h)

pub free-some : (levels : List (List ℕ)) (at' k : ℕ) → 0 < get_or (level levels k) at' 0 → IsSome (at levels k at')
free-some levels at' k h = some-at (at levels k at') (get_or (level levels k) at' 0) (slice_get-get_or (level levels k) at' 0 (some-within (level levels k) at' h))

-- what stands at the top
pub total-none : (levels : List (List ℕ)) (top : List ℕ) → AreSums levels → top ≡ get_or levels (length levels - 1) top → length top ≡ 0 → 0 ≡ sum (level levels 0)
total-none levels top is e none =
    let here : top ≡ level levels (length levels - 1) = e ∙ get_or_default levels (length levels - 1) top [] (omega (arith, is.some)) in
    let first : get_or top 0 0 ≡ 0 = get_or_past top 0 0 (omega (arith, none)) in
    omega (arith, ap (λ l. get_or l 0 0) here, first, top-sum levels is)

pub total-one : (levels : List (List ℕ)) (top : List ℕ) (n : ℕ) → AreSums levels → top ≡ get_or levels (length levels - 1) top → slice_get top 0 ≡ Some n → n ≡ sum (level levels 0)
total-one levels top n is e first =
    let here : top ≡ level levels (length levels - 1) = e ∙ get_or_default levels (length levels - 1) top [] (omega (arith, is.some)) in
    omega (arith, ap (λ l. get_or l 0 0) here, get_or_from_slice_get top 0 n 0 first, top-sum levels is)

-- one level more in `free`
module _ (levels now new : List (List ℕ)) (place at' k n : ℕ) (count : length now ≡ length levels) (h : k < length levels) (e : at' ≡ above place k)
    (lower : (j : ℕ) → j < k → level now j ≡ one_less (level levels j) (above place j)) (higher : (j : ℕ) → k ≤ j → level now j ≡ level levels j)
    (read : at now k at' ≡ Some n) (write : new ≡ put now k at' (n - 1)) where
  pub free-count : length new ≡ length levels
  free-count = ap length write ∙ length-set now k _ ∙ count

  free-here : level new k ≡ one_less (level levels k) (above place k)
  free-here =
      let entry : get_or (level now k) at' 0 ≡ n = get_or_from_slice_get (level now k) at' n 0 read in
      let same : level now k ≡ level levels k = higher k (omega arith) in
      ap (λ l. level l k) write ∙ get_or-set_same now k _ [] (omega (arith, h, count)) ∙ ap (λ z. set (level now k) at' (z - 1)) (sym entry) ∙ ap (λ l. one_less l at') same ∙ ap (one_less (level levels k)) e

  free-other : (j : ℕ) → j ≢ k → level new j ≡ level now j
  free-other j other = ap (λ l. level l j) write ∙ get_or-set_other now k j _ [] other

  pub free-lower : (j : ℕ) → j < k + 1 → level new j ≡ one_less (level levels j) (above place j)
  free-lower j b = elim (cases_eq j k) [
    | inl same ↦ rw same free-here
    | inr other ↦ free-other j other ∙ lower j (omega (arith, b, other))
  ]

  pub free-higher : (j : ℕ) → k + 1 ≤ j → level new j ≡ level levels j
  free-higher j b = free-other j (λ same. omega (arith, b, same)) ∙ higher j (omega (arith, b))

  pub free-place : at' / 2 ≡ above place (k + 1)
  free-place = rw (add-one k) (ap (λ z. z / 2) e)
