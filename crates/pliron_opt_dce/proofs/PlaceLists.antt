-- Places among operands that stay when one goes.
use Rattle.std.proofs.Common.{◌≡◌, ◌≢◌, ◌⊎◌, inl, inr, ℕ, zero, suc, ◌+◌, ◌<◌, ◌≤◌, List, [], ◌∷◌, length, map, Some, None, slice_get, remove, refl, sym, ap, ap₂, ◌∙◌, subst, arith, tests}
use Rattle.std.proofs.lemmas.List.{length-map}
use Rattle.std.specs.List.{range_with_len}
use Rattle.pliron_core.specs.Lists.{In, IsDistinct}
use Rattle.pliron_core.proofs.HoldingLemmas.{some_is, in_slice, slice_in}
use Rattle.pliron_core.proofs.TreeLemmas.{cases_lt}
use Rattle.pliron_core.proofs.RemovalLemmas.{slice_get-remove_below, slice_get-remove_above, in_from-remove}
use Rattle.pliron_laws.specs.Acting.{pick}
use Rattle.pliron_laws.specs.Laws.{moved_up}

pub map_remove : {A B : Type 0} (f : A → B) (xs : List A) (i : ℕ) → map f (remove xs i) ≡ remove (map f xs) i
map_remove f [] zero = refl
map_remove f [] (suc i) = refl
map_remove f (x ∷ xs) zero = refl
map_remove f (x ∷ xs) (suc i) = ap (λ z. f x ∷ z) (map_remove f xs i)

-- where nothing stands nothing goes
pub remove_none : {A : Type 0} (xs : List A) (i : ℕ) → slice_get xs i ≡ None → remove xs i ≡ xs
remove_none [] zero e = refl
remove_none [] (suc i) e = refl
remove_none (x ∷ xs) zero e = absurd (cc)
remove_none (x ∷ xs) (suc i) e = ap (λ z. x ∷ z) (remove_none xs i e)

up_below : (p q : ℕ) → q < p → moved_up p q ≡ q
up_below p q l = grind (arith, tests)

up_above : (p q : ℕ) → p < q → moved_up p q + 1 ≡ q
up_above p q l = grind (arith, tests)

above_least : (p q : ℕ) → p < q → p ≤ moved_up p q
above_least p q l = let e = up_above p q l in omega (arith, l, e)

-- a place that stays is where it was moved to
pub get_moved : {A : Type 0} (xs : List A) (p q : ℕ) → q ≢ p → slice_get (remove xs p) (moved_up p q) ≡ slice_get xs q
get_moved xs p q ne = go (cases_lt q p)
  where
    go : (q < p) ⊎ (p ≤ q) → slice_get (remove xs p) (moved_up p q) ≡ slice_get xs q
    go (inl l) = ap (slice_get (remove xs p)) (up_below p q l) ∙ slice_get-remove_below xs p q l
    go (inr l) =
        let s : p < q = strict in
        slice_get-remove_above xs p (moved_up p q) (above_least p q s) ∙ ap (slice_get xs) (up_above p q s)
      where
        strict : p < q
        strict = ⊎_cases (cases_lt p q)
          where
            ⊎_cases : (p < q) ⊎ (q ≤ p) → p < q
            ⊎_cases (inl y) = y
            ⊎_cases (inr y) = absurd (ne (omega (arith, l, y)))

-- picking at places that stay
pub pick_moved : {A : Type 0} (places : List ℕ) (xs : List A) (p : ℕ) → (In p places → ⊥) → pick (map (moved_up p) places) (remove xs p) ≡ pick places xs
pick_moved [] xs p n = refl
pick_moved (q ∷ places) xs p n = ap₂ (λ a b. a ∷ b) (get_moved xs p q (λ e. n (inl (sym e)))) (pick_moved places xs p (λ i. n (inr i)))

-- what stays in a list without one place stood at another place
pub in_others : (xs : List ℕ) (j x : ℕ) → In x (remove xs j) → (l : ℕ) × (l ≢ j) × (slice_get xs l ≡ Some x)
in_others [] zero x i = absurd i
in_others [] (suc j) x i = absurd i
in_others (y ∷ ys) zero x i = let s = slice_in ys x i in (suc s.0, (λ e. absurd (omega (arith, e))), s.1)
in_others (y ∷ ys) (suc j) x (inl e) = (0, (λ q. absurd (omega (arith, q))), ap Some (sym e))
in_others (y ∷ ys) (suc j) x (inr i) = let r = in_others ys j x i in (suc r.0, (λ q. r.1 (omega (arith, q))), r.2)

-- two lists, the one picked by the other
pub picked_length : (ls xs ms : List ℕ) → pick ls xs ≡ map Some ms → length ls ≡ length ms
picked_length ls xs ms e = sym (length-map ls (λ i. slice_get xs i)) ∙ ap length e ∙ length-map ms Some

pub picked_at : (ls xs ms : List ℕ) (j p : ℕ) → pick ls xs ≡ map Some ms → slice_get ls j ≡ Some p → (q : ℕ) × (slice_get ms j ≡ Some q) × (slice_get xs p ≡ Some q)
picked_at [] xs ms j p e s = grind arith
picked_at (l ∷ ls) xs [] j p e s = absurd (cc)
picked_at (l ∷ ls) xs (m ∷ ms) zero p e s =
    let here : slice_get xs l ≡ Some m = cc in
    (m, refl, subst (λ z. slice_get xs z ≡ Some m) (some_is s) here)
picked_at (l ∷ ls) xs (m ∷ ms) (suc j) p e s =
    let rest : pick ls xs ≡ map Some ms = cc in picked_at ls xs ms j p rest s

pub picked_from : (ls xs ms : List ℕ) (j q : ℕ) → pick ls xs ≡ map Some ms → slice_get ms j ≡ Some q → (p : ℕ) × (slice_get ls j ≡ Some p) × (slice_get xs p ≡ Some q)
picked_from [] xs [] j q e s = grind arith
picked_from [] xs (m ∷ ms) j q e s = absurd (cc)
picked_from (l ∷ ls) xs [] j q e s = absurd (cc)
picked_from (l ∷ ls) xs (m ∷ ms) zero q e s =
    let here : slice_get xs l ≡ Some m = cc in
    (l, refl, here ∙ s)
picked_from (l ∷ ls) xs (m ∷ ms) (suc j) q e s =
    let rest : pick ls xs ≡ map Some ms = cc in picked_from ls xs ms j q rest s

pub picked_none : (ls xs ms : List ℕ) (j : ℕ) → pick ls xs ≡ map Some ms → slice_get ls j ≡ None → slice_get ms j ≡ None
picked_none [] xs [] j e s = s
picked_none [] xs (m ∷ ms) j e s = absurd (cc)
picked_none (l ∷ ls) xs [] j e s = absurd (cc)
picked_none (l ∷ ls) xs (m ∷ ms) zero e s = absurd (cc)
picked_none (l ∷ ls) xs (m ∷ ms) (suc j) e s =
    let rest : pick ls xs ≡ map Some ms = cc in picked_none ls xs ms j rest s

-- a place where something was picked, and one past the last
pub picked_some : (ls xs : List ℕ) (j v : ℕ) → Some (Some v) ≡ slice_get (pick ls xs) j → (p : ℕ) × (slice_get ls j ≡ Some p) × (slice_get xs p ≡ Some v)
picked_some [] xs j v e = grind arith
picked_some (l ∷ ls) xs zero v e = (l, refl, sym (some_is e))
picked_some (l ∷ ls) xs (suc j) v e = picked_some ls xs j v e

pub picked_past : (ls xs : List ℕ) (j : ℕ) → None ≡ slice_get (pick ls xs) j → length ls ≤ j
picked_past [] xs j e = omega arith
picked_past (l ∷ ls) xs zero e = absurd (cc)
picked_past (l ∷ ls) xs (suc j) e = let y = picked_past ls xs j e in omega (arith, y)

-- distinct lists
pub distinct_remove : (xs : List ℕ) (i : ℕ) → IsDistinct xs → IsDistinct (remove xs i)
distinct_remove [] zero d = d
distinct_remove [] (suc i) d = d
distinct_remove (x ∷ xs) zero d = d.1
distinct_remove (x ∷ xs) (suc i) d = ((λ j. d.0 (in_from-remove x xs i j)), distinct_remove xs i d.1)

pub distinct_gone : (xs : List ℕ) (i x : ℕ) → IsDistinct xs → slice_get xs i ≡ Some x → In x (remove xs i) → ⊥
distinct_gone [] zero x d e j = j
distinct_gone [] (suc i) x d e j = j
distinct_gone (y ∷ ys) zero x d e j = d.0 (subst (λ z. In z ys) (sym (some_is e)) j)
distinct_gone (y ∷ ys) (suc i) x d e (inl q) = d.0 (subst (λ z. In z ys) q (in_slice ys i x e))
distinct_gone (y ∷ ys) (suc i) x d e (inr j) = distinct_gone ys i x d.1 e j

pub distinct_same : (xs : List ℕ) (i j x : ℕ) → IsDistinct xs → slice_get xs i ≡ Some x → slice_get xs j ≡ Some x → i ≡ j
distinct_same [] i j x d e f = grind arith
distinct_same (y ∷ ys) zero zero x d e f = refl
distinct_same (y ∷ ys) zero (suc j) x d e f = absurd (d.0 (subst (λ z. In z ys) (sym (some_is e)) (in_slice ys j x f)))
distinct_same (y ∷ ys) (suc i) zero x d e f = absurd (d.0 (subst (λ z. In z ys) (sym (some_is f)) (in_slice ys i x e)))
distinct_same (y ∷ ys) (suc i) (suc j) x d e f = let r = distinct_same ys i j x d.1 e f in omega (arith, r)

-- all places in order
pub in_range : (a n x : ℕ) → In x (range_with_len a n) → a ≤ x
in_range a zero x i = absurd i
in_range a (suc n) x (inl e) = omega (arith, e)
in_range a (suc n) x (inr i) = let r = in_range (a + 1) n x i in omega (arith, r)

pub distinct_range : (a n : ℕ) → IsDistinct (range_with_len a n)
distinct_range a zero = tt
distinct_range a (suc n) = ((λ i. let r = in_range (a + 1) n a i in absurd (omega (arith, r))), distinct_range (a + 1) n)

pub range_in : (a n x : ℕ) → a ≤ x → x < a + n → In x (range_with_len a n)
range_in a zero x l r = absurd (omega (arith, l, r))
range_in a (suc n) x l r = go (cases_lt a x) (λ y. range_in (a + 1) n x (omega (arith, y)) (omega (arith, r)))
  where
    go : (a < x) ⊎ (x ≤ a) → (a < x → In x (range_with_len (a + 1) n)) → In x (range_with_len a (suc n))
    go (inl y) later = inr (later y)
    go (inr y) later = inl (omega (arith, l, y))

pub range_get : (a n p : ℕ) → p < n → slice_get (range_with_len a n) p ≡ Some (a + p)
range_get a zero p l = absurd (omega (arith, l))
range_get a (suc n) zero l = ap Some (omega arith)
range_get a (suc n) (suc p) l = range_get (a + 1) n p (omega (arith, l)) ∙ ap Some (omega arith)

pub pick_range : (ls : List ℕ) (n : ℕ) → ((p : ℕ) → In p ls → p < n) → pick ls (range_with_len 0 n) ≡ map Some ls
pick_range [] n h = refl
pick_range (l ∷ ls) n h = ap₂ (λ a b. a ∷ b) (range_get 0 n l (h l (inl refl)) ∙ ap Some (omega arith)) (pick_range ls n (λ p i. h p (inr i)))
