-- Branches with any number of edges: an attribute for each edge counts the operands that it forwards.
use Rattle.std.proofs.Common.{◌≡◌, ◌⊎◌, inl, inr, ℕ, zero, suc, ◌+◌, ◌-◌, ◌<◌, ◌≤◌, Bool, true, false, ◌&&◌, nat_eq, nat_lt, nat_le, min, IsTrue, if◌then◌else◌, List, [], ◌∷◌, Some, length, slice_get, slice_set, map, remove, take, drop, refl, ap, ap₂, sym, ◌∙◌, arith, tests, rules}
use Rattle.std.specs.Prelude.{pos, negsuc}
use Rattle.std.specs.List.{range_with_len}
use Rattle.std.proofs.lemmas.Option.{same_Some}
use Rattle.pliron_core.specs.declared.attrs.AttrObj.{AttrObj}
use Rattle.pliron_dialect.specs.declared.form.Counting.{Counting}
use Rattle.pliron_dialect.specs.declared.form.Counting.TheVariants.{OfFirst, OfEach}
use Rattle.pliron_core.specs.declared.attrs.AttrObj.TheVariants.{Int, Text as Words}
use Rattle.pliron_core.specs.Lists.{In}
use Rattle.pliron_core.proofs.GrownLemmas.{range_at}
use Rattle.pliron_laws.specs.Acting.{pick}
use Rattle.pliron_laws.specs.Laws.{moved_up}
use Rattle.pliron_laws.specs.PlaceLaws.{shifted}
use Rattle.pliron_dialect.specs.Ranges.{in_range, picked_behind, picked_first, range_below, range_without, take_without, drop_without, take_kept, drop_kept}
use Rattle.pliron_dialect.specs.Counts.{counted_by}

-- ---- counts

-- how many operands the edges before this one forward, and this one
abbrev pub start_of : List ℕ → ℕ → ℕ
start_of ns zero = 0
start_of [] (suc i) = 0
start_of (n ∷ ns) (suc i) = n + start_of ns i

abbrev pub count_of : List ℕ → ℕ → ℕ
count_of [] i = 0
count_of (n ∷ ns) zero = n
count_of (n ∷ ns) (suc i) = count_of ns i

abbrev pub total : List ℕ → ℕ
total [] = 0
total (n ∷ ns) = n + total ns

-- one fewer at this edge
abbrev pub fewer : List ℕ → ℕ → List ℕ
fewer [] i = []
fewer (n ∷ ns) zero = (n - 1) ∷ ns
fewer (n ∷ ns) (suc i) = n ∷ fewer ns i

pub within_total : (ns : List ℕ) (i : ℕ) → start_of ns i + count_of ns i ≤ total ns
within_total [] zero = omega arith
within_total [] (suc i) = omega arith
within_total (n ∷ ns) zero = omega arith
within_total (n ∷ ns) (suc i) = let r = within_total ns i in omega (arith, r)

pub ends_before : (ns : List ℕ) (i j : ℕ) → i < j → start_of ns i + count_of ns i ≤ start_of ns j
ends_before ns zero zero lt = absurd (omega (arith, lt))
ends_before ns (suc i) zero lt = absurd (omega (arith, lt))
ends_before [] zero (suc j) lt = omega arith
ends_before [] (suc i) (suc j) lt = omega arith
ends_before (n ∷ ns) zero (suc j) lt = omega arith
ends_before (n ∷ ns) (suc i) (suc j) lt = let r = ends_before ns i j (omega (arith, lt)) in omega (arith, r)

pub fewer_before : (ns : List ℕ) (i k : ℕ) → k ≤ i → start_of (fewer ns i) k ≡ start_of ns k
fewer_before ns i zero le = refl
fewer_before [] i (suc k) le = refl
fewer_before (n ∷ ns) zero (suc k) le = absurd (omega (arith, le))
fewer_before (n ∷ ns) (suc i) (suc k) le = ap (λ x. n + x) (fewer_before ns i k (omega (arith, le)))

pub fewer_behind : (ns : List ℕ) (i k : ℕ) → i < k → 0 < count_of ns i → suc (start_of (fewer ns i) k) ≡ start_of ns k
fewer_behind ns i zero lt some = absurd (omega (arith, lt))
fewer_behind [] i (suc k) lt some = absurd (omega (arith, some))
fewer_behind (n ∷ ns) zero (suc k) lt some = omega (arith, some)
fewer_behind (n ∷ ns) (suc i) (suc k) lt some = let r = fewer_behind ns i k (omega (arith, lt)) some in omega (arith, r)

pub fewer_there : (ns : List ℕ) (i : ℕ) → count_of (fewer ns i) i ≡ count_of ns i - 1
fewer_there [] i = omega arith
fewer_there (n ∷ ns) zero = refl
fewer_there (n ∷ ns) (suc i) = fewer_there ns i

pub fewer_else : (ns : List ℕ) (i k : ℕ) → (k ≡ i → ⊥) → count_of (fewer ns i) k ≡ count_of ns k
fewer_else [] i k differ = refl
fewer_else (n ∷ ns) zero zero differ = absurd (differ refl)
fewer_else (n ∷ ns) zero (suc k) differ = refl
fewer_else (n ∷ ns) (suc i) zero differ = refl
fewer_else (n ∷ ns) (suc i) (suc k) differ = fewer_else ns i k (λ e. differ (ap suc e))

pub fewer_total : (ns : List ℕ) (i : ℕ) → 0 < count_of ns i → suc (total (fewer ns i)) ≡ total ns
fewer_total [] i some = absurd (omega (arith, some))
fewer_total (n ∷ ns) zero some = omega (arith, some)
fewer_total (n ∷ ns) (suc i) some = let r = fewer_total ns i some in omega (arith, r)

-- ---- counts in attributes

-- what the first c attributes count
abbrev pub edge_counts_in : ℕ → List AttrObj → List ℕ
edge_counts_in zero attrs = []
edge_counts_in (suc c) [] = []
edge_counts_in (suc c) (a ∷ attrs) = counted_by a ∷ edge_counts_in c attrs

-- the attributes, where the one of this edge counts one fewer
abbrev pub one_fewer : List AttrObj → ℕ → ℕ → List AttrObj
one_fewer attrs c i = slice_set attrs i (Int (pos (count_of (edge_counts_in c attrs) i - 1)))

pub fewer_counted : (c i n : ℕ) (attrs : List AttrObj) → i < c → n ≡ count_of (edge_counts_in c attrs) i - 1 → edge_counts_in c (slice_set attrs i (Int (pos n))) ≡ fewer (edge_counts_in c attrs) i
fewer_counted zero i n attrs lt e = absurd (omega (arith, lt))
fewer_counted (suc c) i n [] lt e = refl
fewer_counted (suc c) zero n (a ∷ attrs) lt e = ap (λ x. x ∷ edge_counts_in c attrs) e
fewer_counted (suc c) (suc i) n (a ∷ attrs) lt e = ap (λ xs. counted_by a ∷ xs) (fewer_counted c i n attrs (omega (arith, lt)) e)

-- ---- places and values

-- the places of the operands of an edge, behind what the branch decides by
abbrev pub edge_range : List ℕ → ℕ → List ℕ
edge_range ns i = range_with_len (suc (start_of ns i)) (count_of ns i)

abbrev pub values_of_edge : {A : Type 0} → List ℕ → ℕ → List A → List A
values_of_edge ns i ds = take (count_of ns i) (drop (start_of ns i) (drop 1 ds))

pub edge_within : (ns : List ℕ) (i p a : ℕ) → suc (total ns) ≡ a → In p (edge_range ns i) → p < a
edge_within ns i p a e h = let r = in_range (count_of ns i) (suc (start_of ns i)) p h in omega (arith, e, r.1, within_total ns i)

same_edge : (ns : List ℕ) (i j k l p : ℕ) → slice_get (edge_range ns i) k ≡ Some p → slice_get (edge_range ns j) l ≡ Some p → i ≡ j → (i ≡ j) × (k ≡ l)
same_edge ns i j k l p e f g =
    let a = range_at (suc (start_of ns i)) (count_of ns i) k p e in
    let b = range_at (suc (start_of ns j)) (count_of ns j) l p f in
    let s = ap (start_of ns) g in (g, omega (arith, a.0, b.0, s))

apart : (ns : List ℕ) (i j k l p : ℕ) → slice_get (edge_range ns i) k ≡ Some p → slice_get (edge_range ns j) l ≡ Some p → i < j → ⊥
apart ns i j k l p e f lt =
    let a = range_at (suc (start_of ns i)) (count_of ns i) k p e in
    let b = range_at (suc (start_of ns j)) (count_of ns j) l p f in
    let s = ends_before ns i j lt in omega (arith, a.0, a.1, b.0, s)

order : (i j : ℕ) → (i ≡ j) ⊎ ((i < j) ⊎ (j < i))
order zero zero = inl refl
order zero (suc j) = inr (inl (omega arith))
order (suc i) zero = inr (inr (omega arith))
order (suc i) (suc j) = again (order i j)
  where
    again : (i ≡ j) ⊎ ((i < j) ⊎ (j < i)) → (suc i ≡ suc j) ⊎ ((suc i < suc j) ⊎ (suc j < suc i))
    again (inl e) = inl (ap suc e)
    again (inr (inl lt)) = inr (inl (omega (arith, lt)))
    again (inr (inr lt)) = inr (inr (omega (arith, lt)))

pub edges_distinct : (ns : List ℕ) (i j k l p : ℕ) → slice_get (edge_range ns i) k ≡ Some p → slice_get (edge_range ns j) l ≡ Some p → (i ≡ j) × (k ≡ l)
edges_distinct ns i j k l p e f = by_order (order i j)
  where
    by_order : (i ≡ j) ⊎ ((i < j) ⊎ (j < i)) → (i ≡ j) × (k ≡ l)
    by_order (inl g) = same_edge ns i j k l p e f g
    by_order (inr (inl lt)) = absurd (apart ns i j k l p e f lt)
    by_order (inr (inr lt)) = absurd (apart ns j i l k p f e lt)

-- what an edge passes is what is at its places
picked_at : {A : Type 0} (n a : ℕ) (xs : List A) → a + n ≤ length xs → map (λ i. slice_get xs i) (range_with_len a n) ≡ map Some (take n (drop a xs))
picked_at n zero xs le = picked_first n xs (omega (arith, le))
picked_at zero (suc a) [] le = refl
picked_at (suc n) (suc a) [] le = absurd (omega (arith, le))
picked_at n (suc a) (x ∷ xs) le = picked_behind n a (suc a) x xs refl ∙ picked_at n a xs (omega (arith, le))

pub edge_passes : {A : Type 0} (ns : List ℕ) (i : ℕ) (first : List A) → suc (total ns) ≡ length first → map Some (values_of_edge ns i first) ≡ pick (edge_range ns i) first
edge_passes ns i [] e = absurd (omega (arith, e))
edge_passes ns i (d ∷ ds) e = sym (picked_behind (count_of ns i) (start_of ns i) (suc (start_of ns i)) d ds refl ∙ picked_at (count_of ns i) (start_of ns i) ds (omega (arith, e, within_total ns i)))

-- ---- an edge without one of its operands

nat_eq_no : (a b : ℕ) → (a ≡ b → ⊥) → nat_eq a b ≡ false
nat_eq_no a b differ = grind (arith, tests, differ)

nat_eq_yes : (a : ℕ) → nat_eq a a ≡ true
nat_eq_yes a = grind (arith, tests)

other_range : (ns : List ℕ) (i j p k : ℕ) → (k ≡ i → ⊥) → edge_range (fewer ns i) k ≡ map (moved_up p) (edge_range ns k) → edge_range (fewer ns i) k ≡ map (moved_up p) (if nat_eq k i then remove (edge_range ns k) j else edge_range ns k)
other_range ns i j p k differ e = e ∙ ap (λ b. map (moved_up p) (if b then remove (edge_range ns k) j else edge_range ns k)) (sym (nat_eq_no k i differ))

range_there : (n m a j p : ℕ) → n ≡ suc m → p ≡ a + j → j < n → range_with_len a (n - 1) ≡ map (moved_up p) (remove (range_with_len a n) j)
range_there n m a j p e f lt = ap (range_with_len a) (omega (arith, e)) ∙ sym (ap (λ x. map (moved_up p) (remove (range_with_len a x) j)) e ∙ range_without p m a j (omega (arith, f)) (omega (arith, e, lt)))

pub edges_lose : (ns : List ℕ) (i j p k : ℕ) → slice_get (edge_range ns i) j ≡ Some p → edge_range (fewer ns i) k ≡ map (moved_up p) (if nat_eq k i then remove (edge_range ns k) j else edge_range ns k)
edges_lose ns i j p k at = by_order (order k i)
  where
    place : (p ≡ suc (start_of ns i) + j) × (j < count_of ns i)
    place = range_at (suc (start_of ns i)) (count_of ns i) j p at

    by_order : (k ≡ i) ⊎ ((k < i) ⊎ (i < k)) → edge_range (fewer ns i) k ≡ map (moved_up p) (if nat_eq k i then remove (edge_range ns k) j else edge_range ns k)
    by_order (inl e) =
        ap (edge_range (fewer ns i)) e ∙ ap₂ (λ s n. range_with_len (suc s) n) (fewer_before ns i i (omega arith)) (fewer_there ns i)
        ∙ range_there (count_of ns i) (count_of ns i - 1) (suc (start_of ns i)) j p (omega (arith, place.1)) place.0 place.1
        ∙ ap (λ b. map (moved_up p) (if b then remove (edge_range ns i) j else edge_range ns i)) (sym (nat_eq_yes i))
        ∙ ap (λ x. map (moved_up p) (if nat_eq x i then remove (edge_range ns x) j else edge_range ns x)) (sym e)
    by_order (inr (inl lt)) = other_range ns i j p k (λ e. omega (arith, e, lt))
        (ap₂ (λ s n. range_with_len (suc s) n) (fewer_before ns i k (omega (arith, lt))) (fewer_else ns i k (λ e. omega (arith, e, lt)))
        ∙ sym (range_below p (count_of ns k) (suc (start_of ns k)) (omega (arith, place.0, ends_before ns k i lt))))
    by_order (inr (inr lt)) = other_range ns i j p k (λ e. omega (arith, e, lt))
        (ap (range_with_len (suc (start_of (fewer ns i) k))) (fewer_else ns i k (λ e. omega (arith, e, lt)))
        ∙ sym (ap (λ s. map (moved_up p) (range_with_len s (count_of ns k))) (omega (arith, fewer_behind ns i k lt (omega (arith, place.1))))
        ∙ shifted p (suc (start_of (fewer ns i) k)) (count_of ns k) (omega (arith, place.0, place.1, ends_before ns i k lt, fewer_behind ns i k lt (omega (arith, place.1))))))

-- ---- the values of an edge, where an operand was removed

pub value_there : {A : Type 0} (ns : List ℕ) (i j p : ℕ) (d : A) (ds : List A) → p ≡ start_of ns i + j → j < count_of ns i → total ns ≡ length ds → values_of_edge (fewer ns i) i (d ∷ remove ds p) ≡ remove (values_of_edge ns i (d ∷ ds)) j
value_there ns i j p d ds e lt l =
    let some : 0 < count_of ns i = omega (arith, lt) in
    let back : suc (count_of ns i - 1) ≡ count_of ns i = omega (arith, lt) in
    let inside = within_total ns i in
    ap₂ (λ n a. take n (drop a (remove ds p))) (fewer_there ns i) (fewer_before ns i i (omega arith))
    ∙ ap (take (count_of ns i - 1)) (drop_kept (start_of ns i) p j ds e (omega (arith, e, lt, l, inside)))
    ∙ take_without (count_of ns i - 1) j (drop (start_of ns i) ds) (omega (arith, lt)) (long (start_of ns i) (count_of ns i) ds some (omega (arith, l, inside)))
    ∙ ap (λ n. remove (take n (drop (start_of ns i) ds)) j) back
  where
    long : {B : Type 0} (a n : ℕ) (xs : List B) → 0 < n → a + n ≤ length xs → suc (n - 1) ≤ length (drop a xs)
    long zero n xs some le = omega (arith, some, le)
    long (suc a) n [] some le = absurd (omega (arith, some, le))
    long (suc a) n (x ∷ xs) some le = long a n xs some (omega (arith, le))

pub value_else : {A : Type 0} (ns : List ℕ) (i j p k : ℕ) (d : A) (ds : List A) → p ≡ start_of ns i + j → j < count_of ns i → total ns ≡ length ds → (k < i) ⊎ (i < k) → values_of_edge (fewer ns i) k (d ∷ remove ds p) ≡ values_of_edge ns k (d ∷ ds)
value_else ns i j p k d ds e lt l (inl below) =
    let ends = ends_before ns k i below in
    let inside = within_total ns i in
    ap₂ (λ n a. take n (drop a (remove ds p))) (fewer_else ns i k (λ f. omega (arith, f, below))) (fewer_before ns i k (omega (arith, below)))
    ∙ ap (take (count_of ns k)) (drop_kept (start_of ns k) p (p - start_of ns k) ds (omega (arith, e, ends)) (omega (arith, e, lt, l, inside)))
    ∙ take_kept (count_of ns k) (p - start_of ns k) (drop (start_of ns k) ds) (omega (arith, e, ends))
value_else ns i j p k d ds e lt l (inr above) =
    let starts = fewer_behind ns i k above (omega (arith, lt)) in
    let ends = ends_before ns i k above in
    let inside = within_total ns k in
    ap (λ n. take n (drop (start_of (fewer ns i) k) (remove ds p))) (fewer_else ns i k (λ f. omega (arith, f, above)))
    ∙ ap (take (count_of ns k)) (drop_without (start_of (fewer ns i) k) p ds (omega (arith, e, lt, starts, ends)) (omega (arith, l, inside, starts)) ∙ ap (λ a. drop a ds) starts)

-- ---- places that are there

-- the places of an edge, or none where there are not so many operands
abbrev pub capped_places : ℕ → List ℕ → ℕ → List ℕ
capped_places a ns i = if nat_le (suc (start_of ns i + count_of ns i)) a then edge_range ns i else []

le_true : (a b : ℕ) → a ≤ b → nat_le a b ≡ true
le_true a b le = grind (arith, tests)

pub uncapped : (a : ℕ) (ns : List ℕ) (i : ℕ) → suc (total ns) ≡ a → capped_places a ns i ≡ edge_range ns i
uncapped a ns i e = ap (λ b. if b then edge_range ns i else []) (le_true (suc (start_of ns i + count_of ns i)) a (omega (arith, e, within_total ns i)))

pub capped_get : (a : ℕ) (ns : List ℕ) (i k p : ℕ) → slice_get (capped_places a ns i) k ≡ Some p → slice_get (edge_range ns i) k ≡ Some p
capped_get a ns i k p e = of_bool (nat_le (suc (start_of ns i + count_of ns i)) a) e
  where
    of_bool : (b : Bool) → slice_get (if b then edge_range ns i else []) k ≡ Some p → slice_get (edge_range ns i) k ≡ Some p
    of_bool true f = f
    of_bool false f = grind arith

-- ---- counts, one after the other

pub start_next : (ns : List ℕ) (i : ℕ) → start_of ns (suc i) ≡ start_of ns i + count_of ns i
start_next [] zero = refl
start_next [] (suc i) = refl
start_next (n ∷ ns) zero = omega arith
start_next (n ∷ ns) (suc i) = let r = start_next ns i in omega (arith, r)

pub count_at : (c i : ℕ) (attrs : List AttrObj) (a : AttrObj) → i < c → slice_get attrs i ≡ Some a → count_of (edge_counts_in c attrs) i ≡ counted_by a
count_at zero i attrs a lt e = absurd (omega (arith, lt))
count_at (suc c) i [] a lt e = grind arith
count_at (suc c) zero (x ∷ attrs) a lt e = ap counted_by (same_Some x a e)
count_at (suc c) (suc i) (x ∷ attrs) a lt e = count_at c i attrs a (omega (arith, lt)) e

pub count_past : (c i : ℕ) (attrs : List AttrObj) → c ≤ i ⊎ length attrs ≤ i → count_of (edge_counts_in c attrs) i ≡ 0
count_past zero i attrs le = refl
count_past (suc c) i [] le = refl
count_past (suc c) zero (x ∷ attrs) (inl le) = absurd (omega (arith, le))
count_past (suc c) zero (x ∷ attrs) (inr le) = absurd (omega (arith, le))
count_past (suc c) (suc i) (x ∷ attrs) (inl le) = count_past c i attrs (inl (omega (arith, le)))
count_past (suc c) (suc i) (x ∷ attrs) (inr le) = count_past c i attrs (inr (omega (arith, le)))

pub capped_empty : (a : ℕ) (ns : List ℕ) (i : ℕ) → count_of ns i ≡ 0 → capped_places a ns i ≡ []
capped_empty a ns i e = of_bool (nat_le (suc (start_of ns i + count_of ns i)) a)
  where
    of_bool : (b : Bool) → (if b then edge_range ns i else []) ≡ []
    of_bool true = ap (range_with_len (suc (start_of ns i))) e
    of_bool false = refl

pub start_all : (c : ℕ) (attrs : List AttrObj) → start_of (edge_counts_in c attrs) c ≡ total (edge_counts_in c attrs)
start_all zero attrs = refl
start_all (suc c) [] = refl
start_all (suc c) (a ∷ attrs) = ap (λ x. counted_by a + x) (start_all c attrs)

-- ---- what counts say: an attribute counts the operands of the first of two edges, or one those of each edge

-- how many attributes count
abbrev pub counted_attributes : Counting → ℕ → ℕ
counted_attributes OfFirst c = 1
counted_attributes OfEach c = c

abbrev pub first_edge_count : List AttrObj → ℕ
first_edge_count [] = 0
first_edge_count (a ∷ attrs) = counted_by a

-- the first edge has so many of the operands behind what the branch decides by, the second one the others
abbrev pub two_counts : ℕ → ℕ → List ℕ
two_counts n m = min n m ∷ (m - n) ∷ []

-- of a branch with c edges and a operands
abbrev pub counts_by : Counting → (c a : ℕ) → List AttrObj → List ℕ
counts_by OfFirst c a attrs = two_counts (first_edge_count attrs) (a - 1)
counts_by OfEach c a attrs = edge_counts_in c attrs

-- whether an attribute counts the operands of this edge
abbrev pub counts_edge : Counting → ℕ → Bool
counts_edge OfFirst i = nat_eq i 0
counts_edge OfEach i = true

-- the attributes, where this edge counts one fewer
abbrev pub fewer_by : Counting → List AttrObj → ℕ → ℕ → List AttrObj
fewer_by OfFirst attrs c zero = slice_set attrs 0 (Int (pos (first_edge_count attrs - 1)))
fewer_by OfFirst attrs c (suc i) = attrs
fewer_by OfEach attrs c i = one_fewer attrs c i

-- whether the counts fit the operands
abbrev pub counts_fit : Counting → List AttrObj → (c a : ℕ) → Bool
counts_fit OfFirst attrs c a = nat_eq c 2 && nat_lt (first_edge_count attrs) a
counts_fit OfEach attrs c a = nat_eq (suc (total (edge_counts_in c attrs))) a

first_fewer : (n m : ℕ) → 0 < min n m → two_counts (n - 1) (m - 1) ≡ fewer (two_counts n m) 0
first_fewer n m some = ap₂ (λ x y. x ∷ y ∷ []) (omega (arith, some)) (omega (arith, some))

second_fewer : (n m : ℕ) → 0 < m - n → two_counts n (m - 1) ≡ fewer (two_counts n m) 1
second_fewer n m some = ap₂ (λ x y. x ∷ y ∷ []) (omega (arith, some)) (omega (arith, some))

pub fewer_counted_by : (counting : Counting) (c a i : ℕ) (attrs : List AttrObj) → i < c → 0 < count_of (counts_by counting c a attrs) i → counts_by counting c (a - 1) (fewer_by counting attrs c i) ≡ fewer (counts_by counting c a attrs) i
fewer_counted_by OfEach c a i attrs lt some = fewer_counted c i (count_of (edge_counts_in c attrs) i - 1) attrs lt refl
fewer_counted_by OfFirst c a zero [] lt some = absurd (omega (arith, some))
fewer_counted_by OfFirst c a zero (x ∷ attrs) lt some = first_fewer (counted_by x) (a - 1) some
fewer_counted_by OfFirst c a (suc zero) attrs lt some = second_fewer (first_edge_count attrs) (a - 1) some
fewer_counted_by OfFirst c a (suc (suc i)) attrs lt some = absurd (omega (arith, some))

-- ---- where they fit

and_both : (x y : Bool) → IsTrue (x && y) → IsTrue x × IsTrue y
and_both true y h = (refl, h)
and_both false y h = grind arith

and_true : (x y : Bool) → IsTrue x → IsTrue y → IsTrue (x && y)
and_true true y h k = k
and_true false y h k = grind arith

is_same : (a b : ℕ) → IsTrue (nat_eq a b) → a ≡ b
is_same a b h = search (rules, arith)

is_below : (a b : ℕ) → IsTrue (nat_lt a b) → a < b
is_below a b h = search (rules, arith)

same_is : (a b : ℕ) → a ≡ b → IsTrue (nat_eq a b)
same_is a b e = search (rules, arith)

below_is : (a b : ℕ) → a < b → IsTrue (nat_lt a b)
below_is a b lt = search (rules, arith)

two_total : (n a : ℕ) → n < a → suc (total (two_counts n (a - 1))) ≡ a
two_total n a lt = omega (arith, lt)

-- all operands behind what the branch decides by go along some edge
pub all_counted : (counting : Counting) (attrs : List AttrObj) (c a : ℕ) → IsTrue (counts_fit counting attrs c a) → suc (total (counts_by counting c a attrs)) ≡ a
all_counted OfFirst attrs c a h = two_total (first_edge_count attrs) a (is_below (first_edge_count attrs) a (and_both _ _ h).1)
all_counted OfEach attrs c a h = is_same _ a h

first_below : (n m : ℕ) → 0 < min n m → n < suc m → n - 1 < m
first_below n m some lt = omega (arith, some, lt)

second_below : (n a : ℕ) → 0 < a - 1 - n → n < a - 1
second_below n a some = omega (arith, some)

-- so they do without an operand of an edge
pub fits_again : (counting : Counting) (attrs : List AttrObj) (c a i : ℕ) → i < c → 0 < count_of (counts_by counting c a attrs) i → IsTrue (counts_fit counting attrs c a) → IsTrue (counts_fit counting (fewer_by counting attrs c i) c (a - 1))
fits_again OfEach attrs c a i lt some h = same_is _ (a - 1) (ap (λ ns. suc (total ns)) (fewer_counted c i (count_of (edge_counts_in c attrs) i - 1) attrs lt refl) ∙ omega (arith, fewer_total (edge_counts_in c attrs) i some, is_same _ a h))
fits_again OfFirst [] c a zero lt some h = absurd (omega (arith, some))
fits_again OfFirst (x ∷ attrs) c a zero lt some h = let p = and_both _ _ h in and_true _ _ p.0 (below_is (counted_by x - 1) (a - 1) (omega (arith, some, is_below (counted_by x) a p.1)))
fits_again OfFirst attrs c a (suc zero) lt some h = let p = and_both _ _ h in and_true _ _ p.0 (below_is (first_edge_count attrs) (a - 1) (second_below (first_edge_count attrs) a some))
fits_again OfFirst attrs c a (suc (suc i)) lt some h = absurd (omega (arith, some))

-- the attributes that count nothing stay
dropped : (c i : ℕ) (x : AttrObj) (attrs : List AttrObj) → i < c → drop c (slice_set attrs i x) ≡ drop c attrs
dropped zero i x attrs lt = absurd (omega (arith, lt))
dropped (suc c) i x [] lt = refl
dropped (suc c) zero x (a ∷ attrs) lt = refl
dropped (suc c) (suc i) x (a ∷ attrs) lt = dropped c i x attrs (omega (arith, lt))

pub rest_kept : (counting : Counting) (c i : ℕ) (attrs : List AttrObj) → i < c → drop (counted_attributes counting c) (fewer_by counting attrs c i) ≡ drop (counted_attributes counting c) attrs
rest_kept OfFirst c zero attrs lt = dropped 1 0 (Int (pos (first_edge_count attrs - 1))) attrs (omega arith)
rest_kept OfFirst c (suc i) attrs lt = refl
rest_kept OfEach c i attrs lt = dropped c i (Int (pos (count_of (edge_counts_in c attrs) i - 1))) attrs lt

-- one attribute at most is another one
pub one_other : (counting : Counting) (c i : ℕ) (attrs : List AttrObj) → (fewer_by counting attrs c i ≡ attrs) ⊎ ((a : ℕ) × (x : AttrObj) × (fewer_by counting attrs c i ≡ slice_set attrs a x))
one_other OfFirst c zero attrs = inr (0, Int (pos (first_edge_count attrs - 1)), refl)
one_other OfFirst c (suc i) attrs = inl refl
one_other OfEach c i attrs = inr (i, Int (pos (count_of (edge_counts_in c attrs) i - 1)), refl)
