-- Lists of numbers, each once, beside a table that marks what stands in them.
use Rattle.std.proofs.Common.{◌≡◌, inl, inr, ℕ, zero, suc, ◌+◌, ◌<◌, ◌≤◌, Bool, true, false, true≢false, ◌||◌, nat_eq, if◌then◌else◌, List, [], ◌∷◌, ◌++◌, length, slice_get, Option, Some, None, refl, sym, ap, ◌∙◌, subst, arith}
use Rattle.std.specs.List.{list_any, position, slice_index_or, slice_set}
use Rattle.std.proofs.lemmas.Bool.{eqb-true, eq-eqb}
use Rattle.std.proofs.lemmas.List.{get_or-set_same, get_or-set_other}
use Rattle.std.proofs.lemmas.List.Folds.{list_any-append}
use Rattle.std.proofs.lemmas.List.Quantifiers.{position-Some}
use Rattle.pliron_core.specs.Lists.{In, IsDistinct}
use Rattle.pliron_core.proofs.ListLemmas.{In-right, distinct-join, distinct-front, distinct-apart, distinct-length}
use Rattle.pliron_core.proofs.FlatLemmas.{distinct-indices}
use Rattle.pliron_core.proofs.HoldingLemmas.{some_is, in_slice}
use Rattle.pliron_opt_sccp.specs.LatticeCells.{AreOnce, stamp_at, table_at}

-- a list's test, in the words of lists
pub any_in : (x : ℕ) (xs : List ℕ) → list_any (nat_eq x) xs ≡ true → In x xs
any_in x [] e = absurd (true≢false (sym e))
any_in x (y ∷ ys) e = by (nat_eq x y) refl (any_in x ys)
  where
    by : (b : Bool) → nat_eq x y ≡ b → (list_any (nat_eq x) ys ≡ true → In x ys) → In x (y ∷ ys)
    by true same more = inl (eqb-true x y same)
    by false other more = inr (more (grind (arith, e, other)))

pub in_any : (x : ℕ) (xs : List ℕ) → In x xs → list_any (nat_eq x) xs ≡ true
in_any x [] i = absurd i
in_any x (y ∷ ys) (inl e) = let s : nat_eq x y ≡ true = eq-eqb x y e in grind (arith, s)
in_any x (y ∷ ys) (inr i) = by (nat_eq x y) refl (in_any x ys i)
  where
    by : (b : Bool) → nat_eq x y ≡ b → list_any (nat_eq x) ys ≡ true → list_any (nat_eq x) (y ∷ ys) ≡ true
    by true s r = grind (arith, s)
    by false s r = grind (arith, s, r)

pub once_from : (xs : List ℕ) → IsDistinct xs → AreOnce xs
once_from [] d i j n e f = absurd (in_slice [] i n e)
once_from (x ∷ xs) d zero zero n e f = refl
once_from (x ∷ xs) d zero (suc j) n e f = absurd (d.0 (subst (λ z. In z xs) (sym (some_is e)) (in_slice xs j n f)))
once_from (x ∷ xs) d (suc i) zero n e f = absurd (d.0 (subst (λ z. In z xs) (sym (some_is f)) (in_slice xs i n e)))
once_from (x ∷ xs) d (suc i) (suc j) n e f = ap suc (once_from xs d.1 i j n e f)

not_in : (n : ℕ) (w : List ℕ) → list_any (nat_eq n) w ≡ false → In n w → ⊥
not_in n w e i = true≢false (sym (in_any n w i) ∙ e)

-- a number that is not in the list goes last
pub once_added : (w : List ℕ) (n : ℕ) → AreOnce w → list_any (nat_eq n) w ≡ false → AreOnce (w ++ n ∷ [])
once_added w n once e = once_from (w ++ n ∷ []) (distinct-join w (n ∷ []) (distinct-indices w once) ((λ i. i), tt) (λ x i j. apart x i j))
  where
    apart : (x : ℕ) → In x w → In x (n ∷ []) → ⊥
    apart x i (inl s) = not_in n w e (subst (λ z. In z w) s i)
    apart x i (inr j) = j

-- the last is taken
pub once_popped : (w : List ℕ) (n : ℕ) → AreOnce (w ++ n ∷ []) → AreOnce w
once_popped w n once = once_from w (distinct-front w (n ∷ []) (distinct-indices (w ++ n ∷ []) once))

pub popped_out : (w : List ℕ) (n : ℕ) → AreOnce (w ++ n ∷ []) → list_any (nat_eq n) w ≡ false
popped_out w n once = by (list_any (nat_eq n) w) refl
  where
    by : (b : Bool) → list_any (nat_eq n) w ≡ b → list_any (nat_eq n) w ≡ false
    by false e = e
    by true e = absurd (distinct-apart w (n ∷ []) (distinct-indices (w ++ n ∷ []) once) n (any_in n w e) (inl refl))

-- there is room for a number that is not in the list
pub room_left : (w : List ℕ) (m n : ℕ) → AreOnce w → ((q : ℕ) → list_any (nat_eq q) w ≡ true → q < m) → list_any (nat_eq n) w ≡ false → n < m → length w < m
room_left w m n once below e lt =
    let l : length (n ∷ w) ≤ m = distinct-length m (n ∷ w) (not_in n w e, distinct-indices w once) (λ x i. under x i) in
    omega (arith, l)
  where
    under : (x : ℕ) → In x (n ∷ w) → x < m
    under x (inl s) = subst (λ z. z < m) (sym s) lt
    under x (inr i) = below x (in_any x w i)

module _ {A : Type 0} (test : A → Bool) (d : A) where
  -- what passes the test stands within the table
  pub within : test d ≡ false → (table : List A) (q : ℕ) → test (slice_index_or table q d) ≡ true → q < length table
  within fails [] q e = absurd (true≢false (sym e ∙ fails))
  within fails (x ∷ xs) zero e = omega arith
  within fails (x ∷ xs) (suc q) e = let l = within fails xs q e in omega (arith, l)

  -- the number goes last, and its mark is set
  pub pushed_waits : (a : A) (table : List A) (w : List ℕ) (n : ℕ) → n < length table → test a ≡ true → ((q : ℕ) → list_any (nat_eq q) w ≡ test (slice_index_or table q d)) → (q : ℕ) → list_any (nat_eq q) (w ++ n ∷ []) ≡ test (slice_index_or (slice_set table n a) q d)
  pushed_waits a table w n lt passes same q = list_any-append (nat_eq q) w (n ∷ []) ∙ by (nat_eq q n) refl
    where
      by : (b : Bool) → nat_eq q n ≡ b → (list_any (nat_eq q) w || list_any (nat_eq q) (n ∷ [])) ≡ test (slice_index_or (slice_set table n a) q d)
      by true e =
          let s : q ≡ n = eqb-true q n e in
          let r : test (slice_index_or (slice_set table n a) q d) ≡ true = ap (λ z. test (slice_index_or (slice_set table n a) z d)) s ∙ ap test (get_or-set_same table n a d lt) ∙ passes in
          let l : (list_any (nat_eq q) w || list_any (nat_eq q) (n ∷ [])) ≡ true = or_true (list_any (nat_eq q) w) (list_any (nat_eq q) (n ∷ [])) (in_any q (n ∷ []) (inl s)) in
          l ∙ sym r
        where
          or_true : (x y : Bool) → y ≡ true → (x || y) ≡ true
          or_true true y f = refl
          or_true false y f = f
      by false e =
          let o = get_or-set_other table n q a d (λ s. true≢false (sym (eq-eqb q n s) ∙ e)) in
          let s = same q in
          let m = ap test o in
          or_false (list_any (nat_eq q) w) (list_any (nat_eq q) (n ∷ [])) (none (list_any (nat_eq q) (n ∷ [])) refl) ∙ s ∙ sym m
        where
          or_false : (x y : Bool) → y ≡ false → (x || y) ≡ x
          or_false true y f = refl
          or_false false y f = f

          none : (y : Bool) → list_any (nat_eq q) (n ∷ []) ≡ y → list_any (nat_eq q) (n ∷ []) ≡ false
          none false f = f
          none true f = elim (any_in q (n ∷ []) f) [ inl s ↦ absurd (true≢false (sym (eq-eqb q n s) ∙ e)) | inr i ↦ absurd i ]

  -- the last number is taken, and its mark is cleared
  pub popped_waits : (a : A) (table : List A) (w : List ℕ) (n : ℕ) → n < length table → test a ≡ false → AreOnce (w ++ n ∷ []) → ((q : ℕ) → list_any (nat_eq q) (w ++ n ∷ []) ≡ test (slice_index_or table q d)) → (q : ℕ) → list_any (nat_eq q) w ≡ test (slice_index_or (slice_set table n a) q d)
  popped_waits a table w n lt fails once same q = by (nat_eq q n) refl
    where
      by : (b : Bool) → nat_eq q n ≡ b → list_any (nat_eq q) w ≡ test (slice_index_or (slice_set table n a) q d)
      by true e =
          let s : q ≡ n = eqb-true q n e in
          let r : test (slice_index_or (slice_set table n a) q d) ≡ false = ap (λ z. test (slice_index_or (slice_set table n a) z d)) s ∙ ap test (get_or-set_same table n a d lt) ∙ fails in
          ap (λ z. list_any (nat_eq z) w) s ∙ popped_out w n once ∙ sym r
      by false e =
          let o = ap test (get_or-set_other table n q a d (λ s. true≢false (sym (eq-eqb q n s) ∙ e))) in
          let none : list_any (nat_eq q) (n ∷ []) ≡ false = grind (arith, e) in
          or_false (list_any (nat_eq q) w) (list_any (nat_eq q) (n ∷ [])) none ∙ sym (list_any-append (nat_eq q) w (n ∷ [])) ∙ same q ∙ sym o
        where
          or_false : (x y : Bool) → y ≡ false → x ≡ (x || y)
          or_false true y f = refl
          or_false false y f = sym f

-- two keys with one number are one
pub same_number : (keys : List ℕ) (k b n : ℕ) → position (nat_eq k) keys ≡ Some n → position (nat_eq b) keys ≡ Some n → k ≡ b
same_number keys k b n at other =
    let p = eqb-true b (slice_index_or keys n 0) (position-Some (nat_eq b) keys n 0 other).1 in
    let q = eqb-true k (slice_index_or keys n 0) (position-Some (nat_eq k) keys n 0 at).1 in
    q ∙ sym p

-- a list of numbers below m, each once, has at most m
pub few_once : (w : List ℕ) (m : ℕ) → AreOnce w → ((q : ℕ) → list_any (nat_eq q) w ≡ true → q < m) → length w ≤ m
few_once w m once below = distinct-length m w (distinct-indices w once) (λ x i. below x (in_any x w i))

-- one mark is written: others stay
pub read_set : {A : Type 0} (d a : A) (table : List A) (keys : List ℕ) (k n : ℕ) → position (nat_eq k) keys ≡ Some n → n < length table → (b : ℕ) → table_at d (slice_set table n a) (position (nat_eq b) keys) ≡ (if nat_eq k b then a else table_at d table (position (nat_eq b) keys))
read_set {A} d a table keys k n at lt b = by (nat_eq k b) refl
  where
    other : (o : Option ℕ) → position (nat_eq b) keys ≡ o → nat_eq k b ≡ false → table_at d (slice_set table n a) o ≡ table_at d table o
    other None e f = refl
    other (Some m) e f = get_or-set_other table n m a d (λ s. true≢false (sym (eq-eqb k b (same s)) ∙ f))
      where
        same : m ≡ n → k ≡ b
        same s =
            let p = eqb-true b (slice_index_or keys m 0) (position-Some (nat_eq b) keys m 0 e).1 in
            let q = eqb-true k (slice_index_or keys n 0) (position-Some (nat_eq k) keys n 0 at).1 in
            q ∙ ap (λ z. slice_index_or keys z 0) (sym s) ∙ sym p

    by : (c : Bool) → nat_eq k b ≡ c → table_at d (slice_set table n a) (position (nat_eq b) keys) ≡ (if c then a else table_at d table (position (nat_eq b) keys))
    by true e = ap (λ z. table_at d (slice_set table n a) (position (nat_eq z) keys)) (sym (eqb-true k b e)) ∙ ap (table_at d (slice_set table n a)) at ∙ get_or-set_same table n a d lt
    by false e = other (position (nat_eq b) keys) refl e

pub last_in : (n : ℕ) (w : List ℕ) → list_any (nat_eq n) (w ++ n ∷ []) ≡ true
last_in n w = in_any n (w ++ n ∷ []) (In-right n w (n ∷ []) (inl refl))

pub get_at : {A : Type 0} (xs : List A) (i : ℕ) (d : A) → i < length xs → slice_get xs i ≡ Some (slice_index_or xs i d)
get_at [] i d lt = absurd (omega (arith, lt))
get_at (x ∷ xs) zero d lt = refl
get_at (x ∷ xs) (suc i) d lt = get_at xs i d (omega (arith, lt))

pub length_one : {A : Type 0} (xs : List A) (n : A) → length (xs ++ n ∷ []) ≡ length xs + 1
length_one [] n = refl
length_one (x ∷ xs) n = let e = length_one xs n in omega (arith, e)

-- one stamp is written: what has that number has it, and others keep theirs
pub stamp_here : (stamps : List ℕ) (n clock : ℕ) (o : Option ℕ) → n < length stamps → o ≡ Some n → stamp_at (slice_set stamps n clock) o ≡ clock
stamp_here stamps n clock o lt e = ap (stamp_at (slice_set stamps n clock)) e ∙ get_or-set_same stamps n clock 0 lt

pub stamp_there : (stamps : List ℕ) (n clock : ℕ) (o : Option ℕ) → (o ≡ Some n → ⊥) → stamp_at (slice_set stamps n clock) o ≡ stamp_at stamps o
stamp_there stamps n clock None other = refl
stamp_there stamps n clock (Some m) other = get_or-set_other stamps n m clock 0 (λ e. other (ap (λ z. Some z) e))

-- no stamp is past the clock
pub none_past : (stamps : List ℕ) (clock : ℕ) → ((n : ℕ) → stamp_at stamps (Some n) ≤ clock) → (o : Option ℕ) → stamp_at stamps o ≤ clock
none_past stamps clock all None = omega arith
none_past stamps clock all (Some n) = all n

pub past_later : (stamps : List ℕ) (clock later n : ℕ) → clock ≤ later → ((m : ℕ) → stamp_at stamps (Some m) ≤ clock) → n < length stamps → (m : ℕ) → stamp_at (slice_set stamps n later) (Some m) ≤ later
past_later stamps clock later n le all lt m = by (nat_eq m n) refl
  where
    by : (q : Bool) → nat_eq m n ≡ q → stamp_at (slice_set stamps n later) (Some m) ≤ later
    by true e = let s = stamp_here stamps n later (Some m) lt (ap (λ z. Some z) (eqb-true m n e)) in omega (arith, s)
    by false e =
        let s = stamp_there stamps n later (Some m) (λ same. true≢false (sym (eq-eqb m n (some_is same)) ∙ e)) in
        let l = all m in
        omega (arith, s, l, le)
