-- Lemmas on a new user with new targets.
use Rattle.std.proofs.Common.{◌≡◌, ◌≢◌, ◌⊎◌, ℕ, zero, suc, ◌+◌, ◌<◌, ◌≤◌, List, [], ◌∷◌, ◌++◌, length, map, get_or, Some, refl, sym, ap, ◌∙◌, inl, inr, arith, length-append, replicate}
use Rattle.std.specs.List.{slice_get, range_with_len}
use Rattle.std.proofs.lemmas.List.{map-append, get_or_past, length-replicate}
use Rattle.std.proofs.lemmas.List.FromFn.{get_or-map-range_with_len, length-map-range_with_len, map-range_with_len_more}
use Rattle.std.proofs.lemmas.Option.{slice_get-get_or}
use Rattle.pliron_core.specs.declared.uses.Use.{Use}
use Rattle.pliron_core.specs.declared.use_slots.UseSlot.{UseSlot}
use Rattle.pliron_core.specs.declared.use_slots.Holes.{Holes}
use Rattle.pliron_core.specs.declared.use_slots.Holes.TheVariants.{OneGap}
use Rattle.pliron_core.specs.UseSlots.{at, targets_held, no_target, no_gap, targets_in, places_from, uses_by, HasGap, IsLinked}
use Rattle.pliron_core.specs.Holes.{hole_of, HaveHoles, AreLinked}
use Rattle.pliron_core.proofs.TableLemmas.{at-within}
use Rattle.pliron_core.proofs.GapLemmas.{same, held-taken}
use Rattle.pliron_core.proofs.GrownLemmas.{get_last, mapped_range_get, mapped_range_more}
use Rattle.pliron_core.proofs.PlaceLemmas.{get_or-pad}

module _ {A : Type 0} where
  -- rows behind others
  pub at-more : (rows more : List (List A)) (u p : ℕ) (y : A) → at rows u p ≡ Some y → at (rows ++ more) u p ≡ Some y
  at-more [] more zero p y e = absurd (cc)
  at-more [] more (suc u) p y e = absurd (cc)
  at-more (r ∷ rs) more zero p y e = e
  at-more (r ∷ rs) more (suc u) p y e = at-more rs more u p y e

  pub at-added : (rows more : List (List A)) (j p : ℕ) → at (rows ++ more) (length rows + j) p ≡ at more j p
  at-added [] more j p = ap (λ k. at more k p) (omega arith)
  at-added (r ∷ rs) more j p = let e : suc (length rs) + j ≡ suc (length rs + j) = omega arith in ap (λ k. at (r ∷ (rs ++ more)) k p) e ∙ at-added rs more j p

  pub at-more_cases : (rows more : List (List A)) (u p : ℕ) (y : A) → at (rows ++ more) u p ≡ Some y → (at rows u p ≡ Some y) ⊎ ((j : ℕ) × (u ≡ length rows + j) × (at more j p ≡ Some y))
  at-more_cases [] more u p y e = inr (u, omega arith, e)
  at-more_cases (r ∷ rs) more zero p y e = inl e
  at-more_cases (r ∷ rs) more (suc u) p y e = elim (at-more_cases rs more u p y e) [ inl f ↦ inl f | inr f ↦ inr (f.0, omega (arith, f.1), f.2) ]

  pub at-one : (row : List A) (j p : ℕ) (y : A) → at (row ∷ []) j p ≡ Some y → (j ≡ 0) × (slice_get row p ≡ Some y)
  at-one row zero p y e = (refl, e)
  at-one row (suc j) p y e = let h : suc j < 1 = at-within (row ∷ []) (suc j) p y e in absurd (omega (arith, h))

  pub one-at : (x y : A) (i : ℕ) → slice_get (x ∷ []) i ≡ Some y → (i ≡ 0) × (x ≡ y)
  one-at x y zero e = (refl, same e)
  one-at x y (suc i) e = absurd (cc)

  pub mapped_range_at : (f : ℕ → A) (first n p : ℕ) (y : A) → slice_get (map f (range_with_len first n)) p ≡ Some y → (p < n) × (f (first + p) ≡ y)
  mapped_range_at f first zero p y e = absurd (cc)
  mapped_range_at f first (suc n) zero y e = (omega arith, ap f (omega arith) ∙ same e)
  mapped_range_at f first (suc n) (suc p) y e = let r = mapped_range_at f (first + 1) n p y e in (omega (arith, r.0), ap f (omega arith) ∙ r.1)

abbrev place : ℕ → UseSlot
place target = record { target = target; at = 0 }

-- the uses of the new targets
by-at : (user count j i : ℕ) (u : Use) → at (uses_by user count) j i ≡ Some u → (j < count) × (i ≡ 0) × (u ≡ record { user = user; place = j })
by-at user count j i u e =
    let row : slice_get (uses_by user count) j ≡ Some (get_or (uses_by user count) j []) = slice_get-get_or (uses_by user count) j [] (at-within (uses_by user count) j i u e) in
    let r = mapped_range_at (λ k. (let x : Use = record { user = user; place = k } in x) ∷ []) 0 count j _ row in
    let o = one-at _ u i (ap (λ l. slice_get l i) r.1 ∙ e) in
    let z : 0 + j ≡ j = omega arith in
    (r.0, o.0, sym o.1 ∙ ap (λ k. let x : Use = record { user = user; place = k } in x) z)

by-there : (user count j : ℕ) → j < count → at (uses_by user count) j 0 ≡ Some (record { user = user; place = j })
by-there user count j h = ap (λ l. slice_get l 0) (get_or-map-range_with_len (λ k. (let x : Use = record { user = user; place = k } in x) ∷ []) 0 count j j [] h (omega arith))

module _ (rows : List (List UseSlot)) (lists : List (List Use)) (count : ℕ) where
  abbrev pub row : List UseSlot
  row = places_from (length lists) count

  abbrev pub more : List (List Use)
  more = uses_by (length rows) count

  pub linked-with : length (lists ++ more) ≤ no_target → IsLinked rows lists → IsLinked (rows ++ row ∷ []) (lists ++ more)
  linked-with few is = record {
    used = λ u p t i e real. elim (at-more_cases rows (row ∷ []) u p _ e) [
      | inl f ↦ at-more lists more t i _ (is.used u p t i f real)
      | inr f ↦ used-new u p t i f.0 f.1 f.2
    ];
    placed = λ t i u p e. elim (at-more_cases lists more t i _ e) [
      | inl f ↦ at-more rows (row ∷ []) u p _ (is.placed t i u p f)
      | inr f ↦ placed-new t i u p f.0 f.1 f.2
    ];
    few = few;
  }
    where
      used-new : (u p t i j : ℕ) → u ≡ length rows + j → at (row ∷ []) j p ≡ Some (record { target = t; at = i }) → at (lists ++ more) t i ≡ Some (record { user = u; place = p })
      used-new u p t i j is_at e =
          let o = at-one row j p _ e in
          let q = mapped_range_at place (length lists) count p _ o.1 in
          let st : length lists + p ≡ t = ap (λ z. z.target) q.1 in
          let si : 0 ≡ i = ap (λ z. z.at) q.1 in
          let su : length rows ≡ u = omega (arith, is_at, o.0) in
          ap (λ z. at (lists ++ more) z i) (sym st) ∙ ap (λ z. at (lists ++ more) (length lists + p) z) (sym si) ∙ at-added lists more p 0 ∙ by-there (length rows) count p q.0 ∙ ap (λ z. Some (let x : Use = record { user = z; place = p } in x)) su

      placed-new : (t i u p j : ℕ) → t ≡ length lists + j → at more j i ≡ Some (record { user = u; place = p }) → at (rows ++ row ∷ []) u p ≡ Some (record { target = t; at = i })
      placed-new t i u p j is_at e =
          let b = by-at (length rows) count j i _ e in
          let su : u ≡ length rows = ap (λ z. z.user) b.2 in
          let sp : p ≡ j = ap (λ z. z.place) b.2 in
          let sz : u ≡ length rows + 0 = omega (arith, su) in
          let st : length lists + p ≡ t = omega (arith, is_at, sp) in
          let h : p < count = omega (arith, b.0, sp) in
          ap (λ z. at (rows ++ row ∷ []) z p) sz ∙ at-added rows (row ∷ []) 0 p ∙ mapped_range_get place (length lists) count p h ∙ ap (λ z. Some (place z)) st ∙ ap (λ z. Some (let x : UseSlot = record { target = t; at = z } in x)) (sym b.1)

pub gap-with : (first count : ℕ) → first + count ≤ no_target → HasGap (places_from first count) no_gap
gap-with first count h = record {
  fits = omega arith;
  free = λ n q e a b. absurd (omega (arith, b));
  before = λ n q e a. absurd (omega (arith, a));
  behind = λ n q e a f. let r = mapped_range_at place first count n q e in let s : first + n ≡ q.target = ap (λ z. z.target) r.1 in omega (arith, r.0, s, f, h);
}

pub holes-with : (rows : List (List UseSlot)) (holes : List Holes) (row : List UseSlot) → HasGap row no_gap → HaveHoles rows holes → HaveHoles (rows ++ row ∷ []) (holes ++ OneGap no_gap ∷ [])
holes-with rows holes row has is = record {
  count = omega (arith, length-append rows (row ∷ []), length-append holes (OneGap no_gap ∷ []), is.count);
  each = λ u. elim (get_last rows row [] u) [
    | inl e ↦ rw (e, get_or-pad holes (OneGap no_gap) u) (is.each u)
    | inr e ↦ let past : hole_of holes u ≡ OneGap no_gap = get_or_past holes u (OneGap no_gap) (omega (arith, e.2, is.count)) in rw (e.0, get_or-pad holes (OneGap no_gap) u, past) has
  ];
}

pub held-from_range : (first count : ℕ) → first + count ≤ no_target → targets_held (places_from first count) ≡ range_with_len first count
held-from_range first zero h = refl
held-from_range first (suc n) h =
    let ne : first ≢ no_target = λ e. omega (arith, e, h) in
    held-taken (place first) (places_from (first + 1) n) ne ∙ ap (λ l. first ∷ l) (held-from_range (first + 1) n (omega (arith, h)))

pub targets-with : (rows : List (List UseSlot)) (first count : ℕ) → first + count ≤ no_target → targets_in (rows ++ places_from first count ∷ []) ≡ targets_in rows ++ range_with_len first count ∷ []
targets-with rows first count h = map-append targets_held rows (places_from first count ∷ []) ∙ ap (λ r. targets_in rows ++ r ∷ []) (held-from_range first count h)

pub places_more : (read : List UseSlot) (first n : ℕ) → read ≡ places_from first n → read ++ record { target = first + n; at = 0 } ∷ [] ≡ places_from first (n + 1)
places_more read first n is = ap (λ r. r ++ place (first + n) ∷ []) is ∙ sym (map-range_with_len_more place first n (first + n) refl)

pub uses_more : (user n : ℕ) → uses_by user (n + 1) ≡ uses_by user n ++ (record { user = user; place = n } ∷ []) ∷ []
uses_more user n = mapped_range_more (λ k. (let x : Use = record { user = user; place = k } in x) ∷ []) n

pub length-uses : (lists : List (List Use)) (user count : ℕ) → length (lists ++ uses_by user count) ≡ length lists + count
length-uses lists user count = length-append lists (uses_by user count) ∙ ap (λ n. length lists + n) (length-map-range_with_len (λ k. (let x : Use = record { user = user; place = k } in x) ∷ []) 0 count)

-- a new user with so many new targets
pub user-linked : (rows : List (List UseSlot)) (holes : List Holes) (lists : List (List Use)) (count : ℕ) → length lists + count ≤ no_target → AreLinked rows holes lists → AreLinked (rows ++ places_from (length lists) count ∷ []) (holes ++ OneGap no_gap ∷ []) (lists ++ uses_by (length rows) count)
user-linked rows holes lists count few is =
    let n = length-uses lists (length rows) count in
    record {
      linked = linked-with rows lists count (omega (arith, n, few)) is.linked;
      holes = holes-with rows holes _ (gap-with (length lists) count (omega (arith, few))) is.holes;
    }

-- as many more targets without uses
pub length-unused : (lists : List (List Use)) (count : ℕ) → length (lists ++ replicate count []) ≡ length lists + count
length-unused lists count = length-append lists (replicate count []) ∙ ap (λ n. length lists + n) (length-replicate {A = List Use} count [])
