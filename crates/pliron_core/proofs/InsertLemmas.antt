-- Lemmas on a user that gets a target at an index.
use Rattle.std.proofs.Common.{◌≡◌, ◌≢◌, ◌⊎◌, ℕ, zero, suc, ◌+◌, ◌-◌, ◌<◌, ◌≤◌, false, List, [], ◌∷◌, ◌++◌, length, take, get_or, set, Some, refl, sym, ap, ◌∙◌, subst, inl, inr, arith, length-append}
use Rattle.std.specs.List.{slice_get, insert}
use Rattle.std.proofs.lemmas.Bool.{cases_eq}
use Rattle.std.proofs.lemmas.Option.{slice_get_within}
use Rattle.std.proofs.lemmas.List.{get_or-set_same, get_or-set_other, get_or_default, map-set, set-set, set-get_or, length-map, length-set}
use Rattle.pliron_core.specs.declared.uses.Use.{Use}
use Rattle.pliron_core.specs.declared.use_slots.UseSlot.{UseSlot}
use Rattle.pliron_core.specs.declared.use_slots.Gap.{Gap}
use Rattle.pliron_core.specs.declared.use_slots.Holes.{Holes}
use Rattle.pliron_core.specs.declared.use_slots.Holes.TheVariants.{OneGap}
use Rattle.pliron_core.specs.UseSlots.{at, put, targets_held, rank, no_target, free_place, targets_in, uses_in, HasGap, IsLinked}
use Rattle.pliron_core.specs.Holes.{gap_of, is_counted, HaveHoles, AreLinked}
use Rattle.pliron_core.proofs.TableLemmas.{set-same, set-other, at-same, at-other, take-below, take-within}
use Rattle.pliron_core.proofs.GapLemmas.{same, held-free, held-taken, held-push, held-length, rank-free, rank-taken, rank-before, slice-some, moved_row}
use Rattle.pliron_core.proofs.HoleLemmas.{has-gap, gapped-some, holes-put}
use Rattle.pliron_core.proofs.PlaceLemmas.{push-cases, push-last, take-push, at-push_cases, at-kept, row-targets, target-real, uses-same, pushed-linked, pushed-targets}
use Rattle.pliron_core.proofs.RelocateLemmas.{relocated-rows}

-- a free place that is filled
pub held-filled : (row : List UseSlot) (n : ℕ) (p q : UseSlot) → slice_get row n ≡ Some q → q.target ≡ no_target → p.target ≢ no_target → targets_held (set row n p) ≡ insert (targets_held row) (rank row n) p.target
held-filled [] n p q e free real = absurd (cc)
held-filled (x ∷ xs) zero p q e free real =
    let is : x ≡ q = same e in
    held-taken p xs real ∙ ap (λ l. p.target ∷ l) (sym (held-free x xs (ap (λ z. z.target) is ∙ free)))
held-filled (x ∷ xs) (suc n) p q e free real = elim (cases_eq x.target no_target) [
  | inl h ↦ held-free x (set xs n p) h ∙ held-filled xs n p q e free real ∙ ap (λ k. insert (targets_held xs) k p.target) (sym (rank-free x xs n h)) ∙ ap (λ l. insert l (rank (x ∷ xs) (suc n)) p.target) (sym (held-free x xs h))
  | inr h ↦ held-taken x (set xs n p) h ∙ ap (λ l. x.target ∷ l) (held-filled xs n p q e free real) ∙ ap (λ k. insert (x.target ∷ targets_held xs) k p.target) (sym (rank-taken x xs n h)) ∙ ap (λ l. insert l (rank (x ∷ xs) (suc n)) p.target) (sym (held-taken x xs h))
]

-- a free place at the end
held-last_free : (row : List UseSlot) (p : UseSlot) → p.target ≡ no_target → targets_held (row ++ p ∷ []) ≡ targets_held row
held-last_free [] p e = held-free p [] e
held-last_free (x ∷ xs) p e = elim (cases_eq x.target no_target) [
  | inl h ↦ held-free x (xs ++ p ∷ []) h ∙ held-last_free xs p e ∙ sym (held-free x xs h)
  | inr h ↦ held-taken x (xs ++ p ∷ []) h ∙ ap (λ l. x.target ∷ l) (held-last_free xs p e) ∙ sym (held-taken x xs h)
]

rank-front : (row more : List UseSlot) (n : ℕ) → n ≤ length row → rank (row ++ more) n ≡ rank row n
rank-front [] [] n h = refl
rank-front [] (p ∷ ps) zero h = refl
rank-front [] (p ∷ ps) (suc n) h = absurd (omega (arith, h))
rank-front (x ∷ xs) more zero h = refl
rank-front (x ∷ xs) more (suc n) h = elim (cases_eq x.target no_target) [
  | inl f ↦ rank-free x (xs ++ more) n f ∙ rank-front xs more n (omega (arith, h)) ∙ sym (rank-free x xs n f)
  | inr f ↦ rank-taken x (xs ++ more) n f ∙ ap suc (rank-front xs more n (omega (arith, h))) ∙ sym (rank-taken x xs n f)
]

-- a row without free places gets one at the end
made-has : (row : List UseSlot) (gap : Gap) → HasGap row gap → gap.len ≡ 0 → HasGap (row ++ free_place ∷ []) (record { start = length row; len = 1 })
made-has row gap has none = record {
  fits = omega (arith, length-append row (free_place ∷ []));
  free = λ n p e a b. elim (push-cases row free_place p n e) [
    | inl k ↦ sym (ap (λ z. z.target) k.1)
    | inr k ↦ let h = slice_get_within row n p k in absurd (omega (arith, h, a))
  ];
  before = λ n p e a. elim (push-cases row free_place p n e) [
    | inl k ↦ absurd (omega (arith, k.0, a))
    | inr k ↦ taken n p k
  ];
  behind = λ n p e a. elim (push-cases row free_place p n e) [
    | inl k ↦ absurd (omega (arith, k.0, a))
    | inr k ↦ taken n p k
  ];
}
  where
    taken : (n : ℕ) (p : UseSlot) → slice_get row n ≡ Some p → p.target ≢ no_target
    taken n p e = elim (side n) [ inl b ↦ has.before n p e b | inr b ↦ has.behind n p e (omega (arith, b, none)) ]
      where
        side : (n : ℕ) → (n < gap.start) ⊎ (gap.start ≤ n)
        side n = grind arith

-- what `make_gap` writes
module _ (rows : List (List UseSlot)) (holes : List Holes) (lists : List (List Use)) (user : ℕ) (is : AreLinked rows holes lists) (user_within : user < length holes) (gapped : is_counted holes user ≡ false) (none : (gap_of holes user).len ≡ 0) where
  abbrev row : List UseSlot
  row = get_or rows user []

  abbrev longer : List (List UseSlot)
  longer = set rows user (row ++ free_place ∷ [])

  within : user < length rows
  within = omega (arith, user_within, is.holes.count)

  longer-linked : IsLinked longer lists
  longer-linked = record {
    used = λ u p t k e real. elim (at-push_cases rows user free_place _ u p within e) [
      | inl c ↦ absurd (real (sym (ap (λ z. z.target) c.2)))
      | inr c ↦ is.linked.used u p t k c real
    ];
    placed = λ t k u p e. at-kept rows user free_place _ u p within (is.linked.placed t k u p e);
    few = is.linked.few;
  }

  kept_rank : (t k : ℕ) (u : Use) → at lists t k ≡ Some u → rank (get_or longer u.user []) u.place ≡ rank (get_or rows u.user []) u.place
  kept_rank t k u e = elim (cases_eq u.user user) [
    | inl f ↦
        let there : slice_get row u.place ≡ Some _ = ap (λ z. at rows z u.place) (sym f) ∙ is.linked.placed t k u.user u.place e in
        let h = slice_get_within row u.place _ there in
        ap (λ z. rank (get_or longer z []) u.place) f ∙ ap (λ r. rank r u.place) (get_or-set_same rows user _ [] within) ∙ rank-front row (free_place ∷ []) u.place (omega (arith, h)) ∙ ap (λ z. rank (get_or rows z []) u.place) (sym f)
    | inr f ↦ ap (λ r. rank r u.place) (get_or-set_other rows user u.user _ [] f)
  ]

  pub made-gap : (start : ℕ) (row0 row1 row2 : List UseSlot) → row0 ≡ get_or rows user row0 → start ≡ length row0 → row1 ≡ get_or rows user row1 → row2 ≡ row1 ++ free_place ∷ []
      → AreLinked (set rows user row2) (set holes user (OneGap (record { start = start; len = 1 }))) lists × (targets_in (set rows user row2) ≡ targets_in rows) × (uses_in (set rows user row2) lists ≡ uses_in rows lists)
  made-gap start row0 row1 row2 r0 s r1 r2 =
      let a : row0 ≡ row = r0 ∙ get_or_default rows user row0 [] within in
      let b : row1 ≡ row = r1 ∙ get_or_default rows user row1 [] within in
      rw (s, r2, a, b) (
        record { linked = longer-linked; holes = holes-put rows holes user _ _ within (made-has row (gap_of holes user) (has-gap rows holes user is.holes gapped) none) is.holes },
        map-set targets_held rows user (row ++ free_place ∷ []) ∙ ap (set (targets_in rows) user) (held-last_free row free_place refl ∙ sym (row-targets rows user)) ∙ set-get_or (targets_in rows) user [],
        uses-same rows longer lists kept_rank,
      )

-- a list and its last
front-last : {A : Type 0} (xs : List A) (n : ℕ) (x : A) → length xs ≡ suc n → slice_get xs n ≡ Some x → xs ≡ take n xs ++ x ∷ []
front-last [] n x long e = absurd (omega (arith, long))
front-last (y ∷ []) zero x long e = ap (λ z. z ∷ []) (same e)
front-last (y ∷ z ∷ zs) zero x long e = absurd (omega (arith, long))
front-last (y ∷ ys) (suc n) x long e = ap (λ l. y ∷ l) (front-last ys n x (omega (arith, long)) e)

take-set_last : {A : Type 0} (xs : List A) (n : ℕ) (x : A) → take n (set xs n x) ≡ take n xs
take-set_last xs zero x = refl
take-set_last [] (suc n) x = refl
take-set_last (y ∷ ys) (suc n) x = ap (λ l. y ∷ l) (take-set_last ys n x)

take-set_below : {A : Type 0} (xs : List A) (n k : ℕ) (x : A) → k < n → take n (set xs k x) ≡ set (take n xs) k x
take-set_below xs zero k x h = absurd (omega (arith, h))
take-set_below [] (suc n) k x h = refl
take-set_below (y ∷ ys) (suc n) zero x h = refl
take-set_below (y ∷ ys) (suc n) (suc k) x h = ap (λ l. y ∷ l) (take-set_below ys n k x (omega (arith, h)))

last-same : {A : Type 0} (xs ys : List A) (x y : A) → xs ++ x ∷ [] ≡ ys ++ y ∷ [] → (xs ≡ ys) × (x ≡ y)
last-same xs ys x y e =
    let f : xs ≡ ys = sym (take-push xs x) ∙ ap (λ l. take (length l - 1) l) e ∙ take-push ys y in
    (f, same (sym (push-last xs x) ∙ ap (λ l. slice_get l (length xs)) e ∙ ap (slice_get (ys ++ y ∷ [])) (ap length f) ∙ push-last ys y))

-- a row whose last place comes into its gap
module _ (row : List UseSlot) (gap : Gap) (has : HasGap row gap) (some : 0 < gap.len) (n : ℕ) (p : UseSlot) (long : length row ≡ suc n) (last : slice_get row n ≡ Some p) (apart : gap.start + gap.len ≤ n) where
  abbrev front : List UseSlot
  front = take n row

  abbrev lowered_row : List UseSlot
  lowered_row = take n (moved_row row n gap.start p)

  taken : p.target ≢ no_target
  taken = has.behind n p last apart

  whole : row ≡ front ++ p ∷ []
  whole = front-last row n p long last

  front-long : length front ≡ n
  front-long = omega (arith, ap length whole, length-append front (p ∷ []), long)

  front-has : HasGap front gap
  front-has = record {
    fits = omega (arith, front-long, apart);
    free = λ k x e a b. has.free k x (take-within row n k x e).1 a b;
    before = λ k x e a. has.before k x (take-within row n k x e).1 a;
    behind = λ k x e a. has.behind k x (take-within row n k x e).1 a;
  }

  lowered-is : lowered_row ≡ set front gap.start p
  lowered-is = take-set_last (set row gap.start p) n free_place ∙ take-set_below row n gap.start p (omega (arith, apart, some))

  hole : (q : UseSlot) × (slice_get front gap.start ≡ Some q)
  hole = slice-some front gap.start (omega (arith, front-long, apart, some))

  filled-cases : (k : ℕ) (x : UseSlot) → slice_get (set front gap.start p) k ≡ Some x → ((k ≡ gap.start) × (x ≡ p)) ⊎ ((k ≢ gap.start) × (slice_get front k ≡ Some x))
  filled-cases k x e = elim (cases_eq k gap.start) [
    | inl f ↦ inl (f, same (sym e ∙ ap (slice_get (set front gap.start p)) f ∙ set-same front gap.start p hole.0 hole.1))
    | inr f ↦ inr (f, sym (set-other front gap.start k p f) ∙ e)
  ]

  pub lowered-has : HasGap lowered_row (record { start = gap.start + 1; len = gap.len - 1 })
  lowered-has = rw lowered-is (record {
    fits = omega (arith, length-set front gap.start p, front-long, apart, some);
    free = λ k x e a b. elim (filled-cases k x e) [ inl c ↦ absurd (omega (arith, c.0, a)) | inr c ↦ front-has.free k x c.1 (omega (arith, a)) (omega (arith, b, some)) ];
    before = λ k x e a. elim (filled-cases k x e) [ inl c ↦ subst (λ z. z.target ≢ no_target) (sym c.1) taken | inr c ↦ front-has.before k x c.1 (omega (arith, a, c.0)) ];
    behind = λ k x e a. elim (filled-cases k x e) [ inl c ↦ subst (λ z. z.target ≢ no_target) (sym c.1) taken | inr c ↦ front-has.behind k x c.1 (omega (arith, a, some)) ];
  })

  pub lowered-held : (before : List ℕ) (target : ℕ) → targets_held row ≡ before ++ target ∷ [] → targets_held lowered_row ≡ insert before gap.start target
  lowered-held before target e =
      let both = last-same before (targets_held front) target p.target (sym e ∙ ap targets_held whole ∙ held-push front p taken) in
      let free : hole.0.target ≡ no_target = front-has.free gap.start hole.0 hole.1 (omega arith) (omega (arith, some)) in
      rw (lowered-is, both.0, both.1) (held-filled front gap.start p hole.0 hole.1 free taken ∙ ap (λ k. insert (targets_held front) k p.target) (rank-before front gap front-has gap.start (omega arith)))

-- a free place at the end of a row goes
cut-linked : (rows : List (List UseSlot)) (lists : List (List Use)) (user n : ℕ) (x : UseSlot) → IsLinked rows lists → user < length rows → length (get_or rows user []) ≡ suc n → at rows user n ≡ Some x → x.target ≡ no_target → IsLinked (set rows user (take n (get_or rows user []))) lists
cut-linked rows lists user n x is within long last free = record {
  used = λ u p t k e real. is.used u p t k (there u p _ e) real;
  placed = λ t k u p e. kept u p _ (is.placed t k u p e) (target-real rows lists is t k _ e);
  few = is.few;
}
  where
    there : (u p : ℕ) (s : UseSlot) → at (set rows user (take n (get_or rows user []))) u p ≡ Some s → at rows u p ≡ Some s
    there u p s e = elim (cases_eq u user) [
      | inl f ↦ ap (λ z. at rows z p) f ∙ (take-within (get_or rows user []) n p s (sym (at-same rows user _ p within) ∙ ap (λ z. at (set rows user (take n (get_or rows user []))) z p) (sym f) ∙ e)).1
      | inr f ↦ sym (at-other rows user u _ p f) ∙ e
    ]

    kept : (u p : ℕ) (s : UseSlot) → at rows u p ≡ Some s → s.target ≢ no_target → at (set rows user (take n (get_or rows user []))) u p ≡ Some s
    kept u p s e real = elim (cases_eq u user) [
      | inl f ↦
          let here : slice_get (get_or rows user []) p ≡ Some s = ap (λ z. at rows z p) (sym f) ∙ e in
          let h = slice_get_within (get_or rows user []) p s here in
          let other : p ≢ n = λ g. real (ap (λ z. z.target) (same (sym here ∙ ap (at rows user) g ∙ last)) ∙ free) in
          ap (λ z. at (set rows user (take n (get_or rows user []))) z p) f ∙ at-same rows user _ p within ∙ take-below (get_or rows user []) n p (omega (arith, h, long, other)) ∙ here
      | inr f ↦ at-other rows user u _ p f ∙ e
    ]

-- what `lower_last` writes behind `open_gap`
module _ (rows : List (List UseSlot)) (holes : List Holes) (lists : List (List Use)) (user i : ℕ) (is : AreLinked rows holes lists) (user_within : user < length holes) (some : 0 < (gap_of holes user).len)
    (start : (gap_of holes user).start ≡ i) (index : i < length (targets_held (get_or rows user []))) where
  abbrev last_row : List UseSlot
  last_row = get_or rows user []

  abbrev last_gap : Gap
  last_gap = gap_of holes user

  last_has : HasGap last_row last_gap
  last_has = has-gap rows holes user is.holes (gapped-some holes user some)

  last_within : user < length rows
  last_within = omega (arith, user_within, is.holes.count)

  all : length (targets_held last_row) + last_gap.len ≡ length last_row
  all = held-length last_row last_gap last_has

  abbrev last_at : ℕ
  last_at = length last_row - 1

  far : last_gap.start + last_gap.len ≤ last_at
  far = omega (arith, all, start, index)

  count : length last_row ≡ suc last_at
  count = omega (arith, all, index)

  pub last-taken : (p : UseSlot) × (at rows user last_at ≡ Some p) × (p.target ≢ no_target)
  last-taken = let s = slice-some last_row last_at (omega (arith, count)) in (s.0, s.1, last_has.behind _ s.0 s.1 far)

  pub first-free : (p : UseSlot) × (at rows user last_gap.start ≡ Some p) × (p.target ≡ no_target)
  first-free = let s = slice-some last_row last_gap.start (omega (arith, far, count)) in (s.0, s.1, last_has.free _ s.0 s.1 (omega arith) (omega (arith, some)))

  pub last-lowered : (rows' : List (List UseSlot)) (lists' : List (List Use)) (gap : Gap) (end : ℕ) (read left : List UseSlot) → gap ≡ last_gap → end ≡ last_at → IsLinked rows' lists'
      → ((p : UseSlot) → at rows user end ≡ Some p → rows' ≡ put (put rows user gap.start p) user end free_place) → read ≡ get_or rows' user read → left ≡ take end read
      → AreLinked (set rows' user left) (set holes user (OneGap (record { start = gap.start + 1; len = gap.len - 1 }))) lists' × ((before : List ℕ) (target : ℕ) → get_or (targets_in rows) user [] ≡ before ++ target ∷ [] → targets_in (set rows' user left) ≡ set (targets_in rows) user (insert before i target))
  last-lowered rows' lists' gap end read left g e linked moved r l = (record { linked = cut; holes = rw (g, rows-left) (holes-put rows holes user _ _ last_within (lowered-has last_row last_gap last_has some last_at p count at_end far) is.holes) }, targets)
    where
      p : UseSlot
      p = last-taken.0

      at_end : slice_get last_row last_at ≡ Some p
      at_end = last-taken.1

      after : List UseSlot
      after = moved_row last_row last_at last_gap.start p

      moved-is : rows' ≡ set rows user after
      moved-is = moved p (ap (at rows user) e ∙ at_end) ∙ ap (λ z. put (put rows user gap.start p) user z free_place) e ∙ ap (λ z. put (put rows user z.start p) user last_at free_place) g ∙ relocated-rows rows lists user last_at last_gap.start p first-free.0 is.linked at_end last-taken.2 first-free.1 first-free.2

      row-is : get_or rows' user [] ≡ after
      row-is = ap (λ z. get_or z user []) moved-is ∙ get_or-set_same rows user after [] last_within

      inside : user < length rows'
      inside = omega (arith, last_within, ap length moved-is, length-set rows user after)

      left-is : left ≡ take last_at (get_or rows' user [])
      left-is = l ∙ ap (take end) (r ∙ get_or_default rows' user read [] inside) ∙ ap (λ z. take z (get_or rows' user [])) e

      rows-left : set rows' user left ≡ set rows user (take last_at after)
      rows-left = ap (set rows' user) (left-is ∙ ap (take last_at) row-is) ∙ ap (λ z. set z user (take last_at after)) moved-is ∙ set-set rows user _ _

      freed : at rows' user last_at ≡ Some free_place
      freed = ap (λ z. slice_get z last_at) row-is ∙ set-same (set last_row last_gap.start p) last_at free_place p (set-other last_row last_gap.start last_at p (omega (arith, far, some)) ∙ at_end)

      row-long : length (get_or rows' user []) ≡ suc last_at
      row-long = ap length row-is ∙ length-set (set last_row last_gap.start p) last_at free_place ∙ length-set last_row last_gap.start p ∙ count

      cut : IsLinked (set rows' user left) lists'
      cut = rw left-is (cut-linked rows' lists' user last_at free_place linked inside row-long freed refl)

      targets : (before : List ℕ) (target : ℕ) → get_or (targets_in rows) user [] ≡ before ++ target ∷ [] → targets_in (set rows' user left) ≡ set (targets_in rows) user (insert before i target)
      targets before target f =
          ap targets_in rows-left ∙ map-set targets_held rows user _ ∙ ap (set (targets_in rows) user) (lowered-held last_row last_gap last_has some last_at p count at_end far before target (sym (row-targets rows user) ∙ f) ∙ ap (λ z. insert before z target) start)

-- a user that has a gap gets a target at the end
module _ (rows rows' : List (List UseSlot)) (holes : List Holes) (lists lists' : List (List Use)) (user target : ℕ) (is : AreLinked rows holes lists) (gapped : is_counted holes user ≡ false) (within : user < length (targets_in rows)) (ht : target < length lists)
    (r : rows' ≡ set rows user (get_or rows user [] ++ record { target = target; at = length (get_or lists target []) } ∷ [])) (l : lists' ≡ set lists target (get_or lists target [] ++ record { user = user; place = length (get_or rows user []) } ∷ [])) where
  row_within : user < length rows
  row_within = omega (arith, within, length-map rows targets_held)

  pub last-linked : AreLinked rows' holes lists'
  last-linked = rw (r, l) (pushed-linked rows holes lists user target is row_within ht gapped)

  pub last-targets : targets_in rows' ≡ set (targets_in rows) user (get_or (targets_in rows) user [] ++ target ∷ [])
  last-targets = rw r (pushed-targets rows holes lists user target is row_within ht)

  pub last-row : get_or (targets_in rows') user [] ≡ get_or (targets_in rows) user [] ++ target ∷ []
  last-row = ap (λ z. get_or z user []) last-targets ∙ get_or-set_same (targets_in rows) user _ [] within

  pub last-index : (i : ℕ) → i ≤ length (get_or (targets_in rows) user []) → i < length (targets_held (get_or rows' user []))
  last-index i h = omega (arith, h, ap length last-row, ap length (row-targets rows' user), length-append (get_or (targets_in rows) user []) (target ∷ []))
