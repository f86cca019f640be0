-- Lemmas on a taken place that becomes free: its use goes, and the last use of that target takes the index
-- of the use that goes.
use Rattle.std.proofs.Common.{◌≡◌, ◌≢◌, ◌⊎◌, ℕ, ◌+◌, ◌-◌, ◌<◌, ◌≤◌, false, List, [], length, take, get_or, set, Some, refl, sym, ap, ◌∙◌, inl, inr, arith}
use Rattle.std.specs.List.{slice_get, remove}
use Rattle.std.proofs.lemmas.List.{get_or-set_same, get_or-set_other, map-set, set-get_or, length-set}
use Rattle.std.proofs.lemmas.Option.{slice_get_within}
use Rattle.std.proofs.lemmas.Bool.{cases_eq}
use Rattle.pliron_core.specs.declared.uses.Use.{Use}
use Rattle.pliron_core.specs.declared.use_slots.UseSlot.{UseSlot}
use Rattle.pliron_core.specs.declared.use_slots.Gap.{Gap}
use Rattle.pliron_core.specs.declared.use_slots.Holes.{Holes}
use Rattle.pliron_core.specs.declared.use_slots.Holes.TheVariants.{OneGap}
use Rattle.pliron_core.specs.UseSlots.{at, put, cut, targets_held, rank, marks, marks_in, no_target, no_gap, free_place, targets_in, uses_in, HasGap, IsLinked}
use Rattle.pliron_core.specs.Holes.{gap_of, is_counted, HaveHoles}
use Rattle.pliron_core.proofs.PlaceLemmas.{row-targets, target-real, uses-same}
use Rattle.pliron_core.proofs.MarkLemmas.{row-marks, marks-same, marks-freed, rank-alike, gap-marks, rank-take}
use Rattle.pliron_core.proofs.HoleLemmas.{has-gap, holes-put, holes-marked, row-marked}
use Rattle.pliron_core.proofs.TableLemmas.{set-same, set-other, at-within, put-here, put-other, put-cases, cut-cases, cut-kept, put-length, take-within, take-below}
use Rattle.pliron_core.proofs.GapLemmas.{same, slice-some, held-same, held-freed, held-take, held-length, behind-index, held-at}

module _ (rows : List (List UseSlot)) (lists : List (List Use)) (user place target i : ℕ) (moved : Use) (is : IsLinked rows lists)
    (here : at rows user place ≡ Some (record { target = target; at = i })) (real : target ≢ no_target)
    (end : at lists target (length (get_or lists target []) - 1) ≡ Some moved) where
  abbrev last_use : ℕ
  last_use = length (get_or lists target []) - 1

  abbrev rows1 : List (List UseSlot)
  rows1 = put rows moved.user moved.place (record { target = target; at = i })

  abbrev rows2 : List (List UseSlot)
  rows2 = put rows1 user place free_place

  abbrev lists1 : List (List Use)
  lists1 = put lists target i moved

  pub mended : at rows moved.user moved.place ≡ Some (record { target = target; at = last_use })
  mended = is.placed target last_use moved.user moved.place end

  pub going : at lists target i ≡ Some (record { user = user; place = place })
  going = is.used user place target i here real

  within_lists : target < length lists1
  within_lists = omega (arith, at-within lists target i _ going, length-set lists target (set (get_or lists target []) i moved))

  last_use1 : length (get_or lists1 target []) - 1 ≡ last_use
  last_use1 = ap (λ n. n - 1) (put-length lists target i target _ _ going)

  -- the place that is to be free still names the target
  pub stands1 : (p : UseSlot) × (at rows1 user place ≡ Some p) × (p.target ≡ target)
  stands1 = elim (cases_cell moved.user moved.place) [
    | inl e ↦ (record { target = target; at = i }, rw (sym e.0, sym e.1) (put-here rows moved.user moved.place _ _ mended), refl)
    | inr ne ↦ (record { target = target; at = i }, put-other rows moved.user moved.place user place _ _ mended (λ a b. ne (sym a) (sym b)) ∙ here, refl)
  ]
    where
      cases_cell : (u p : ℕ) → ((u ≡ user) × (p ≡ place)) ⊎ ((u ≡ user) → (p ≡ place) → ⊥)
      cases_cell u p = elim (cases_eq u user) [
        | inl a ↦ elim (cases_eq p place) [ inl b ↦ inl (a, b) | inr nb ↦ inr (λ _ e. nb e) ]
        | inr na ↦ inr (λ e _. na e)
      ]

  used2 : (u p t k : ℕ) → at rows2 u p ≡ Some (record { target = t; at = k }) → t ≢ no_target → at (cut lists1 target) t k ≡ Some (record { user = u; place = p })
  used2 u p t k e taken =
      elim (put-cases rows1 user place u p free_place stands1.0 _ stands1.1 e) [
        | inl f ↦ absurd (taken (sym (ap (λ z. z.target) f.2)))
        | inr c ↦ elim (put-cases rows moved.user moved.place u p _ _ _ mended c.1) [
          | inl h ↦
              let et : target ≡ t = ap (λ z. z.target) h.2 in
              let ek : i ≡ k = ap (λ z. z.at) h.2 in
              let inner : target ≡ target → i ≡ length (get_or lists1 target []) - 1 → ⊥ = λ _ y.
              let s = same (sym end ∙ sym (ap (λ z. at lists target z) (y ∙ last_use1)) ∙ going) in
              c.0 (h.0 ∙ ap (λ z. z.user) s) (h.1 ∙ ap (λ z. z.place) s) in
              rw (h.0, h.1, ← et, ← ek) (cut-kept lists1 target target i _ within_lists inner (put-here lists target i moved _ going))
          | inr h ↦
              let there : at lists t k ≡ Some (record { user = u; place = p }) = is.used u p t k h.1 taken in
              let not_gone : t ≡ target → k ≡ i → ⊥ = λ x y. let s = same (sym there ∙ (ap (λ z. at lists z k) x ∙ ap (λ z. at lists target z) y) ∙ going) in c.0 (ap (λ z. z.user) s) (ap (λ z. z.place) s) in
              let not_last : t ≡ target → k ≡ length (get_or lists1 target []) - 1 → ⊥ = λ x y. let s = same (sym there ∙ (ap (λ z. at lists z k) x ∙ ap (λ z. at lists target z) (y ∙ last_use1)) ∙ end) in h.0 (ap (λ z. z.user) s) (ap (λ z. z.place) s) in
              cut-kept lists1 target t k _ within_lists not_last (put-other lists target i t k moved _ going not_gone ∙ there)
        ]
      ]

  placed2 : (t k u p : ℕ) → at (cut lists1 target) t k ≡ Some (record { user = u; place = p }) → at rows2 u p ≡ Some (record { target = t; at = k })
  placed2 t k u p e =
      let c = cut-cases lists1 target t k _ within_lists e in
      let stays : t ≡ target → k ≡ last_use → ⊥ = λ x y. c.0 x (y ∙ sym last_use1) in
      elim (put-cases lists target i t k _ _ _ going c.1) [
        | inl h ↦
            let eu : moved.user ≡ u = ap (λ z. z.user) h.2 in
            let ep : moved.place ≡ p = ap (λ z. z.place) h.2 in
            let inner : moved.user ≡ user → moved.place ≡ place → ⊥ = λ x y.
            let s = same (sym here ∙ sym (ap (λ z. at rows z moved.place) x ∙ ap (λ z. at rows user z) y) ∙ mended) in
            stays h.0 (h.1 ∙ ap (λ z. z.at) s) in
            rw (h.0, h.1, ← eu, ← ep) (put-other rows1 user place moved.user moved.place free_place stands1.0 stands1.1 inner ∙ put-here rows moved.user moved.place _ _ mended)
        | inr h ↦
            let there : at rows u p ≡ Some (record { target = t; at = k }) = is.placed t k u p h.1 in
            let not_moved : u ≡ moved.user → p ≡ moved.place → ⊥ = λ x y. let s = same (sym there ∙ (ap (λ z. at rows z p) x ∙ ap (λ z. at rows moved.user z) y) ∙ mended) in stays (ap (λ z. z.target) s) (ap (λ z. z.at) s) in
            let not_here : u ≡ user → p ≡ place → ⊥ = λ x y. let s = same (sym there ∙ (ap (λ z. at rows z p) x ∙ ap (λ z. at rows user z) y) ∙ here) in h.0 (ap (λ z. z.target) s) (ap (λ z. z.at) s) in
            put-other rows1 user place u p free_place stands1.0 stands1.1 not_here ∙ put-other rows moved.user moved.place u p _ _ mended not_moved ∙ there
      ]

  pub linked-left : IsLinked rows2 (cut lists1 target)
  linked-left = record {
    used = used2;
    placed = placed2;
    few = omega (arith, is.few, length-set lists target (set (get_or lists target []) i moved), length-set lists1 target (take (length (get_or lists1 target []) - 1) (get_or lists1 target [])));
  }

  inside1 : user < length rows1
  inside1 = at-within rows1 user place stands1.0 stands1.1

  inside : user < length rows
  inside = at-within rows user place _ here

  -- the rows of the first write hold what they held
  pub targets1 : targets_in rows1 ≡ targets_in rows
  targets1 = map-set targets_held rows moved.user _ ∙ ap (set (targets_in rows) moved.user) (held-same (get_or rows moved.user []) moved.place _ _ mended refl ∙ sym (row-targets rows moved.user)) ∙ set-get_or (targets_in rows) moved.user []

  held1 : targets_held (get_or rows1 user []) ≡ targets_held (get_or rows user [])
  held1 = sym (row-targets rows1 user) ∙ ap (λ z. get_or z user []) targets1 ∙ row-targets rows user

  -- and have the same places taken
  marks1 : marks_in rows1 ≡ marks_in rows
  marks1 = map-set marks rows moved.user _ ∙ ap (set (marks_in rows) moved.user) (marks-same (get_or rows moved.user []) moved.place _ _ mended refl ∙ sym (row-marks rows moved.user)) ∙ set-get_or (marks_in rows) moved.user []

  row-marks1 : marks (get_or rows1 user []) ≡ marks (get_or rows user [])
  row-marks1 = sym (row-marks rows1 user) ∙ ap (λ z. get_or z user []) marks1 ∙ row-marks rows user

  pub left-marks : marks_in rows2 ≡ set (marks_in rows) user (set (marks (get_or rows user [])) place 0)
  left-marks = map-set marks rows1 user _ ∙ ap (λ z. set z user (marks (set (get_or rows1 user []) place free_place))) marks1 ∙ ap (set (marks_in rows) user) (marks-freed (get_or rows1 user []) place ∙ ap (λ l. set l place 0) row-marks1)

  ranked : rank (get_or rows1 user []) place ≡ rank (get_or rows user []) place
  ranked = rank-alike (get_or rows user []) (get_or rows1 user []) place row-marks1

  taken1 : stands1.0.target ≢ no_target
  taken1 f = real (sym stands1.2 ∙ f)

  pub left-target : slice_get (targets_held (get_or rows user [])) (rank (get_or rows user []) place) ≡ Some target
  left-target = held-at (get_or rows user []) place _ here real

  pub left-targets : targets_in rows2 ≡ set (targets_in rows) user (remove (get_or (targets_in rows) user []) (rank (get_or rows user []) place))
  left-targets =
      map-set targets_held rows1 user _ ∙ ap (λ z. set z user (targets_held (set (get_or rows1 user []) place free_place))) targets1 ∙ ap (set (targets_in rows) user) (held-freed (get_or rows1 user []) place stands1.0 stands1.1 taken1 ∙ ap (remove (targets_held (get_or rows1 user []))) ranked ∙ ap (λ l. remove l (rank (get_or rows user []) place)) (held1 ∙ sym (row-targets rows user)))

-- a gap that the place behind it joins
module _ (row : List UseSlot) (gap : Gap) (has : HasGap row gap) (more : gap.start < length (targets_held row)) where
  abbrev behind : ℕ
  behind = gap.start + gap.len

  abbrev wider : Gap
  wider = record { start = gap.start; len = gap.len + 1 }

  within_row : behind < length row
  within_row = omega (arith, more, held-length row gap has)

  pub behind-ranked : rank row behind ≡ gap.start
  behind-ranked = let back : behind - gap.len ≡ gap.start = omega arith in behind-index row gap has behind (omega arith) (omega (arith, within_row)) ∙ back

  pub behind-taken_place : (p : UseSlot) × (slice_get row behind ≡ Some p) × (p.target ≢ no_target)
  behind-taken_place = let s = slice-some row behind within_row in (s.0, s.1, has.behind _ s.0 s.1 (omega arith))

  cases : (n : ℕ) (x : UseSlot) → slice_get (set row behind free_place) n ≡ Some x → ((n ≡ behind) × (x ≡ free_place)) ⊎ ((n ≢ behind) × (slice_get row n ≡ Some x))
  cases n x e = elim (cases_eq n behind) [
    | inl h ↦ inl (h, same (sym e ∙ ap (slice_get (set row behind free_place)) h ∙ set-same row behind free_place behind-taken_place.0 behind-taken_place.1))
    | inr h ↦ inr (h, sym (set-other row behind n free_place h) ∙ e)
  ]

  wider-set : HasGap (set row behind free_place) wider
  wider-set = record {
    fits = omega (arith, length-set row behind free_place, within_row);
    free = λ n x e a b. elim (cases n x e) [ inl c ↦ ap (λ z. z.target) c.1 | inr c ↦ has.free n x c.1 a (omega (arith, b, c.0)) ];
    before = λ n x e a. elim (cases n x e) [ inl c ↦ absurd (omega (arith, c.0, a)) | inr c ↦ has.before n x c.1 a ];
    behind = λ n x e a. elim (cases n x e) [ inl c ↦ absurd (omega (arith, c.0, a)) | inr c ↦ has.behind n x c.1 (omega (arith, a)) ];
  }

  pub wider-has : (row' : List UseSlot) → marks row' ≡ set (marks row) behind 0 → HasGap row' wider
  wider-has row' e = gap-marks (set row behind free_place) row' wider (e ∙ sym (marks-freed row behind)) wider-set

-- a gap at the end of its row goes
module _ (rows : List (List UseSlot)) (holes : List Holes) (user : ℕ) (all : HaveHoles rows holes) (within : user < length holes) (gapped : is_counted holes user ≡ false)
    (end : (gap_of holes user).start ≡ length (targets_held (get_or rows user []))) where
  abbrev last_gap : Gap
  last_gap = gap_of holes user

  abbrev last_row : List UseSlot
  last_row = get_or rows user []

  abbrev closed : List (List UseSlot)
  closed = set rows user (take last_gap.start last_row)

  has : HasGap last_row last_gap
  has = has-gap rows holes user all gapped

  long : last_gap.start + last_gap.len ≡ length last_row
  long = omega (arith, end, held-length last_row last_gap has)

  row_within : user < length rows
  row_within = omega (arith, within, all.count)

  closed-has : HasGap (take last_gap.start last_row) no_gap
  closed-has = record {
    fits = omega arith;
    free = λ n x e a b. absurd (omega (arith, b));
    before = λ n x e a. absurd (omega (arith, a));
    behind = λ n x e a. let w = take-within last_row last_gap.start n x e in has.before n x w.1 w.0;
  }

  pub closed-holes : HaveHoles closed (set holes user (OneGap no_gap))
  closed-holes = holes-put rows holes user _ (OneGap no_gap) row_within closed-has all

  pub closed-targets : targets_in closed ≡ targets_in rows
  closed-targets =
      map-set targets_held rows user _ ∙ ap (set (targets_in rows) user) (held-take last_row last_gap.start (λ n x e a b. has.free n x e a (omega (arith, b, long))) ∙ sym (row-targets rows user)) ∙ set-get_or (targets_in rows) user []

  closed-at : (u n : ℕ) (x : UseSlot) → at closed u n ≡ Some x → at rows u n ≡ Some x
  closed-at u n x e = elim (cases_eq u user) [
    | inl h ↦
        let there : slice_get (take last_gap.start last_row) n ≡ Some x = ap (λ r. slice_get r n) (sym (ap (λ z. get_or closed z []) h ∙ get_or-set_same rows user _ [] row_within)) ∙ e in
        ap (λ z. at rows z n) h ∙ (take-within last_row last_gap.start n x there).1
    | inr h ↦ ap (λ r. slice_get r n) (sym (get_or-set_other rows user u _ [] h)) ∙ e
  ]

  place-before : (n : ℕ) (x : UseSlot) → slice_get last_row n ≡ Some x → x.target ≢ no_target → n < last_gap.start
  place-before n x e real = elim (below n) [ inl b ↦ b | inr b ↦ absurd (real (has.free n x e b (let w = slice_get_within last_row n x e in omega (arith, w, long)))) ]
    where
      below : (n : ℕ) → (n < last_gap.start) ⊎ (last_gap.start ≤ n)
      below n = grind arith

  at-closed : (u n : ℕ) (x : UseSlot) → at rows u n ≡ Some x → x.target ≢ no_target → at closed u n ≡ Some x
  at-closed u n x e real = elim (cases_eq u user) [
    | inl h ↦
        let there : slice_get last_row n ≡ Some x = ap (λ z. at rows z n) (sym h) ∙ e in
        let before = place-before n x there real in
        ap (λ r. slice_get r n) (ap (λ z. get_or closed z []) h ∙ get_or-set_same rows user _ [] row_within) ∙ take-below last_row last_gap.start n before ∙ there
    | inr h ↦ ap (λ r. slice_get r n) (get_or-set_other rows user u _ [] h) ∙ e
  ]

  pub closed-linked : (lists : List (List Use)) → IsLinked rows lists → IsLinked closed lists
  closed-linked lists is = record {
    used = λ u p t k e taken. is.used u p t k (closed-at u p _ e) taken;
    placed = λ t k u p e. at-closed u p _ (is.placed t k u p e) (target-real rows lists is t k _ e);
    few = is.few;
  }

  -- each use keeps its place among those that are taken
  pub closed-uses : (lists : List (List Use)) → IsLinked rows lists → uses_in closed lists ≡ uses_in rows lists
  closed-uses lists is = uses-same rows closed lists (λ t k u e. kept u (is.placed t k u.user u.place e) (target-real rows lists is t k u e))
    where
      kept : (u : Use) {t k : ℕ} → at rows u.user u.place ≡ Some (record { target = t; at = k }) → t ≢ no_target → rank (get_or closed u.user []) u.place ≡ rank (get_or rows u.user []) u.place
      kept u e real = elim (cases_eq u.user user) [
        | inl h ↦
            let there : slice_get last_row u.place ≡ Some _ = ap (λ z. at rows z u.place) (sym h) ∙ e in
            let before = place-before u.place _ there real in
            ap (λ z. rank (get_or closed z []) u.place) h ∙ ap (λ r. rank r u.place) (get_or-set_same rows user _ [] row_within) ∙ rank-take last_row last_gap.start u.place (omega (arith, before)) ∙ ap (λ z. rank (get_or rows z []) u.place) (sym h)
        | inr h ↦ ap (λ r. rank r u.place) (get_or-set_other rows user u.user _ [] h)
      ]

-- what `widen_gap` writes, by the gap that it read
pub behind-gap : (rows : List (List UseSlot)) (holes : List Holes) (user : ℕ) (gap : Gap) → gap ≡ gap_of holes user → HaveHoles rows holes → is_counted holes user ≡ false → (gap_of holes user).start < length (targets_held (get_or rows user []))
    → (p : UseSlot) × (at rows user (gap.start + gap.len) ≡ Some p) × (p.target ≢ no_target)
behind-gap rows holes user gap e all gapped more = rw e (behind-taken_place (get_or rows user []) (gap_of holes user) (has-gap rows holes user all gapped) more)

pub behind-rank : (rows : List (List UseSlot)) (holes : List Holes) (user : ℕ) (gap : Gap) → gap ≡ gap_of holes user → HaveHoles rows holes → is_counted holes user ≡ false → (gap_of holes user).start < length (targets_held (get_or rows user []))
    → rank (get_or rows user []) (gap.start + gap.len) ≡ (gap_of holes user).start
behind-rank rows holes user gap e all gapped more = rw e (behind-ranked (get_or rows user []) (gap_of holes user) (has-gap rows holes user all gapped) more)

pub widened : (rows rows' : List (List UseSlot)) (holes : List Holes) (user : ℕ) (gap : Gap) → gap ≡ gap_of holes user → HaveHoles rows holes → user < length holes → is_counted holes user ≡ false
    → (gap_of holes user).start < length (targets_held (get_or rows user [])) → marks_in rows' ≡ set (marks_in rows) user (set (marks (get_or rows user [])) (gap.start + gap.len) 0)
    → HaveHoles rows' (set holes user (OneGap (record { start = gap.start; len = gap.len + 1 })))
widened rows rows' holes user gap e all within gapped more marked =
    let inside : user < length rows = omega (arith, within, all.count) in
    holes-marked rows rows' holes user _ _ inside marked (rw e (wider-has (get_or rows user []) (gap_of holes user) (has-gap rows holes user all gapped) more (get_or rows' user []) (row-marked rows rows' user _ inside (marked ∙ ap (λ z. set (marks_in rows) user (set (marks (get_or rows user [])) (z.start + z.len) 0)) e)))) all
