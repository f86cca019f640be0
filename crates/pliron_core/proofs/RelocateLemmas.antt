-- Lemmas on what moves from one place of a user to a free one.
use Rattle.std.proofs.Common.{◌≡◌, ◌≢◌, ◌⊎◌, ℕ, ◌+◌, ◌-◌, ◌<◌, ◌≤◌, false, List, [], length, get_or, set, Some, sym, ap, ◌∙◌, subst, inl, inr, arith}
use Rattle.std.specs.List.{slice_get}
use Rattle.std.proofs.lemmas.List.{get_or-set_same, map-set, set-set, set-get_or, length-set, length-map}
use Rattle.pliron_core.specs.declared.uses.Use.{Use}
use Rattle.pliron_core.specs.declared.use_slots.UseSlot.{UseSlot}
use Rattle.pliron_core.specs.declared.use_slots.Gap.{Gap}
use Rattle.pliron_core.specs.declared.use_slots.Holes.{Holes}
use Rattle.pliron_core.specs.declared.use_slots.Holes.TheVariants.{OneGap}
use Rattle.pliron_core.specs.UseSlots.{at, put, targets_held, no_target, free_place, targets_in, HasGap, IsLinked}
use Rattle.pliron_core.specs.Holes.{gap_of, is_counted, HaveHoles, AreLinked}
use Rattle.pliron_core.proofs.PlaceLemmas.{row-targets}
use Rattle.pliron_core.proofs.HoleLemmas.{has-gap, gapped-some, holes-put, hole-put}
use Rattle.pliron_core.proofs.TableLemmas.{at-within, put-here, put-other, put-cases}
use Rattle.pliron_core.proofs.GapLemmas.{same, moved_row, moved-cases, slice-some, held-lowered, held-raised, held-length}

module _ (rows : List (List UseSlot)) (lists : List (List Use)) (user from to : ℕ) (a b : UseSlot) (is : IsLinked rows lists)
    (first : at rows user from ≡ Some a) (taken : a.target ≢ no_target) (second : at rows user to ≡ Some b) (free : b.target ≡ no_target) where
  abbrev lists1 : List (List Use)
  lists1 = put lists a.target a.at (record { user = user; place = to })

  abbrev rows1 : List (List UseSlot)
  rows1 = put rows user to a

  abbrev rows2 : List (List UseSlot)
  rows2 = put rows1 user from free_place

  pub apart : from ≢ to
  apart e = taken (ap (λ z. z.target) (same (sym first ∙ ap (at rows user) e ∙ second)) ∙ free)

  used_first : at lists a.target a.at ≡ Some (record { user = user; place = from })
  used_first = is.used user from a.target a.at first taken

  pub kept_first : at rows1 user from ≡ Some a
  kept_first = put-other rows user to user from a b second (λ _ e. apart e) ∙ first

  used2 : (u p t k : ℕ) → at rows2 u p ≡ Some (record { target = t; at = k }) → t ≢ no_target → at lists1 t k ≡ Some (record { user = u; place = p })
  used2 u p t k e real =
      elim (put-cases rows1 user from u p free_place a _ kept_first e) [
        | inl h ↦ absurd (real (sym (ap (λ z. z.target) h.2)))
        | inr h ↦ elim (put-cases rows user to u p a b _ second h.1) [
          | inl g ↦
              let et : a.target ≡ t = ap (λ z. z.target) g.2 in
              let ek : a.at ≡ k = ap (λ z. z.at) g.2 in
              rw (g.0, g.1, ← et, ← ek) (put-here lists a.target a.at _ _ used_first)
          | inr g ↦
              let there : at lists t k ≡ Some (record { user = u; place = p }) = is.used u p t k g.1 real in
              let other : t ≡ a.target → k ≡ a.at → ⊥ = λ x y. let s = same (sym there ∙ (ap (λ z. at lists z k) x ∙ ap (λ z. at lists a.target z) y) ∙ used_first) in h.0 (ap (λ z. z.user) s) (ap (λ z. z.place) s) in
              put-other lists a.target a.at t k _ _ used_first other ∙ there
        ]
      ]

  placed2 : (t k u p : ℕ) → at lists1 t k ≡ Some (record { user = u; place = p }) → at rows2 u p ≡ Some (record { target = t; at = k })
  placed2 t k u p e =
      elim (put-cases lists a.target a.at t k _ _ _ used_first e) [
        | inl h ↦
            let eu : user ≡ u = ap (λ z. z.user) h.2 in
            let ep : to ≡ p = ap (λ z. z.place) h.2 in
            rw (h.0, h.1, ← eu, ← ep) (put-other rows1 user from user to free_place a kept_first (λ _ x. apart (sym x)) ∙ put-here rows user to a b second)
        | inr h ↦
            let there : at rows u p ≡ Some (record { target = t; at = k }) = is.placed t k u p h.1 in
            let real : t ≢ no_target = λ f. let w : t < length lists = at-within lists t k _ h.1 in omega (arith, w, is.few, f) in
            let not_first : u ≡ user → p ≡ from → ⊥ = λ x y. let s = same (sym there ∙ (ap (λ z. at rows z p) x ∙ ap (λ z. at rows user z) y) ∙ first) in h.0 (ap (λ z. z.target) s) (ap (λ z. z.at) s) in
            let not_second : u ≡ user → p ≡ to → ⊥ = λ x y. let s = same (sym there ∙ (ap (λ z. at rows z p) x ∙ ap (λ z. at rows user z) y) ∙ second) in real (ap (λ z. z.target) s ∙ free) in
            put-other rows1 user from u p free_place a kept_first not_first ∙ put-other rows user to u p a b second not_second ∙ there
      ]

  pub linked-relocated : IsLinked rows2 lists1
  linked-relocated = record { used = used2; placed = placed2; few = omega (arith, is.few, length-set lists a.target (set (get_or lists a.target []) a.at (record { user = user; place = to }))) }

  pub relocated-rows : rows2 ≡ set rows user (moved_row (get_or rows user []) from to a)
  relocated-rows =
      ap (λ r. set rows1 user (set r from free_place)) (get_or-set_same rows user (set (get_or rows user []) to a) [] (at-within rows user from a first)) ∙ set-set rows user _ _

-- the same targets
row-kept : (rows : List (List UseSlot)) (user : ℕ) (row : List UseSlot) → targets_held row ≡ targets_held (get_or rows user []) → targets_in (set rows user row) ≡ targets_in rows
row-kept rows user row e = map-set targets_held rows user row ∙ ap (set (targets_in rows) user) (e ∙ sym (row-targets rows user)) ∙ set-get_or (targets_in rows) user []

-- a gap that goes one place down
module _ (rows : List (List UseSlot)) (holes : List Holes) (lists : List (List Use)) (user : ℕ) (is : AreLinked rows holes lists) (within : user < length holes)
    (some : 0 < (gap_of holes user).len) where
  abbrev gap : Gap
  gap = gap_of holes user

  abbrev row : List UseSlot
  row = get_or rows user []

  has : HasGap row gap
  has = has-gap rows holes user is.holes (gapped-some holes user some)

  inside : user < length rows
  inside = omega (arith, within, is.holes.count)

  module _ (before : 0 < gap.start) where
    pub lower-from : (p : UseSlot) × (at rows user (gap.start - 1) ≡ Some p) × (p.target ≢ no_target)
    lower-from = let s = slice-some row (gap.start - 1) (omega (arith, before, has.fits)) in (s.0, s.1, has.before _ s.0 s.1 (omega (arith, before)))

    pub lower-to : (p : UseSlot) × (at rows user (gap.start + gap.len - 1) ≡ Some p) × (p.target ≡ no_target)
    lower-to = let s = slice-some row (gap.start + gap.len - 1) (omega (arith, before, has.fits)) in (s.0, s.1, has.free _ s.0 s.1 (omega (arith, some)) (omega (arith, some)))

    abbrev lower-row : List UseSlot
    lower-row = moved_row row (gap.start - 1) (gap.start + gap.len - 1) lower-from.0

    lower-gap : HasGap lower-row (record { start = gap.start - 1; len = gap.len })
    lower-gap = record {
      fits = omega (arith, has.fits, before, length-set (set row (gap.start + gap.len - 1) lower-from.0) (gap.start - 1) free_place, length-set row (gap.start + gap.len - 1) lower-from.0);
      free = λ n x e h k. elim (cases n x e) [
        | inl c ↦ ap (λ z. z.target) c.1
        | inr d ↦ elim d [ inl c ↦ absurd (omega (arith, c.0, h, k, some, before)) | inr c ↦ has.free n x c.2 (omega (arith, c.0, h, before)) (omega (arith, k, before)) ]
      ];
      before = λ n x e h. elim (cases n x e) [
        | inl c ↦ absurd (omega (arith, c.0, h, before))
        | inr d ↦ elim d [ inl c ↦ subst (λ z. z.target ≢ no_target) (sym c.1) lower-from.2 | inr c ↦ has.before n x c.2 (omega (arith, h, before)) ]
      ];
      behind = λ n x e h. elim (cases n x e) [
        | inl c ↦ absurd (omega (arith, c.0, h, some, before))
        | inr d ↦ elim d [ inl c ↦ subst (λ z. z.target ≢ no_target) (sym c.1) lower-from.2 | inr c ↦ has.behind n x c.2 (omega (arith, c.0, c.1, h, before, some)) ]
      ];
    }
      where
        cases : (n : ℕ) (x : UseSlot) → slice_get lower-row n ≡ Some x → ((n ≡ gap.start - 1) × (x ≡ free_place)) ⊎ (((n ≡ gap.start + gap.len - 1) × (x ≡ lower-from.0)) ⊎ ((n ≢ gap.start - 1) × (n ≢ gap.start + gap.len - 1) × (slice_get row n ≡ Some x)))
        cases n x e = moved-cases row (gap.start - 1) (gap.start + gap.len - 1) n lower-from.0 lower-to.0 x lower-from.1 lower-to.1 (omega (arith, before, some)) e

    pub lowered-holes : HaveHoles (set rows user lower-row) (set holes user (OneGap (record { start = gap.start - 1; len = gap.len })))
    lowered-holes = holes-put rows holes user lower-row _ inside lower-gap is.holes

    pub lowered-targets : targets_in (set rows user lower-row) ≡ targets_in rows
    lowered-targets = row-kept rows user lower-row (held-raised row (gap.start - 1) (gap.start + gap.len - 1) lower-from.0 (omega (arith, before, some)) (omega (arith, before, has.fits)) lower-from.1 lower-from.2 (λ n q e h k. has.free n q e (omega (arith, h, before)) (omega (arith, k, before, some))))

  module _ (more : gap.start < length (targets_held row)) where
    held-is : length (targets_held row) + gap.len ≡ length row
    held-is = held-length row gap has

    pub raise-from : (p : UseSlot) × (at rows user (gap.start + gap.len) ≡ Some p) × (p.target ≢ no_target)
    raise-from = let s = slice-some row (gap.start + gap.len) (omega (arith, more, held-is)) in (s.0, s.1, has.behind _ s.0 s.1 (omega arith))

    pub raise-to : (p : UseSlot) × (at rows user gap.start ≡ Some p) × (p.target ≡ no_target)
    raise-to = let s = slice-some row gap.start (omega (arith, some, has.fits)) in (s.0, s.1, has.free _ s.0 s.1 (omega arith) (omega (arith, some)))

    abbrev raise-row : List UseSlot
    raise-row = moved_row row (gap.start + gap.len) gap.start raise-from.0

    raise-gap : HasGap raise-row (record { start = gap.start + 1; len = gap.len })
    raise-gap = record {
      fits = omega (arith, more, held-is, length-set (set row gap.start raise-from.0) (gap.start + gap.len) free_place, length-set row gap.start raise-from.0);
      free = λ n x e h k. elim (cases n x e) [
        | inl c ↦ ap (λ z. z.target) c.1
        | inr d ↦ elim d [ inl c ↦ absurd (omega (arith, c.0, h)) | inr c ↦ has.free n x c.2 (omega (arith, h)) (omega (arith, k, c.0)) ]
      ];
      before = λ n x e h. elim (cases n x e) [
        | inl c ↦ absurd (omega (arith, c.0, h, some))
        | inr d ↦ elim d [ inl c ↦ subst (λ z. z.target ≢ no_target) (sym c.1) raise-from.2 | inr c ↦ has.before n x c.2 (omega (arith, h, c.1)) ]
      ];
      behind = λ n x e h. elim (cases n x e) [
        | inl c ↦ absurd (omega (arith, c.0, h))
        | inr d ↦ elim d [ inl c ↦ subst (λ z. z.target ≢ no_target) (sym c.1) raise-from.2 | inr c ↦ has.behind n x c.2 (omega (arith, h)) ]
      ];
    }
      where
        cases : (n : ℕ) (x : UseSlot) → slice_get raise-row n ≡ Some x → ((n ≡ gap.start + gap.len) × (x ≡ free_place)) ⊎ (((n ≡ gap.start) × (x ≡ raise-from.0)) ⊎ ((n ≢ gap.start + gap.len) × (n ≢ gap.start) × (slice_get row n ≡ Some x)))
        cases n x e = moved-cases row (gap.start + gap.len) gap.start n raise-from.0 raise-to.0 x raise-from.1 raise-to.1 (omega (arith, some)) e

    pub raised-holes : HaveHoles (set rows user raise-row) (set holes user (OneGap (record { start = gap.start + 1; len = gap.len })))
    raised-holes = holes-put rows holes user raise-row _ inside raise-gap is.holes

    pub raised-targets : targets_in (set rows user raise-row) ≡ targets_in rows
    raised-targets = row-kept rows user raise-row (held-lowered row (gap.start + gap.len) gap.start raise-from.0 (omega (arith, some)) raise-from.1 raise-from.2 (λ n q e h k. has.free n q e h k))

-- what `lower_gap` and `raise_gap` write, by the gap that they read
pub lowered : (rows rows' : List (List UseSlot)) (holes : List Holes) (lists lists' : List (List Use)) (user : ℕ) (gap : Gap) → gap ≡ gap_of holes user → AreLinked rows holes lists → user < length holes
    → 0 < (gap_of holes user).len → 0 < (gap_of holes user).start
    → ((p : UseSlot) → at rows user (gap.start - 1) ≡ Some p → rows' ≡ put (put rows user (gap.start + gap.len - 1) p) user (gap.start - 1) free_place) → IsLinked rows' lists'
    → AreLinked rows' (set holes user (OneGap (record { start = gap.start - 1; len = gap.len }))) lists' × (targets_in rows' ≡ targets_in rows)
lowered rows rows' holes lists lists' user gap e is within some before moved linked =
    let f = lower-from rows holes lists user is within some before in
    let t = lower-to rows holes lists user is within some before in
    let write = rw e at moved in
    let m : rows' ≡ set rows user (lower-row rows holes lists user is within some before) = write f.0 f.1 ∙ relocated-rows rows lists user _ _ f.0 t.0 is.linked f.1 f.2 t.1 t.2 in
    (record { linked = linked; holes = rw (e, m) (lowered-holes rows holes lists user is within some before) }, ap targets_in m ∙ lowered-targets rows holes lists user is within some before)

pub raised : (rows rows' : List (List UseSlot)) (holes : List Holes) (lists lists' : List (List Use)) (user : ℕ) (gap : Gap) → gap ≡ gap_of holes user → AreLinked rows holes lists → user < length holes
    → 0 < (gap_of holes user).len → (gap_of holes user).start < length (targets_held (get_or rows user []))
    → ((p : UseSlot) → at rows user (gap.start + gap.len) ≡ Some p → rows' ≡ put (put rows user gap.start p) user (gap.start + gap.len) free_place) → IsLinked rows' lists'
    → AreLinked rows' (set holes user (OneGap (record { start = gap.start + 1; len = gap.len }))) lists' × (targets_in rows' ≡ targets_in rows)
raised rows rows' holes lists lists' user gap e is within some more moved linked =
    let f = raise-from rows holes lists user is within some more in
    let t = raise-to rows holes lists user is within some more in
    let write = rw e at moved in
    let m : rows' ≡ set rows user (raise-row rows holes lists user is within some more) = write f.0 f.1 ∙ relocated-rows rows lists user _ _ f.0 t.0 is.linked f.1 f.2 t.1 t.2 in
    (record { linked = linked; holes = rw (e, m) (raised-holes rows holes lists user is within some more) }, ap targets_in m ∙ raised-targets rows holes lists user is within some more)

-- an empty gap may stand anywhere
pub empty-gap : (rows : List (List UseSlot)) (holes : List Holes) (lists : List (List Use)) (user start : ℕ) → AreLinked rows holes lists → user < length holes → is_counted holes user ≡ false → (gap_of holes user).len ≡ 0 → start ≤ length (targets_held (get_or rows user []))
    → AreLinked rows (set holes user (OneGap (record { start = start; len = 0 }))) lists
empty-gap rows holes lists user start is within gapped none h = record {
  linked = is.linked;
  holes = hole-put rows holes user _ (omega (arith, within, is.holes.count)) has' is.holes;
}
  where
    has : HasGap (get_or rows user []) (gap_of holes user)
    has = has-gap rows holes user is.holes gapped

    long : length (targets_held (get_or rows user [])) + (gap_of holes user).len ≡ length (get_or rows user [])
    long = held-length (get_or rows user []) (gap_of holes user) has

    taken : (n : ℕ) (p : UseSlot) → slice_get (get_or rows user []) n ≡ Some p → p.target ≢ no_target
    taken n p e = elim (side n) [ inl b ↦ has.before n p e b | inr b ↦ has.behind n p e (omega (arith, b, none)) ]
      where
        side : (n : ℕ) → (n < (gap_of holes user).start) ⊎ ((gap_of holes user).start ≤ n)
        side n = grind arith

    has' : HasGap (get_or rows user []) (record { start = start; len = 0 })
    has' = record {
      fits = omega (arith, h, long, none);
      free = λ n p e a b. absurd (omega (arith, a, b));
      before = λ n p e a. taken n p e;
      behind = λ n p e a. taken n p e;
    }

-- the same targets: as many users, and as many targets of each
pub held-kept : (rows rows' : List (List UseSlot)) (user : ℕ) → targets_in rows' ≡ targets_in rows → targets_held (get_or rows' user []) ≡ targets_held (get_or rows user [])
held-kept rows rows' user e = sym (row-targets rows' user) ∙ ap (λ z. get_or z user []) e ∙ row-targets rows user

pub users-kept : (rows rows' : List (List UseSlot)) (holes holes' : List Holes) (user : ℕ) → HaveHoles rows holes → HaveHoles rows' holes' → targets_in rows' ≡ targets_in rows → user < length holes → user < length holes'
users-kept rows rows' holes holes' user one two e h = omega (arith, h, one.count, two.count, ap length e, length-map rows targets_held, length-map rows' targets_held)

pub user-within : (rows : List (List UseSlot)) (holes : List Holes) (user : ℕ) → HaveHoles rows holes → user < length (targets_in rows) → user < length holes
user-within rows holes user all h = omega (arith, h, all.count, length-map rows targets_held)

pub users-set : (rows rows' : List (List UseSlot)) (holes holes' : List Holes) (user : ℕ) (row : List ℕ) → HaveHoles rows holes → HaveHoles rows' holes' → targets_in rows' ≡ set (targets_in rows) user row → user < length holes → user < length holes'
users-set rows rows' holes holes' user row one two e h = omega (arith, h, one.count, two.count, ap length e, length-set (targets_in rows) user row, length-map rows targets_held, length-map rows' targets_held)
