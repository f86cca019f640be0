-- Lemmas on where the free places of each user are.
use Rattle.std.proofs.Common.{◌≡◌, ◌≢◌, ℕ, ◌-◌, ◌<◌, ◌≤◌, true, false, List, [], length, get_or, set, Some, refl, sym, ap, ◌∙◌, subst, inl, inr, arith}
use Rattle.std.specs.List.{slice_get}
use Rattle.std.proofs.lemmas.Bool.{cases_eq}
use Rattle.std.proofs.lemmas.Option.{slice_get_within}
use Rattle.std.proofs.lemmas.List.{get_or-set_same, get_or-set_other, get_or_default, set-get_or, length-map, length-set}
use Rattle.pliron_core.specs.declared.use_slots.UseSlot.{UseSlot}
use Rattle.pliron_core.specs.declared.use_slots.Holes.{Holes}
use Rattle.pliron_core.specs.declared.use_slots.Holes.TheVariants.{OneGap, Counted}
use Rattle.pliron_core.specs.UseSlots.{marks, marks_in, no_gap, no_target, HasGap}
use Rattle.pliron_core.specs.Holes.{Tracks, hole_of, gap_in, counted_in, counts_in, gap_of, is_counted, counts_of, HaveHoles}
use Rattle.pliron_core.proofs.MarkLemmas.{row-marks, gap-marks}

-- a user whose places are not counted has a gap
pub gapped-is : (hole : Holes) → counted_in hole ≡ false → hole ≡ OneGap (gap_in hole)
gapped-is (OneGap gap) e = refl
gapped-is (Counted counts) e = absurd (cc)

pub has-gap : (rows : List (List UseSlot)) (holes : List Holes) (user : ℕ) → HaveHoles rows holes → is_counted holes user ≡ false → HasGap (get_or rows user []) (gap_of holes user)
has-gap rows holes user all e = subst (Tracks (get_or rows user [])) (gapped-is (hole_of holes user) e) (all.each user)

some-gap : (hole : Holes) → 0 < (gap_in hole).len → counted_in hole ≡ false
some-gap (OneGap gap) h = refl
some-gap (Counted counts) h = absurd (omega (arith, h))

pub gapped-some : (holes : List Holes) (user : ℕ) → 0 < (gap_of holes user).len → is_counted holes user ≡ false
gapped-some holes user h = some-gap (hole_of holes user) h

pub tracks-marks : (row row' : List UseSlot) (hole : Holes) → marks row' ≡ marks row → Tracks row hole → Tracks row' hole
tracks-marks row row' (OneGap gap) e has = gap-marks row row' gap e has
tracks-marks row row' (Counted counts) e is = e ∙ is

-- another row for the same hole, another hole for the same row, or both
pub holes-put : (rows : List (List UseSlot)) (holes : List Holes) (user : ℕ) (row : List UseSlot) (hole : Holes) → user < length rows → Tracks row hole → HaveHoles rows holes → HaveHoles (set rows user row) (set holes user hole)
holes-put rows holes user row hole within one is = record {
  count = length-set holes user hole ∙ is.count ∙ sym (length-set rows user row);
  each = λ u. elim (cases_eq u user) [
    | inl e ↦ rw (e, get_or-set_same rows user row [] within, get_or-set_same holes user hole (OneGap no_gap) (omega (arith, within, is.count))) one
    | inr ne ↦ rw (get_or-set_other rows user u row [] ne, get_or-set_other holes user u hole (OneGap no_gap) ne) (is.each u)
  ];
}

pub holes-row : (rows : List (List UseSlot)) (holes : List Holes) (user : ℕ) (row : List UseSlot) → user < length rows → Tracks row (hole_of holes user) → HaveHoles rows holes → HaveHoles (set rows user row) holes
holes-row rows holes user row within one is = subst (HaveHoles (set rows user row)) (set-get_or holes user (OneGap no_gap)) (holes-put rows holes user row (hole_of holes user) within one is)

pub hole-put : (rows : List (List UseSlot)) (holes : List Holes) (user : ℕ) (hole : Holes) → user < length rows → Tracks (get_or rows user []) hole → HaveHoles rows holes → HaveHoles rows (set holes user hole)
hole-put rows holes user hole within one is = subst (λ r. HaveHoles r (set holes user hole)) (set-get_or rows user []) (holes-put rows holes user (get_or rows user []) hole within one is)

marked-count : (rows rows' : List (List UseSlot)) → length (marks_in rows') ≡ length (marks_in rows) → length rows' ≡ length rows
marked-count rows rows' e = sym (length-map rows' marks) ∙ e ∙ length-map rows marks

-- other rows, with the same marks
pub holes-same : (rows rows' : List (List UseSlot)) (holes : List Holes) → marks_in rows' ≡ marks_in rows → HaveHoles rows holes → HaveHoles rows' holes
holes-same rows rows' holes e is = record {
  count = is.count ∙ sym (marked-count rows rows' (ap length e));
  each = λ u. tracks-marks (get_or rows u []) (get_or rows' u []) (hole_of holes u) (sym (row-marks rows' u) ∙ ap (λ m. get_or m u []) e ∙ row-marks rows u) (is.each u);
}

-- and with the same marks but for one user
pub holes-marked : (rows rows' : List (List UseSlot)) (holes : List Holes) (user : ℕ) (row : List ℕ) (hole : Holes) → user < length rows → marks_in rows' ≡ set (marks_in rows) user row → Tracks (get_or rows' user []) hole → HaveHoles rows holes → HaveHoles rows' (set holes user hole)
holes-marked rows rows' holes user row hole within e one is = record {
  count = length-set holes user hole ∙ is.count ∙ sym (marked-count rows rows' (ap length e ∙ length-set (marks_in rows) user row));
  each = λ u. elim (cases_eq u user) [
    | inl same ↦ rw (same, get_or-set_same holes user hole (OneGap no_gap) (omega (arith, within, is.count))) one
    | inr ne ↦ rw (get_or-set_other holes user u hole (OneGap no_gap) ne) (tracks-marks (get_or rows u []) (get_or rows' u []) (hole_of holes u) (sym (row-marks rows' u) ∙ ap (λ m. get_or m u []) e ∙ get_or-set_other (marks_in rows) user u row [] ne ∙ row-marks rows u) (is.each u))
  ];
}

pub row-marked : (rows rows' : List (List UseSlot)) (user : ℕ) (row : List ℕ) → user < length rows → marks_in rows' ≡ set (marks_in rows) user row → marks (get_or rows' user []) ≡ row
row-marked rows rows' user row within e = sym (row-marks rows' user) ∙ ap (λ m. get_or m user []) e ∙ get_or-set_same (marks_in rows) user row [] (omega (arith, within, length-map rows marks))

-- what was read of a user's hole
pub hole-read : (rows : List (List UseSlot)) (holes : List Holes) (user : ℕ) (read hole : Holes) → read ≡ get_or holes user read → read ≡ hole → user < length holes → HaveHoles rows holes → Tracks (get_or rows user []) hole
hole-read rows holes user read hole e is within all = subst (Tracks (get_or rows user [])) (sym (get_or_default holes user read (OneGap no_gap) within) ∙ sym e ∙ is) (all.each user)

-- a user whose places are counted
counted-is : (hole : Holes) (row : List UseSlot) → counted_in hole ≡ true → (Tracks row hole → marks row ≡ counts_in hole) × (marks row ≡ counts_in hole → Tracks row hole)
counted-is (OneGap gap) row e = absurd (cc)
counted-is (Counted counts) row e = (λ t. t, λ t. t)

pub counted-marks : (rows : List (List UseSlot)) (holes : List Holes) (user : ℕ) → HaveHoles rows holes → is_counted holes user ≡ true → marks (get_or rows user []) ≡ counts_of holes user
counted-marks rows holes user all e = (counted-is (hole_of holes user) (get_or rows user []) e).0 (all.each user)

-- a taken place of it becomes free
pub holes-taken : (rows rows' : List (List UseSlot)) (holes holes' : List Holes) (user place : ℕ) → user < length rows → HaveHoles rows holes → is_counted holes user ≡ true → is_counted holes' user ≡ true → length holes' ≡ length holes
    → counts_of holes' user ≡ set (counts_of holes user) place 0 → ((u : ℕ) → u ≢ user → hole_of holes' u ≡ hole_of holes u) → marks_in rows' ≡ set (marks_in rows) user (set (marks (get_or rows user [])) place 0) → HaveHoles rows' holes'
holes-taken rows rows' holes holes' user place within is was counted long less others e = record {
  count = long ∙ is.count ∙ sym (marked-count rows rows' (ap length e ∙ length-set (marks_in rows) user (set (marks (get_or rows user [])) place 0)));
  each = λ u. elim (cases_eq u user) [
    | inl same ↦ rw same ((counted-is (hole_of holes' user) (get_or rows' user []) counted).1 (row-marked rows rows' user _ within e ∙ ap (λ m. set m place 0) (counted-marks rows holes user is was) ∙ sym less))
    | inr ne ↦ rw (others u ne) (tracks-marks (get_or rows u []) (get_or rows' u []) (hole_of holes u) (sym (row-marks rows' u) ∙ ap (λ m. get_or m u []) e ∙ get_or-set_other (marks_in rows) user u _ [] ne ∙ row-marks rows u) (is.each u))
  ];
}

-- a row whose taken places stand first
pub gap-first : (row : List UseSlot) (start len : ℕ) → start ≤ length row → len ≡ length row - start → ((n : ℕ) (p : UseSlot) → slice_get row n ≡ Some p → n < start → p.target ≢ no_target) → ((n : ℕ) (p : UseSlot) → slice_get row n ≡ Some p → start ≤ n → p.target ≡ no_target)
    → HasGap row (record { start = start; len = len })
gap-first row start len within long first free = record {
  fits = omega (arith, within, long);
  free = λ n p e a b. free n p e a;
  before = first;
  behind = λ n p e a. absurd (let w = slice_get_within row n p e in omega (arith, w, a, within, long));
}

-- another row for one user, and the other rows as they were
pub holes-other : (rows rows' : List (List UseSlot)) (holes : List Holes) (user : ℕ) (hole : Holes) → user < length rows → length rows' ≡ length rows → ((u : ℕ) → u ≢ user → get_or rows' u [] ≡ get_or rows u []) → Tracks (get_or rows' user []) hole → HaveHoles rows holes → HaveHoles rows' (set holes user hole)
holes-other rows rows' holes user hole within long others one is = record {
  count = length-set holes user hole ∙ is.count ∙ sym long;
  each = λ u. elim (cases_eq u user) [
    | inl e ↦ rw (e, get_or-set_same holes user hole (OneGap no_gap) (omega (arith, within, is.count))) one
    | inr ne ↦ rw (others u ne, get_or-set_other holes user u hole (OneGap no_gap) ne) (is.each u)
  ];
}

pub hole-written : (holes : List Holes) (user : ℕ) (hole : Holes) → user < length holes → hole_of (set holes user hole) user ≡ hole
hole-written holes user hole within = get_or-set_same holes user hole (OneGap no_gap) within
