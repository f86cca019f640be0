-- Lemmas on a user whose slots are freed one after another.
use Rattle.std.proofs.Common.{◌≡◌, ℕ, ◌+◌, ◌<◌, ◌≤◌, List, [], ◌∷◌, length, get_or, set, Some, refl, sym, ap, ◌∙◌, inl, inr, arith}
use Rattle.std.specs.List.{slice_get}
use Rattle.std.specs.Option.{option_map}
use Rattle.std.proofs.lemmas.Bool.{cases_eq}
use Rattle.std.proofs.lemmas.Option.{slice_get_within, slice_get-map}
use Rattle.std.proofs.lemmas.List.{get_or-set_same, length-map, length-set, set-get_or}
use Rattle.pliron_core.specs.declared.uses.Use.{Use}
use Rattle.pliron_core.specs.declared.use_slots.UseSlot.{UseSlot}
use Rattle.pliron_core.specs.declared.use_slots.Holes.{Holes}
use Rattle.pliron_core.specs.declared.use_slots.Holes.TheVariants.{OneGap}
use Rattle.pliron_core.specs.UseSlots.{at, mark_of, marks, marks_in, no_target, targets_held, targets_in, IsLinked}
use Rattle.pliron_core.specs.Holes.{gap_in, counted_in, HaveHoles}
use Rattle.pliron_core.proofs.CarryLemmas.{written_again}
use Rattle.pliron_core.proofs.CountLemmas.{mark-free}
use Rattle.pliron_core.proofs.GapLemmas.{same, slice-some, all-free}
use Rattle.pliron_core.proofs.HoleLemmas.{gap-first, holes-marked, hole-written, row-marked}
use Rattle.pliron_core.proofs.MarkLemmas.{free-zero}
use Rattle.pliron_core.proofs.PlaceLemmas.{row-targets}
use Rattle.pliron_core.proofs.SettleLemmas.{Settled}
use Rattle.pliron_core.proofs.TableLemmas.{at-within, set-same, set-other}

empty-row : (row : List UseSlot) → length row ≡ 0 → row ≡ []
empty-row [] e = refl
empty-row (p ∷ ps) e = absurd (omega (arith, e))

-- a user without slots has no targets to lose
pub cleared-already : (rows : List (List UseSlot)) (user : ℕ) → length (get_or rows user []) ≡ 0 → targets_in rows ≡ set (targets_in rows) user []
cleared-already rows user none =
    sym (set-get_or (targets_in rows) user []) ∙ ap (set (targets_in rows) user) (row-targets rows user ∙ ap targets_held (empty-row (get_or rows user []) none))

-- so many slots of the user were reached, and these are free
pub record IsCleared (rows rows' : List (List UseSlot)) (lists lists' : List (List Use)) (user n : ℕ) : Type 0 where
  pub linked : IsLinked rows' lists'
  pub targets : targets_in rows' ≡ set (targets_in rows) user (get_or (targets_in rows') user [])
  pub marked : marks_in rows' ≡ set (marks_in rows) user (get_or (marks_in rows') user [])
  pub long : length (get_or rows' user []) ≡ length (get_or rows user [])
  pub free : (k : ℕ) (p : UseSlot) → at rows' user k ≡ Some p → k < n → p.target ≡ no_target
  pub count : length lists' ≡ length lists

pub cleared-none : (rows : List (List UseSlot)) (lists : List (List Use)) (user : ℕ) → IsLinked rows lists → IsCleared rows rows lists lists user 0
cleared-none rows lists user is = record {
  linked = is;
  targets = sym (set-get_or (targets_in rows) user []);
  marked = sym (set-get_or (marks_in rows) user []);
  long = refl;
  free = λ k p e h. absurd (omega (arith, h));
  count = refl;
}

module _ (rows rows' : List (List UseSlot)) (lists lists' : List (List Use)) (user n : ℕ) (p : UseSlot) (is : IsCleared rows rows' lists lists' user n) (here : at rows' user n ≡ Some p) where
  -- a free slot stays
  pub cleared-stays : p.target ≡ no_target → IsCleared rows rows' lists lists' user (n + 1)
  cleared-stays none = record {
    linked = is.linked;
    targets = is.targets;
    marked = is.marked;
    long = is.long;
    free = λ k q e h. elim (cases_eq k n) [
      | inl it ↦ ap (λ z. z.target) (same (sym e ∙ ap (at rows' user) it ∙ here)) ∙ none
      | inr other ↦ is.free k q e (omega (arith, h, other))
    ];
    count = is.count;
  }

  module _ (within : user < length rows) (rows'' : List (List UseSlot)) (lists'' : List (List Use)) (linked : IsLinked rows'' lists'') (row : List ℕ)
      (written : targets_in rows'' ≡ set (targets_in rows') user row) (freed : marks_in rows'' ≡ set (marks_in rows') user (set (marks (get_or rows' user [])) n 0)) (kept_count : length lists'' ≡ length lists') where
    abbrev before : List ℕ
    before = marks (get_or rows' user [])

    marks_are : marks (get_or rows'' user []) ≡ set before n 0
    marks_are = row-marked rows' rows'' user (set before n 0) (at-within rows' user n p here) freed

    zero_at : (k : ℕ) (q : UseSlot) → at rows'' user k ≡ Some q → k < n + 1 → mark_of q ≡ 0
    zero_at k q e h =
        let seen : slice_get (set before n 0) k ≡ Some (mark_of q) = ap (λ l. slice_get l k) (sym marks_are) ∙ slice_get-map mark_of (get_or rows'' user []) k ∙ ap (option_map mark_of) e in
        elim (cases_eq k n) [
          | inl it ↦
              let there : slice_get before n ≡ Some (mark_of p) = slice_get-map mark_of (get_or rows' user []) n ∙ ap (option_map mark_of) here in
              same (sym seen ∙ ap (slice_get (set before n 0)) it ∙ set-same before n 0 (mark_of p) there)
          | inr other ↦
              let was : slice_get before k ≡ Some (mark_of q) = sym (set-other before n k 0 other) ∙ seen in
              let y = slice-some (get_or rows' user []) k (omega (arith, slice_get_within before k (mark_of q) was, length-map (get_or rows' user []) mark_of)) in
              let there : slice_get before k ≡ Some (mark_of y.0) = slice_get-map mark_of (get_or rows' user []) k ∙ ap (option_map mark_of) y.1 in
              same (sym was ∙ there) ∙ mark-free y.0 (is.free k y.0 y.1 (omega (arith, h, other)))
        ]

    -- a taken one is freed
    pub cleared-more : IsCleared rows rows'' lists lists'' user (n + 1)
    cleared-more = record {
      linked = linked;
      targets = written_again (targets_in rows) (targets_in rows') (targets_in rows'') user row (omega (arith, within, length-map rows targets_held)) is.targets written;
      marked = written_again (marks_in rows) (marks_in rows') (marks_in rows'') user (set before n 0) (omega (arith, within, length-map rows marks)) is.marked freed;
      long = sym (length-map (get_or rows'' user []) mark_of) ∙ ap length marks_are ∙ length-set before n 0 ∙ length-map (get_or rows' user []) mark_of ∙ is.long;
      free = λ k q e h. free-zero q (zero_at k q e h);
      count = kept_count ∙ is.count;
    }

-- all of them are free
pub cleared-all : (rows rows' : List (List UseSlot)) (lists lists' : List (List Use)) (user n : ℕ) → IsCleared rows rows' lists lists' user n → length (get_or rows user []) ≤ n → targets_in rows' ≡ set (targets_in rows) user []
cleared-all rows rows' lists lists' user n is all =
    is.targets ∙ ap (set (targets_in rows) user) (row-targets rows' user ∙ all-free (get_or rows' user []) (λ k q e a b. is.free k q e (omega (arith, b, is.long, all))))

pub cleared-free : (rows rows' : List (List UseSlot)) (lists lists' : List (List Use)) (user n : ℕ) → IsCleared rows rows' lists lists' user n → length (get_or rows user []) ≤ n → (k : ℕ) (p : UseSlot) → at rows' user k ≡ Some p → p.target ≡ no_target
cleared-free rows rows' lists lists' user n is all k p e = is.free k p e (omega (arith, slice_get_within (get_or rows' user []) k p e, is.long, all))

-- the gap over all slots of the user
pub cleared-hole : (rows rows' : List (List UseSlot)) (holes : List Holes) (user len : ℕ) → user < length holes → targets_in rows' ≡ set (targets_in rows) user [] → marks_in rows' ≡ set (marks_in rows) user (get_or (marks_in rows') user [])
    → len ≡ length (get_or rows' user []) → ((n : ℕ) (p : UseSlot) → at rows' user n ≡ Some p → p.target ≡ no_target) → HaveHoles rows holes → Settled rows' (set holes user (OneGap (record { start = 0; len = len }))) user
cleared-hole rows rows' holes user len within targets marked long free all =
    let hole : Holes = OneGap (record { start = 0; len = len }) in
    let written = hole-written holes user (OneGap (record { start = 0; len = len })) within in
    let inside : user < length rows = omega (arith, within, all.count) in
    let none : targets_held (get_or rows' user []) ≡ [] = sym (row-targets rows' user) ∙ ap (λ t. get_or t user []) targets ∙ get_or-set_same (targets_in rows) user [] [] (omega (arith, inside, length-map rows targets_held)) in
    record {
      have = holes-marked rows rows' holes user (get_or (marks_in rows') user []) hole inside marked (gap-first (get_or rows' user []) 0 len (omega arith) (omega (arith, long)) (λ n p e a. absurd (omega (arith, a))) (λ n p e a. free n p e)) all;
      within = omega (arith, within, length-set holes user (OneGap (record { start = 0; len = len })));
      gapped = ap counted_in written;
      end = ap (λ h. (gap_in h).start) written ∙ ap length (sym none);
    }
