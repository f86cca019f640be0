-- Lemmas on the marks of a row, which say of each place whether it is taken.
use Rattle.std.proofs.Common.{◌≡◌, ◌≢◌, ℕ, zero, suc, ◌+◌, ◌≤◌, List, [], ◌∷◌, ◌++◌, length, take, set, Some, refl, sym, ap, ◌∙◌, inl, inr, arith}
use Rattle.std.specs.List.{slice_get, sum}
use Rattle.std.specs.Option.{option_map}
use Rattle.std.proofs.lemmas.Bool.{cases_eq, eq-eqb, ne_eqb}
use Rattle.std.proofs.lemmas.Option.{get_or_from_slice_get, slice_get_within, same_Some, slice_get-map}
use Rattle.std.proofs.lemmas.List.{length-map, map-set, take_all, map_more}
use Rattle.std.proofs.lemmas.List.Sums.{sum_by-cons}
use Rattle.pliron_core.specs.declared.use_slots.UseSlot.{UseSlot}
use Rattle.pliron_core.specs.UseSlots.{no_target, targets_held, rank, mark_of, marks}
use Rattle.pliron_core.specs.Counts.{AreMarks}
use Rattle.pliron_core.proofs.GapLemmas.{slice-some, rank-all}

pub mark-free : (p : UseSlot) → p.target ≡ no_target → mark_of p ≡ 0
mark-free p e = rw (eq-eqb p.target no_target e) refl

pub mark-taken : (p : UseSlot) → p.target ≢ no_target → mark_of p ≡ 1
mark-taken p ne = rw (ne_eqb p.target no_target ne) refl

-- one more mark
pub marks-more : (row : List UseSlot) (taken taken' : List ℕ) (i n : ℕ) (p : UseSlot) → taken ≡ marks (take i row) → slice_get row i ≡ Some p → taken' ≡ taken ++ n ∷ [] → n ≡ mark_of p → taken' ≡ marks (take (i + 1) row)
marks-more row taken taken' i n p is e more mark =
    more ∙ ap (λ l. l ++ n ∷ []) is ∙ ap (λ z. marks (take i row) ++ z ∷ []) (mark ∙ ap mark_of (sym (get_or_from_slice_get row i p p e))) ∙ sym (map_more mark_of row i p (slice_get_within row i p e))

pub marks-small : (row : List UseSlot) → AreMarks (marks row)
marks-small [] k d h = absurd (omega (arith, h))
marks-small (p ∷ ps) zero d h = elim (cases_eq p.target no_target) [ inl e ↦ omega (arith, mark-free p e) | inr ne ↦ omega (arith, mark-taken p ne) ]
marks-small (p ∷ ps) (suc k) d h = marks-small ps k d (omega (arith, h))

first-free : (p : UseSlot) (ps : List UseSlot) (n : ℕ) → p.target ≡ no_target → rank (p ∷ ps) (suc n) ≡ rank ps n
first-free p ps n e = rw (eq-eqb p.target no_target e) refl

first-taken : (p : UseSlot) (ps : List UseSlot) (n : ℕ) → p.target ≢ no_target → rank (p ∷ ps) (suc n) ≡ suc (rank ps n)
first-taken p ps n ne = rw (ne_eqb p.target no_target ne) refl

pub rank-marks : (row : List UseSlot) (n : ℕ) → rank row n ≡ sum (take n (marks row))
rank-marks [] zero = refl
rank-marks [] (suc n) = refl
rank-marks (p ∷ ps) zero = refl
rank-marks (p ∷ ps) (suc n) = elim (cases_eq p.target no_target) [
  | inl e ↦ first-free p ps n e ∙ omega (arith, rank-marks ps n, sum_by-cons (λ z. z) (mark_of p) (take n (marks ps)), mark-free p e)
  | inr ne ↦ first-taken p ps n ne ∙ omega (arith, rank-marks ps n, sum_by-cons (λ z. z) (mark_of p) (take n (marks ps)), mark-taken p ne)
]

pub held-marks : (row : List UseSlot) → length (targets_held row) ≡ sum (marks row)
held-marks row = sym (rank-all row) ∙ rank-marks row (length row) ∙ ap sum (take_all (length row) (marks row) (omega (arith, length-map row mark_of)))

pub held-most : (row : List UseSlot) → length (targets_held row) ≤ length row
held-most [] = omega arith
held-most (p ∷ ps) = elim (cases_eq p.target no_target) [
  | inl e ↦ rw (eq-eqb p.target no_target e) (omega (arith, held-most ps))
  | inr ne ↦ rw (ne_eqb p.target no_target ne) (omega (arith, held-most ps))
]

pub marks-set : (row : List UseSlot) (n : ℕ) (p : UseSlot) → marks (set row n p) ≡ set (marks row) n (mark_of p)
marks-set row n p = map-set mark_of row n p

-- a place with the mark 1 is taken, and the other way round
pub marked-taken : (row : List UseSlot) (n : ℕ) (p : UseSlot) → slice_get row n ≡ Some p → slice_get (marks row) n ≡ Some 1 → p.target ≢ no_target
marked-taken row n p is one e = absurd (omega (arith, mark-free p e, mark_at))
  where
    mark_at : mark_of p ≡ 1
    mark_at = same_Some (mark_of p) 1 (ap (option_map mark_of) (sym is) ∙ sym (slice_get-map mark_of row n) ∙ one)

pub taken-marked : (row : List UseSlot) (n : ℕ) (p : UseSlot) → slice_get row n ≡ Some p → p.target ≢ no_target → slice_get (marks row) n ≡ Some 1
taken-marked row n p is ne = slice_get-map mark_of row n ∙ ap (option_map mark_of) is ∙ ap Some (mark-taken p ne)

pub marked-there : (row : List UseSlot) (n : ℕ) → slice_get (marks row) n ≡ Some 1 → (p : UseSlot) × (slice_get row n ≡ Some p) × (p.target ≢ no_target)
marked-there row n one =
    let s = slice-some row n (omega (arith, slice_get_within (marks row) n 1 one, length-map row mark_of)) in
    (s.0, s.1, marked-taken row n s.0 s.1 one)
