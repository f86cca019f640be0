-- Lemmas on which places of a row are taken, by their marks.
use Rattle.std.proofs.Common.{◌≡◌, ◌≢◌, ℕ, zero, suc, ◌<◌, ◌≤◌, List, [], ◌∷◌, length, take, get_or, set, Some, refl, sym, ap, ◌∙◌, inl, inr, arith}
use Rattle.std.specs.List.{slice_get, sum}
use Rattle.std.proofs.lemmas.Option.{slice_get_within}
use Rattle.std.proofs.lemmas.Bool.{cases_eq}
use Rattle.std.proofs.lemmas.List.{length-map}
use Rattle.std.proofs.Math.ListN.{get_or-map}
use Rattle.pliron_core.specs.declared.use_slots.UseSlot.{UseSlot}
use Rattle.pliron_core.specs.declared.use_slots.Gap.{Gap}
use Rattle.pliron_core.specs.UseSlots.{no_target, mark_of, marks, marks_in, targets_held, rank, free_place, HasGap}
use Rattle.pliron_core.proofs.CountLemmas.{mark-free, mark-taken, rank-marks, marks-set, marked-there}
use Rattle.pliron_core.proofs.GapLemmas.{same, rank-free, rank-taken, held-at}

pub free-zero : (p : UseSlot) → mark_of p ≡ 0 → p.target ≡ no_target
free-zero p e = elim (cases_eq p.target no_target) [
  | inl h ↦ h
  | inr h ↦ let f : 1 ≡ 0 = sym (mark-taken p h) ∙ e in absurd (omega (arith, f))
]

pub taken-one : (p : UseSlot) → mark_of p ≡ 1 → p.target ≢ no_target
taken-one p e f = let g : 0 ≡ 1 = sym (mark-free p f) ∙ e in omega (arith, g)

pub mark-names : (p q : UseSlot) → p.target ≡ q.target → mark_of p ≡ mark_of q
mark-names p q e = elim (cases_eq q.target no_target) [
  | inl h ↦ mark-free p (e ∙ h) ∙ sym (mark-free q h)
  | inr h ↦ mark-taken p (λ f. h (sym e ∙ f)) ∙ sym (mark-taken q h)
]

pub row-marks : (rows : List (List UseSlot)) (user : ℕ) → get_or (marks_in rows) user [] ≡ marks (get_or rows user [])
row-marks rows user = get_or-map marks rows user []

-- a place that names the same target again, and one that becomes free
pub marks-same : (row : List UseSlot) (n : ℕ) (p q : UseSlot) → slice_get row n ≡ Some p → p.target ≡ q.target → marks (set row n q) ≡ marks row
marks-same [] n p q e t = absurd (cc)
marks-same (x ∷ xs) zero p q e t =
    let is : x ≡ p = same e in
    ap (λ m. m ∷ marks xs) (mark-names q x (sym t ∙ ap (λ z. z.target) (sym is)))
marks-same (x ∷ xs) (suc n) p q e t = ap (λ l. mark_of x ∷ l) (marks-same xs n p q e t)

pub marks-freed : (row : List UseSlot) (n : ℕ) → marks (set row n free_place) ≡ set (marks row) n 0
marks-freed row n = marks-set row n free_place

-- what stands in a row with the same marks
pub was-marked : (row row' : List UseSlot) → marks row' ≡ marks row → (n : ℕ) (x : UseSlot) → slice_get row' n ≡ Some x → (y : UseSlot) × (slice_get row n ≡ Some y) × (mark_of y ≡ mark_of x)
was-marked row [] e n x f = absurd (cc)
was-marked [] (x ∷ xs) e n y f = absurd (cc)
was-marked (y ∷ ys) (x ∷ xs) e zero z f =
    let is : x ≡ z = same f in
    let marked : mark_of x ≡ mark_of y = cc in
    (y, refl, sym marked ∙ ap mark_of is)
was-marked (y ∷ ys) (x ∷ xs) e (suc n) z f = let rest : marks xs ≡ marks ys = cc in was-marked ys xs rest n z f

pub gap-marks : (row row' : List UseSlot) (gap : Gap) → marks row' ≡ marks row → HasGap row gap → HasGap row' gap
gap-marks row row' gap e has = record {
  fits = omega (arith, has.fits, ap length e, length-map row mark_of, length-map row' mark_of);
  free = λ n p f a b. let w = was-marked row row' e n p f in free-zero p (sym w.2 ∙ mark-free w.0 (has.free n w.0 w.1 a b));
  before = λ n p f a. let w = was-marked row row' e n p f in taken-one p (sym w.2 ∙ mark-taken w.0 (has.before n w.0 w.1 a));
  behind = λ n p f a. let w = was-marked row row' e n p f in taken-one p (sym w.2 ∙ mark-taken w.0 (has.behind n w.0 w.1 a));
}

-- a place that counts find
pub mark-within : (row : List UseSlot) (counts : List ℕ) (place m : ℕ) → marks row ≡ counts → slice_get counts place ≡ Some m → place < length row
mark-within row counts place m e one = omega (arith, slice_get_within counts place m one, ap length e, length-map row mark_of)

pub mark-place : (row : List UseSlot) (counts : List ℕ) (place : ℕ) → marks row ≡ counts → slice_get counts place ≡ Some 1 → (p : UseSlot) × (slice_get row place ≡ Some p) × (p.target ≢ no_target)
mark-place row counts place e one = marked-there row place (ap (λ l. slice_get l place) e ∙ one)

pub rank-counts : (row : List UseSlot) (counts : List ℕ) (place i : ℕ) → marks row ≡ counts → sum (take place counts) ≡ i → rank row place ≡ i
rank-counts row counts place i e before = rank-marks row place ∙ ap (λ l. sum (take place l)) e ∙ before

pub mark-target : (row : List UseSlot) (counts : List ℕ) (place i : ℕ) (p : UseSlot) → marks row ≡ counts → slice_get counts place ≡ Some 1 → sum (take place counts) ≡ i → slice_get row place ≡ Some p → slice_get (targets_held row) i ≡ Some p.target
mark-target row counts place i p e one before here =
    let s = mark-place row counts place e one in
    let is : p ≡ s.0 = same (sym here ∙ s.1) in
    let ranked : rank row place ≡ i = rank-counts row counts place i e before in
    ap (slice_get (targets_held row)) (sym ranked) ∙ held-at row place p here (λ f. s.2 (sym (ap (λ z. z.target) is) ∙ f))

pub rank-take : (row : List UseSlot) (n m : ℕ) → m ≤ n → rank (take n row) m ≡ rank row m
rank-take row n zero h = none (take n row) ∙ sym (none row)
  where
    none : (ps : List UseSlot) → rank ps 0 ≡ 0
    none [] = refl
    none (p ∷ ps) = refl
rank-take row zero (suc m) h = absurd (omega (arith, h))
rank-take [] (suc n) (suc m) h = refl
rank-take (p ∷ ps) (suc n) (suc m) h = rw (rank-take ps n m (omega (arith, h))) refl

pub rank-alike : (row row' : List UseSlot) (n : ℕ) → marks row' ≡ marks row → rank row' n ≡ rank row n
rank-alike [] [] n e = refl
rank-alike [] (x ∷ xs) n e = absurd (cc)
rank-alike (y ∷ ys) [] n e = absurd (cc)
rank-alike (y ∷ ys) (x ∷ xs) zero e = refl
rank-alike (y ∷ ys) (x ∷ xs) (suc n) e =
    let marked : mark_of x ≡ mark_of y = cc in
    let rest : marks xs ≡ marks ys = cc in
    elim (cases_eq y.target no_target) [
      | inl h ↦ rank-free x xs n (free-zero x (marked ∙ mark-free y h)) ∙ rank-alike ys xs n rest ∙ sym (rank-free y ys n h)
      | inr h ↦ rank-taken x xs n (taken-one x (marked ∙ mark-taken y h)) ∙ ap suc (rank-alike ys xs n rest) ∙ sym (rank-taken y ys n h)
    ]
