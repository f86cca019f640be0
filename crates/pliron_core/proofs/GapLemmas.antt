-- Lemmas on a row of places with free ones.
use Rattle.std.proofs.Common.{◌≡◌, ◌≢◌, ◌⊎◌, ℕ, zero, suc, ◌+◌, ◌-◌, ◌<◌, ◌≤◌, List, [], ◌∷◌, ◌++◌, length, take, set, Some, refl, sym, ap, ◌∙◌, subst, inl, inr, arith}
use Rattle.std.specs.List.{slice_get, remove}
use Rattle.std.proofs.lemmas.Bool.{cases_eq, eq-eqb, ne_eqb}
use Rattle.std.proofs.lemmas.Option.{slice_get_within}
use Rattle.pliron_core.specs.declared.use_slots.UseSlot.{UseSlot}
use Rattle.pliron_core.specs.declared.use_slots.Gap.{Gap}
use Rattle.pliron_core.specs.UseSlots.{no_target, targets_held, rank, free_place, HasGap}
use Rattle.pliron_core.proofs.TableLemmas.{set-same, set-other}

pub held-free : (p : UseSlot) (ps : List UseSlot) → p.target ≡ no_target → targets_held (p ∷ ps) ≡ targets_held ps
held-free p ps e = rw (eq-eqb p.target no_target e) refl

pub held-taken : (p : UseSlot) (ps : List UseSlot) → p.target ≢ no_target → targets_held (p ∷ ps) ≡ p.target ∷ targets_held ps
held-taken p ps ne = rw (ne_eqb p.target no_target ne) refl

pub rank-free : (p : UseSlot) (ps : List UseSlot) (n : ℕ) → p.target ≡ no_target → rank (p ∷ ps) (suc n) ≡ rank ps n
rank-free p ps n e = rw (eq-eqb p.target no_target e) refl

pub rank-taken : (p : UseSlot) (ps : List UseSlot) (n : ℕ) → p.target ≢ no_target → rank (p ∷ ps) (suc n) ≡ suc (rank ps n)
rank-taken p ps n ne = rw (ne_eqb p.target no_target ne) refl

pub same : {X : Type 0} {a b : X} → Some a ≡ Some b → a ≡ b
same e = cc

-- what follows the same place
pub held-more : (p : UseSlot) (ps qs : List UseSlot) → targets_held ps ≡ targets_held qs → targets_held (p ∷ ps) ≡ targets_held (p ∷ qs)
held-more p ps qs e = elim (cases_eq p.target no_target) [
  | inl h ↦ held-free p ps h ∙ e ∙ sym (held-free p qs h)
  | inr h ↦ held-taken p ps h ∙ ap (λ l. p.target ∷ l) e ∙ sym (held-taken p qs h)
]

pub held-push : (ps : List UseSlot) (p : UseSlot) → p.target ≢ no_target → targets_held (ps ++ p ∷ []) ≡ targets_held ps ++ p.target ∷ []
held-push [] p ne = held-taken p [] ne
held-push (q ∷ qs) p ne = elim (cases_eq q.target no_target) [
  | inl h ↦ held-free q (qs ++ p ∷ []) h ∙ held-push qs p ne ∙ ap (λ l. l ++ p.target ∷ []) (sym (held-free q qs h))
  | inr h ↦ held-taken q (qs ++ p ∷ []) h ∙ ap (λ l. q.target ∷ l) (held-push qs p ne) ∙ ap (λ l. l ++ p.target ∷ []) (sym (held-taken q qs h))
]

-- a taken place holds the target of its rank
pub held-at : (ps : List UseSlot) (n : ℕ) (p : UseSlot) → slice_get ps n ≡ Some p → p.target ≢ no_target → slice_get (targets_held ps) (rank ps n) ≡ Some p.target
held-at [] n p e ne = absurd (cc)
held-at (q ∷ qs) zero p e ne =
    let is : q ≡ p = same e in
    rw is (ap (λ l. slice_get l 0) (held-taken p qs ne))
held-at (q ∷ qs) (suc n) p e ne = elim (cases_eq q.target no_target) [
  | inl h ↦ ap (λ l. slice_get l (rank (q ∷ qs) (suc n))) (held-free q qs h) ∙ ap (slice_get (targets_held qs)) (rank-free q qs n h) ∙ held-at qs n p e ne
  | inr h ↦ ap (λ l. slice_get l (rank (q ∷ qs) (suc n))) (held-taken q qs h) ∙ ap (slice_get (q.target ∷ targets_held qs)) (rank-taken q qs n h) ∙ held-at qs n p e ne
]

-- the place that holds a target
pub record IsAt (ps : List UseSlot) (i target : ℕ) : Type 0 where
  pub n : ℕ
  pub p : UseSlot
  pub is : slice_get ps n ≡ Some p
  pub ranked : rank ps n ≡ i
  pub names : p.target ≡ target
  pub taken : p.target ≢ no_target

first-from : (q : UseSlot) (qs : List UseSlot) (target : ℕ) → ((i : ℕ) → slice_get (targets_held qs) i ≡ Some target → IsAt qs i target) → (i : ℕ) → slice_get (q.target ∷ targets_held qs) i ≡ Some target → q.target ≢ no_target → IsAt (q ∷ qs) i target
first-from q qs target rest zero e h = record { n = 0; p = q; is = refl; ranked = refl; names = same e; taken = h }
first-from q qs target rest (suc i) e h =
    let r = rest i e in
    record { n = suc r.n; p = r.p; is = r.is; ranked = rank-taken q qs r.n h ∙ ap suc r.ranked; names = r.names; taken = r.taken }

pub held-from : (ps : List UseSlot) (i target : ℕ) → slice_get (targets_held ps) i ≡ Some target → IsAt ps i target
held-from [] i target e = absurd (cc)
held-from (q ∷ qs) i target e = elim (cases_eq q.target no_target) [
  | inl h ↦
      let r = held-from qs i target (ap (λ l. slice_get l i) (sym (held-free q qs h)) ∙ e) in
      record { n = suc r.n; p = r.p; is = r.is; ranked = rank-free q qs r.n h ∙ r.ranked; names = r.names; taken = r.taken }
  | inr h ↦ first-from q qs target (λ k f. held-from qs k target f) i (ap (λ l. slice_get l i) (sym (held-taken q qs h)) ∙ e) h
]

pub rank-once : (ps : List UseSlot) (n m : ℕ) (p q : UseSlot) → slice_get ps n ≡ Some p → slice_get ps m ≡ Some q → p.target ≢ no_target → q.target ≢ no_target → rank ps n ≡ rank ps m → n ≡ m
rank-once [] n m p q e f np nq r = absurd (cc)
rank-once (x ∷ xs) zero zero p q e f np nq r = refl
rank-once (x ∷ xs) zero (suc m) p q e f np nq r =
    let is : x ≡ p = same e in
    let more : 0 ≡ suc (rank xs m) = r ∙ rank-taken x xs m (subst (λ z. z.target ≢ no_target) (sym is) np) in
    absurd (omega (arith, more))
rank-once (x ∷ xs) (suc n) zero p q e f np nq r =
    let is : x ≡ q = same f in
    let more : 0 ≡ suc (rank xs n) = sym r ∙ rank-taken x xs n (subst (λ z. z.target ≢ no_target) (sym is) nq) in
    absurd (omega (arith, more))
rank-once (x ∷ xs) (suc n) (suc m) p q e f np nq r = elim (cases_eq x.target no_target) [
  | inl h ↦ ap suc (rank-once xs n m p q e f np nq (sym (rank-free x xs n h) ∙ r ∙ rank-free x xs m h))
  | inr h ↦ let s : suc (rank xs n) ≡ suc (rank xs m) = sym (rank-taken x xs n h) ∙ r ∙ rank-taken x xs m h in ap suc (rank-once xs n m p q e f np nq (omega (arith, s)))
]

pub slice-some : {X : Type 0} (xs : List X) (n : ℕ) → n < length xs → (x : X) × (slice_get xs n ≡ Some x)
slice-some [] n h = absurd (omega arith)
slice-some (x ∷ xs) zero h = (x, refl)
slice-some (x ∷ xs) (suc n) h = slice-some xs n (omega arith)

rank-step_free : (ps : List UseSlot) (n : ℕ) (p : UseSlot) → slice_get ps n ≡ Some p → p.target ≡ no_target → rank ps (suc n) ≡ rank ps n
rank-step_free [] n p e h = absurd (cc)
rank-step_free (q ∷ qs) zero p e h =
    let is : q ≡ p = same e in
    rank-free q qs 0 (ap (λ z. z.target) is ∙ h) ∙ none qs
  where
    none : (ps : List UseSlot) → rank ps 0 ≡ 0
    none [] = refl
    none (p ∷ ps) = refl
rank-step_free (q ∷ qs) (suc n) p e h = elim (cases_eq q.target no_target) [
  | inl f ↦ rank-free q qs (suc n) f ∙ rank-step_free qs n p e h ∙ sym (rank-free q qs n f)
  | inr f ↦ rank-taken q qs (suc n) f ∙ ap suc (rank-step_free qs n p e h) ∙ sym (rank-taken q qs n f)
]

rank-step_taken : (ps : List UseSlot) (n : ℕ) (p : UseSlot) → slice_get ps n ≡ Some p → p.target ≢ no_target → rank ps (suc n) ≡ suc (rank ps n)
rank-step_taken [] n p e h = absurd (cc)
rank-step_taken (q ∷ qs) zero p e h =
    let is : q ≡ p = same e in
    rank-taken q qs 0 (subst (λ z. z.target ≢ no_target) (sym is) h) ∙ ap suc (none qs)
  where
    none : (ps : List UseSlot) → rank ps 0 ≡ 0
    none [] = refl
    none (p ∷ ps) = refl
rank-step_taken (q ∷ qs) (suc n) p e h = elim (cases_eq q.target no_target) [
  | inl f ↦ rank-free q qs (suc n) f ∙ rank-step_taken qs n p e h ∙ ap suc (sym (rank-free q qs n f))
  | inr f ↦ rank-taken q qs (suc n) f ∙ ap suc (rank-step_taken qs n p e h) ∙ ap suc (sym (rank-taken q qs n f))
]

pub rank-all : (ps : List UseSlot) → rank ps (length ps) ≡ length (targets_held ps)
rank-all [] = refl
rank-all (p ∷ ps) = elim (cases_eq p.target no_target) [
  | inl h ↦ rank-free p ps (length ps) h ∙ rank-all ps ∙ ap length (sym (held-free p ps h))
  | inr h ↦ rank-taken p ps (length ps) h ∙ ap suc (rank-all ps) ∙ ap length (sym (held-taken p ps h))
]

-- the rank of each place of a row with this gap
module _ (row : List UseSlot) (gap : Gap) (is : HasGap row gap) where
  pub rank-before : (n : ℕ) → n ≤ gap.start → rank row n ≡ n
  rank-before zero h = none row
    where
      none : (ps : List UseSlot) → rank ps 0 ≡ 0
      none [] = refl
      none (p ∷ ps) = refl
  rank-before (suc n) h =
      let s = slice-some row n (omega (arith, h, is.fits)) in
      rank-step_taken row n s.0 s.1 (is.before n s.0 s.1 (omega (arith, h))) ∙ ap suc (rank-before n (omega (arith, h)))

  rank-within : (m : ℕ) → m ≤ gap.len → rank row (gap.start + m) ≡ gap.start
  rank-within zero h =
      let none : gap.start + 0 ≡ gap.start = omega arith in
      ap (rank row) none ∙ rank-before gap.start (omega arith)
  rank-within (suc m) h =
      let s = slice-some row (gap.start + m) (omega (arith, h, is.fits)) in
      let next : gap.start + suc m ≡ suc (gap.start + m) = omega arith in
      ap (rank row) next ∙ rank-step_free row (gap.start + m) s.0 s.1 (is.free _ s.0 s.1 (omega arith) (omega (arith, h))) ∙ rank-within m (omega (arith, h))

  pub rank-behind : (m : ℕ) → gap.start + gap.len + m ≤ length row → rank row (gap.start + gap.len + m) ≡ gap.start + m
  rank-behind zero h =
      let none : gap.start + gap.len + 0 ≡ gap.start + gap.len = omega arith in
      let still : gap.start ≡ gap.start + 0 = omega arith in
      ap (rank row) none ∙ rank-within gap.len (omega arith) ∙ still
  rank-behind (suc m) h =
      let s = slice-some row (gap.start + gap.len + m) (omega (arith, h)) in
      let next : gap.start + gap.len + suc m ≡ suc (gap.start + gap.len + m) = omega arith in
      let more : suc (gap.start + m) ≡ gap.start + suc m = omega arith in
      ap (rank row) next ∙ rank-step_taken row _ s.0 s.1 (is.behind _ s.0 s.1 (omega arith)) ∙ ap suc (rank-behind m (omega (arith, h))) ∙ more

  pub held-length : length (targets_held row) + gap.len ≡ length row
  held-length =
      let m : ℕ = length row - (gap.start + gap.len) in
      let end : gap.start + gap.len + m ≡ length row = omega (arith, is.fits) in
      let all : rank row (gap.start + gap.len + m) ≡ gap.start + m = rank-behind m (omega (arith, end)) in
      let long : length (targets_held row) ≡ gap.start + m = sym (rank-all row) ∙ ap (rank row) (sym end) ∙ all in
      omega (arith, long, end)

  -- the place behind the gap, by its index
  pub behind-index : (n : ℕ) → gap.start + gap.len ≤ n → n ≤ length row → rank row n ≡ n - gap.len
  behind-index n h within =
      let m : ℕ = n - (gap.start + gap.len) in
      let is_n : gap.start + gap.len + m ≡ n = omega (arith, h) in
      let r : rank row (gap.start + gap.len + m) ≡ gap.start + m = rank-behind m (omega (arith, is_n, within)) in
      let q : rank row n ≡ gap.start + m = ap (rank row) (sym is_n) ∙ r in
      omega (arith, q, is_n)

  -- what a place before the gap holds, and one behind it
  pub target-before : (i : ℕ) (p : UseSlot) → i < gap.start → slice_get row i ≡ Some p → slice_get (targets_held row) i ≡ Some p.target
  target-before i p h e = ap (slice_get (targets_held row)) (sym (rank-before i (omega (arith, h)))) ∙ held-at row i p e (is.before i p e h)

  pub target-behind : (i : ℕ) (p : UseSlot) → gap.start ≤ i → slice_get row (i + gap.len) ≡ Some p → slice_get (targets_held row) i ≡ Some p.target
  target-behind i p h e =
      let within = slice_get_within row (i + gap.len) p e in
      let back : i + gap.len - gap.len ≡ i = omega arith in
      let r : rank row (i + gap.len) ≡ i = behind-index (i + gap.len) (omega (arith, h)) (omega (arith, within)) ∙ back in
      ap (slice_get (targets_held row)) (sym r) ∙ held-at row (i + gap.len) p e (is.behind _ p e (omega (arith, h)))

-- a taken place that is not before the gap is behind it
pub behind-taken : (row : List UseSlot) (gap : Gap) (is : HasGap row gap) (n : ℕ) (p : UseSlot) → slice_get row n ≡ Some p → p.target ≢ no_target → gap.start ≤ n → gap.start + gap.len ≤ n
behind-taken row gap is n p e real h = elim (side n) [
  | inl b ↦ absurd (real (is.free n p e h b))
  | inr b ↦ b
]
  where
    side : (n : ℕ) → (n < gap.start + gap.len) ⊎ (gap.start + gap.len ≤ n)
    side n = grind arith

-- a row where what stands at one place moved to another, free one
abbrev pub moved_row : List UseSlot → (from to : ℕ) → UseSlot → List UseSlot
moved_row row from to p = set (set row to p) from free_place

abbrev AreFree : List UseSlot → ℕ → ℕ → Type 0
AreFree row first last = (n : ℕ) (q : UseSlot) → slice_get row n ≡ Some q → first ≤ n → n < last → q.target ≡ no_target

fill-run : (row : List UseSlot) (to : ℕ) (p : UseSlot) → to < length row → AreFree row 0 (to + 1) → p.target ≢ no_target → targets_held (set row to p) ≡ p.target ∷ targets_held row
fill-run [] to p h free ne = absurd (omega arith)
fill-run (q ∷ qs) zero p h free ne = held-taken p qs ne ∙ ap (λ l. p.target ∷ l) (sym (held-free q qs (free 0 q refl (omega arith) (omega arith))))
fill-run (q ∷ qs) (suc to) p h free ne =
    let f = free 0 q refl (omega arith) (omega arith) in
    held-free q (set qs to p) f ∙ fill-run qs to p (omega (arith, h)) (λ n x e a b. free (suc n) x e (omega arith) (omega (arith, b))) ne ∙ ap (λ l. p.target ∷ l) (sym (held-free q qs f))

free-run : (row : List UseSlot) (from : ℕ) (p : UseSlot) → slice_get row from ≡ Some p → AreFree row 0 from → p.target ≢ no_target → targets_held row ≡ p.target ∷ targets_held (set row from free_place)
free-run [] from p e free ne = absurd (cc)
free-run (q ∷ qs) zero p e free ne =
    let is : q ≡ p = same e in
    rw is (held-taken p qs ne ∙ ap (λ l. p.target ∷ l) (sym (held-free free_place qs refl)))
free-run (q ∷ qs) (suc from) p e free ne =
    let f = free 0 q refl (omega arith) (omega arith) in
    held-free q qs f ∙ free-run qs from p e (λ n x e a b. free (suc n) x e (omega arith) (omega (arith, b))) ne ∙ ap (λ l. p.target ∷ l) (sym (held-free q (set qs from free_place) f))

-- to the front of the free places before it, and to the end of those behind it
pub held-lowered : (row : List UseSlot) (from to : ℕ) (p : UseSlot) → to < from → slice_get row from ≡ Some p → p.target ≢ no_target → AreFree row to from → targets_held (moved_row row from to p) ≡ targets_held row
held-lowered [] from to p h e ne free = absurd (cc)
held-lowered (q ∷ qs) zero to p h e ne free = absurd (omega (arith, h))
held-lowered (q ∷ qs) (suc from) zero p h e ne free =
    held-taken p (set qs from free_place) ne ∙ sym (free-run qs from p e (λ n x f a b. free (suc n) x f (omega arith) (omega (arith, b))) ne) ∙ sym (held-free q qs (free 0 q refl (omega arith) (omega (arith, h))))
held-lowered (q ∷ qs) (suc from) (suc to) p h e ne free =
    held-more q (moved_row qs from to p) qs (held-lowered qs from to p (omega (arith, h)) e ne (λ n x f a b. free (suc n) x f (omega (arith, a)) (omega (arith, b))))

pub held-raised : (row : List UseSlot) (from to : ℕ) (p : UseSlot) → from < to → to < length row → slice_get row from ≡ Some p → p.target ≢ no_target → AreFree row (from + 1) (to + 1) → targets_held (moved_row row from to p) ≡ targets_held row
held-raised [] from to p h w e ne free = absurd (omega (arith, w))
held-raised (q ∷ qs) from zero p h w e ne free = absurd (omega (arith, h))
held-raised (q ∷ qs) zero (suc to) p h w e ne free =
    let is : q ≡ p = same e in
    let first : targets_held (q ∷ qs) ≡ p.target ∷ targets_held qs = rw is (held-taken p qs ne) in
    held-free free_place (set qs to p) refl ∙ fill-run qs to p (omega (arith, w)) (λ n x f a b. free (suc n) x f (omega arith) (omega (arith, b))) ne ∙ sym first
held-raised (q ∷ qs) (suc from) (suc to) p h w e ne free =
    held-more q (moved_row qs from to p) qs (held-raised qs from to p (omega (arith, h)) (omega (arith, w)) e ne (λ n x f a b. free (suc n) x f (omega (arith, a)) (omega (arith, b))))

-- a place that names the same target again
pub held-same : (row : List UseSlot) (n : ℕ) (p q : UseSlot) → slice_get row n ≡ Some p → p.target ≡ q.target → targets_held (set row n q) ≡ targets_held row
held-same [] n p q e t = absurd (cc)
held-same (x ∷ xs) zero p q e t =
    let is : x ≡ p = same e in
    elim (cases_eq q.target no_target) [
      | inl h ↦ held-free q xs h ∙ sym (held-free x xs (ap (λ z. z.target) is ∙ t ∙ h))
      | inr h ↦ held-taken q xs h ∙ ap (λ z. z ∷ targets_held xs) (sym (ap (λ z. z.target) is ∙ t)) ∙ sym (held-taken x xs (λ f. h (sym (ap (λ z. z.target) is ∙ t) ∙ f)))
    ]
held-same (x ∷ xs) (suc n) p q e t = held-more x (set xs n q) xs (held-same xs n p q e t)

-- a taken place that becomes free
pub held-freed : (row : List UseSlot) (n : ℕ) (p : UseSlot) → slice_get row n ≡ Some p → p.target ≢ no_target → targets_held (set row n free_place) ≡ remove (targets_held row) (rank row n)
held-freed [] n p e ne = absurd (cc)
held-freed (x ∷ xs) zero p e ne =
    let is : x ≡ p = same e in
    let first : targets_held (x ∷ xs) ≡ p.target ∷ targets_held xs = rw is (held-taken p xs ne) in
    held-free free_place xs refl ∙ sym (ap (λ l. remove l 0) first)
held-freed (x ∷ xs) (suc n) p e ne = elim (cases_eq x.target no_target) [
  | inl h ↦ held-free x (set xs n free_place) h ∙ held-freed xs n p e ne ∙ ap (remove (targets_held xs)) (sym (rank-free x xs n h)) ∙ ap (λ l. remove l (rank (x ∷ xs) (suc n))) (sym (held-free x xs h))
  | inr h ↦ held-taken x (set xs n free_place) h ∙ ap (λ l. x.target ∷ l) (held-freed xs n p e ne) ∙ ap (remove (x.target ∷ targets_held xs)) (sym (rank-taken x xs n h)) ∙ ap (λ l. remove l (rank (x ∷ xs) (suc n))) (sym (held-taken x xs h))
]

-- free places at the end
pub all-free : (row : List UseSlot) → AreFree row 0 (length row) → targets_held row ≡ []
all-free [] free = refl
all-free (q ∷ qs) free = held-free q qs (free 0 q refl (omega arith) (omega arith)) ∙ all-free qs (λ n x e a b. free (suc n) x e (omega arith) (omega (arith, b)))

pub held-take : (row : List UseSlot) (n : ℕ) → AreFree row n (length row) → targets_held (take n row) ≡ targets_held row
held-take row zero free = sym (all-free row free)
held-take [] (suc n) free = refl
held-take (q ∷ qs) (suc n) free = held-more q (take n qs) qs (held-take qs n (λ k x e a b. free (suc k) x e (omega (arith, a)) (omega (arith, b))))

-- what stands in such a row
pub moved-cases : (row : List UseSlot) (from to n : ℕ) (p q x : UseSlot) → slice_get row from ≡ Some p → slice_get row to ≡ Some q → from ≢ to → slice_get (moved_row row from to p) n ≡ Some x
    → ((n ≡ from) × (x ≡ free_place)) ⊎ (((n ≡ to) × (x ≡ p)) ⊎ ((n ≢ from) × (n ≢ to) × (slice_get row n ≡ Some x)))
moved-cases row from to n p q x e f apart there =
    elim (cases_eq n from) [
      | inl h ↦
          let stood = set-other row to from p apart ∙ e in
          inl (h, same (sym there ∙ ap (slice_get (moved_row row from to p)) h ∙ set-same (set row to p) from free_place p stood))
      | inr h ↦ elim (cases_eq n to) [
        | inl g ↦ inr (inl (g, same (sym there ∙ set-other (set row to p) from n free_place h ∙ ap (slice_get (set row to p)) g ∙ set-same row to p q f)))
        | inr g ↦ inr (inr (h, g, sym (set-other row to n p g) ∙ sym (set-other (set row to p) from n free_place h) ∙ there))
      ]
    ]
