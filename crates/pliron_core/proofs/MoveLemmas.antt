-- Lemmas on uses that move to another target.
use Rattle.std.proofs.Common.{◌≡◌, ◌≢◌, ◌⊎◌, ℕ, zero, suc, ◌+◌, ◌-◌, ◌<◌, ◌≤◌, nat_lt, List, [], ◌∷◌, ◌++◌, length, map, get_or, set, Option, Some, None, refl, sym, ap, ◌∙◌, inl, inr, arith, zero-add, length-append}
use Rattle.std.specs.List.{slice_get, swap}
use Rattle.std.proofs.lemmas.List.Edits.{swap_is}
use Rattle.std.specs.Option.{option_map}
use Rattle.std.proofs.lemmas.Bool.{cases_eq, eq-eqb, ne_eqb}
use Rattle.std.proofs.lemmas.Bool.Decides.{nat_tests}
use Rattle.std.proofs.lemmas.Option.{slice_get_within}
use Rattle.std.proofs.lemmas.List.{get_or-set_same, get_or-set_other, length-set, get_or_default, length-map, set-get_or, set-set}
use Rattle.pliron_core.specs.declared.uses.Use.{Use}
use Rattle.pliron_core.specs.declared.use_slots.UseSlot.{UseSlot}
use Rattle.std.proofs.Math.ListN.{get_or-map}
use Rattle.pliron_core.specs.Uses.{replace_target}
use Rattle.pliron_core.specs.declared.use_slots.Holes.{Holes}
use Rattle.pliron_core.specs.UseSlots.{at, targets_held, mark_of, marks, marks_in, no_target, retarget_slot, IsLinked, targets_in, ranked_use, uses_in}
use Rattle.pliron_core.specs.Holes.{HaveHoles}
use Rattle.pliron_core.proofs.PlaceLemmas.{at-map}
use Rattle.pliron_core.proofs.GapLemmas.{held-free, held-taken}
use Rattle.pliron_core.proofs.CountLemmas.{mark-free, mark-taken}
use Rattle.pliron_core.proofs.HoleLemmas.{holes-same}
use Rattle.pliron_core.proofs.TableLemmas.{set-same, set-other, at-within, at-same, at-other}

shifted-here : (old new first k : ℕ) → retarget_slot old new first (k + 1) (record { target = old; at = k }) ≡ (let p : UseSlot = record { target = new; at = first + k } in p)
shifted-here old new first k = grind (arith, nat_tests)

shifted-other : (old new first k : ℕ) (p : UseSlot) → ((p.target ≡ old) → (p.at ≡ k) → ⊥) → retarget_slot old new first (k + 1) p ≡ retarget_slot old new first k p
shifted-other old new first k p other =
    elim (cases_eq p.target old) [
      | inl same ↦ let ne : p.at ≢ k = other same in let e : nat_lt p.at (k + 1) ≡ nat_lt p.at k = grind (arith, nat_tests) in rw e refl
      | inr differs ↦ rw (ne_eqb p.target old differs) refl
    ]

pub shifted-none : (old new first : ℕ) (p : UseSlot) → retarget_slot old new first 0 p ≡ p
shifted-none old new first p = grind (arith, nat_tests)

pub all_kept : (old new first : ℕ) (o : Option UseSlot) → o ≡ option_map (retarget_slot old new first 0) o
all_kept old new first None = refl
all_kept old new first (Some p) = ap Some (sym (shifted-none old new first p))

-- one more place names the new target
pub one_more : (old new first k : ℕ) (before rows : List (List UseSlot)) (moved : List Use) (one : Use)
    → ((u p : ℕ) → at rows u p ≡ option_map (retarget_slot old new first k) (at before u p))
    → slice_get moved k ≡ Some one → at before one.user one.place ≡ Some (record { target = old; at = k })
    → ((u p : ℕ) → at before u p ≡ Some (record { target = old; at = k }) → slice_get moved k ≡ Some (record { user = u; place = p }))
    → (u p : ℕ) → at (set rows one.user (set (get_or rows one.user []) one.place (record { target = new; at = first + k }))) u p ≡ option_map (retarget_slot old new first (k + 1)) (at before u p)
one_more old new first k before rows moved one each is listed placed u p =
    elim (cases_eq u one.user) [
      | inl eu ↦ elim (cases_eq p one.place) [
        | inl ep ↦ rw (eu, ep) (at-same rows one.user _ one.place within ∙ set-same (get_or rows one.user []) one.place _ _ here ∙ sym (ap (option_map (retarget_slot old new first (k + 1))) listed ∙ ap Some (shifted-here old new first k)))
        | inr np ↦ rw eu (at-same rows one.user _ p within ∙ set-other (get_or rows one.user []) one.place p _ np) ∙ kept (λ e. np (ap (λ z. z.place) e))
      ]
      | inr nu ↦ at-other rows one.user u _ p nu ∙ kept (λ e. nu (ap (λ z. z.user) e))
    ]
  where
    here : at rows one.user one.place ≡ Some (retarget_slot old new first k (record { target = old; at = k }))
    here = each one.user one.place ∙ ap (option_map (retarget_slot old new first k)) listed

    within : one.user < length rows
    within = at-within rows one.user one.place _ here

    same : (o : Option UseSlot) → at before u p ≡ o → ((let q : Use = record { user = u; place = p } in q) ≡ one → ⊥) → option_map (retarget_slot old new first k) o ≡ option_map (retarget_slot old new first (k + 1)) o
    same None e other = refl
    same (Some q) e other = ap Some (sym (shifted-other old new first k q (λ t i.
        let q_is : q ≡ record { target = old; at = k } = ap (λ z. let r : UseSlot = record { target = z; at = q.at } in r) t ∙ ap (λ z. let r : UseSlot = record { target = old; at = z } in r) i in
        let two : slice_get moved k ≡ Some (record { user = u; place = p }) = placed u p (e ∙ ap Some q_is) in
        other (same_use (sym two ∙ is)))))
      where
        same_use : {a b : Use} → Some a ≡ Some b → a ≡ b
        same_use e = cc

    kept : ((let q : Use = record { user = u; place = p } in q) ≡ one → ⊥) → at rows u p ≡ option_map (retarget_slot old new first (k + 1)) (at before u p)
    kept other = each u p ∙ same (at before u p) refl other

-- the place of a listed use stands in the tables
pub all_in_place : (old new first k : ℕ) (before rows : List (List UseSlot)) (u p : ℕ)
    → at rows u p ≡ option_map (retarget_slot old new first k) (at before u p) → at before u p ≡ Some (record { target = old; at = k })
    → (u < length rows) × (p < length (get_or rows u []))
all_in_place old new first k before rows u p each listed =
    let here : at rows u p ≡ Some (retarget_slot old new first k (record { target = old; at = k })) = each ∙ ap (option_map (retarget_slot old new first k)) listed in
    (at-within rows u p _ here, slice_get_within (get_or rows u []) p _ here)

pub one_written : (old new first k : ℕ) (before rows : List (List UseSlot)) (moved : List Use) (one : Use) (row row2 : List UseSlot)
    → ((u p : ℕ) → at rows u p ≡ option_map (retarget_slot old new first k) (at before u p))
    → slice_get moved k ≡ Some one → at before one.user one.place ≡ Some (record { target = old; at = k })
    → ((u p : ℕ) → at before u p ≡ Some (record { target = old; at = k }) → slice_get moved k ≡ Some (record { user = u; place = p }))
    → row ≡ get_or rows one.user row → row2 ≡ set row one.place (record { target = new; at = first + k })
    → (u p : ℕ) → at (set rows one.user row2) u p ≡ option_map (retarget_slot old new first (k + 1)) (at before u p)
one_written old new first k before rows moved one row row2 each is listed placed read written u p =
    let w = (all_in_place old new first k before rows one.user one.place (each one.user one.place) listed).0 in
    let row_is : row ≡ get_or rows one.user [] = read ∙ get_or_default rows one.user row [] w in
    rw (written, row_is) (one_more old new first k before rows moved one each is listed placed u p)

module _ {A : Type 0} where
  append-cases : (xs ys : List A) (i : ℕ) (y : A) → slice_get (xs ++ ys) i ≡ Some y → (slice_get xs i ≡ Some y) ⊎ ((j : ℕ) × (i ≡ length xs + j) × (slice_get ys j ≡ Some y))
  append-cases [] ys i y e = inr (i, omega arith, e)
  append-cases (x ∷ xs) ys zero y e = inl e
  append-cases (x ∷ xs) ys (suc i) y e = elim (append-cases xs ys i y e) [ inl h ↦ inl h | inr h ↦ inr (h.0, omega (arith, h.1), h.2) ]

  append-front : (xs ys : List A) (i : ℕ) (y : A) → slice_get xs i ≡ Some y → slice_get (xs ++ ys) i ≡ Some y
  append-front [] ys i y e = absurd (cc)
  append-front (x ∷ xs) ys zero y e = e
  append-front (x ∷ xs) ys (suc i) y e = append-front xs ys i y e

  append-back : (xs ys : List A) (j : ℕ) → slice_get (xs ++ ys) (length xs + j) ≡ slice_get ys j
  append-back [] ys j = ap (slice_get ys) (zero-add j)
  append-back (x ∷ xs) ys j = let e : suc (length xs) + j ≡ suc (length xs + j) = omega arith in ap (slice_get (x ∷ xs ++ ys)) e ∙ append-back xs ys j

  same-row : (xs ys : List A) → ((p : ℕ) → slice_get xs p ≡ slice_get ys p) → xs ≡ ys
  same-row [] [] same = refl
  same-row [] (y ∷ ys) same = absurd (let e = same 0 in cc)
  same-row (x ∷ xs) [] same = absurd (let e = same 0 in cc)
  same-row (x ∷ xs) (y ∷ ys) same = let e = same 0 in let h : x ≡ y = cc in let t : xs ≡ ys = same-row xs ys (λ p. same (suc p)) in cc

  pub same-rows : (xs ys : List (List A)) → length xs ≡ length ys → ((u p : ℕ) → at xs u p ≡ at ys u p) → xs ≡ ys
  same-rows [] [] long same = refl
  same-rows [] (y ∷ ys) long same = absurd (omega arith)
  same-rows (x ∷ xs) [] long same = absurd (omega arith)
  same-rows (x ∷ xs) (y ∷ ys) long same =
      let h : x ≡ y = same-row x y (λ p. same 0 p) in
      let t : xs ≡ ys = same-rows xs ys (omega arith) (λ u p. same (suc u) p) in cc

shifted-yes : (old new first n : ℕ) (p : UseSlot) → p.target ≡ old → p.at < n → retarget_slot old new first n p ≡ (let q : UseSlot = record { target = new; at = first + p.at } in q)
shifted-yes old new first n p same lt = grind (arith, nat_tests)

shifted-no : (old new first n : ℕ) (p : UseSlot) → p.target ≢ old → retarget_slot old new first n p ≡ p
shifted-no old new first n p differs = rw (ne_eqb p.target old differs) refl

some_is : {X : Type 0} {a b : X} → Some a ≡ Some b → a ≡ b
some_is e = cc

module _ (rows after : List (List UseSlot)) (lists : List (List Use)) (old new : ℕ) (is : IsLinked rows lists) (ho : old < length lists) (hn : new < length lists) (differ : old ≢ new)
    (each : (u p : ℕ) → at after u p ≡ option_map (retarget_slot old new (length (get_or lists new [])) (length (get_or lists old []))) (at rows u p)) where
  abbrev lists2 : List (List Use)
  lists2 = set (set lists old []) new (get_or lists new [] ++ get_or lists old [])

  at-new : (i : ℕ) → at lists2 new i ≡ slice_get (get_or lists new [] ++ get_or lists old []) i
  at-new i = at-same (set lists old []) new _ i (omega (arith, hn, length-set lists old []))

  at-old : (i : ℕ) → at lists2 old i ≡ None
  at-old i = at-other (set lists old []) new old _ i differ ∙ at-same lists old [] i ho

  at-rest : (t i : ℕ) → t ≢ old → t ≢ new → at lists2 t i ≡ at lists t i
  at-rest t i far nn = at-other (set lists old []) new t _ i nn ∙ at-other lists old t [] i far

  listed : (q : UseSlot) (u p : ℕ) → at rows u p ≡ Some q → q.target ≢ no_target → at lists q.target q.at ≡ Some (record { user = u; place = p })
  listed q u p e real = is.used u p q.target q.at e real

  old-real : old ≢ no_target
  old-real f = omega (arith, ho, is.few, f)

  new-real : new ≢ no_target
  new-real f = omega (arith, hn, is.few, f)

  -- a place that does not name `old` keeps its use
  kept : (u p t i : ℕ) → t ≢ old → at lists t i ≡ Some (record { user = u; place = p }) → at lists2 t i ≡ Some (record { user = u; place = p })
  kept u p t i far e = elim (cases_eq t new) [
    | inl same ↦ rw same (at-new i ∙ append-front (get_or lists new []) (get_or lists old []) i _ (ap (λ z. at lists z i) (sym same) ∙ e))
    | inr nn ↦ at-rest t i far nn ∙ e
  ]

  used_by : (o : Option UseSlot) (u p t i : ℕ) → at rows u p ≡ o → option_map (retarget_slot old new (length (get_or lists new [])) (length (get_or lists old []))) o ≡ Some (record { target = t; at = i }) → t ≢ no_target → at lists2 t i ≡ Some (record { user = u; place = p })
  used_by None u p t i e f real = absurd (cc)
  used_by (Some q) u p t i e f real =
      elim (cases_eq q.target old) [
        | inl same ↦
            let l : slice_get (get_or lists old []) q.at ≡ Some (record { user = u; place = p }) = ap (λ z. at lists z q.at) (sym same) ∙ listed q u p e (λ n. old-real (sym same ∙ n)) in
            let lt : q.at < length (get_or lists old []) = slice_get_within _ _ _ l in
            let to = some_is (sym f ∙ ap Some (shifted-yes old new _ _ q same lt)) in
            rw (ap (λ z. z.target) to, ap (λ z. z.at) to) (at-new _ ∙ append-back (get_or lists new []) (get_or lists old []) q.at ∙ l)
        | inr far ↦
            let to = some_is (sym f ∙ ap Some (shifted-no old new _ _ q far)) in
            rw (ap (λ z. z.target) to, ap (λ z. z.at) to) (kept u p q.target q.at far (listed q u p e (λ n. real (ap (λ z. z.target) to ∙ n))))
      ]

  stays : (u p t i : ℕ) → t ≢ old → at lists t i ≡ Some (record { user = u; place = p }) → at after u p ≡ Some (record { target = t; at = i })
  stays u p t i far e = each u p ∙ ap (option_map _) (is.placed t i u p e) ∙ ap Some (shifted-no old new _ _ (record { target = t; at = i }) far)

  placed_by : (t i u p : ℕ) → at lists2 t i ≡ Some (record { user = u; place = p }) → at after u p ≡ Some (record { target = t; at = i })
  placed_by t i u p e =
      elim (cases_eq t new) [
        | inl same ↦
            let there : slice_get (get_or lists new [] ++ get_or lists old []) i ≡ Some (record { user = u; place = p }) = sym (at-new i) ∙ ap (λ z. at lists2 z i) (sym same) ∙ e in
            elim (append-cases _ _ i _ there) [
              | inl h ↦ rw same (stays u p new i (λ f. differ (sym f)) h)
              | inr h ↦ rw (same, h.1) (each u p ∙ ap (option_map _) (is.placed old h.0 u p h.2) ∙ ap Some (shifted-yes old new _ _ (record { target = old; at = h.0 }) refl (slice_get_within _ _ _ h.2)))
            ]
        | inr nn ↦ elim (cases_eq t old) [
          | inl same ↦ let none : at lists2 t i ≡ None = ap (λ z. at lists2 z i) same ∙ at-old i in absurd (cc)
          | inr far ↦ stays u p t i far (sym (at-rest t i far nn) ∙ e)
        ]
      ]

  few : length lists2 ≤ no_target
  few = omega (arith, length-set (set lists old []) new (get_or lists new [] ++ get_or lists old []), length-set lists old [], is.few)

  pub linked-moved : IsLinked after lists2
  linked-moved = record { used = λ u p t i e. used_by (at rows u p) u p t i refl (sym (each u p) ∙ e); placed = placed_by; few = few }

  abbrev move : UseSlot → UseSlot
  move q = retarget_slot old new (length (get_or lists new [])) (length (get_or lists old [])) q

  -- what a place names after the move
  moved-target : (u p : ℕ) (q : UseSlot) → at rows u p ≡ Some q → (move q).target ≡ replace_target old new q.target
  moved-target u p q e =
      elim (cases_eq q.target old) [
        | inl same ↦
            let l : slice_get (get_or lists old []) q.at ≡ Some (record { user = u; place = p }) = ap (λ z. at lists z q.at) (sym same) ∙ listed q u p e (λ n. old-real (sym same ∙ n)) in
            ap (λ z. z.target) (shifted-yes old new _ _ q same (slice_get_within _ _ _ l)) ∙ sym (rw (eq-eqb q.target old same) refl)
        | inr far ↦ ap (λ z. z.target) (shifted-no old new _ _ q far) ∙ sym (rw (ne_eqb q.target old far) refl)
      ]

  -- it is taken as before
  move-free : (q : UseSlot) → q.target ≡ no_target → (move q).target ≡ no_target
  move-free q free = ap (λ z. z.target) (shifted-no old new _ _ q (λ s. old-real (sym s ∙ free))) ∙ free

  move-taken : (u p : ℕ) (q : UseSlot) → at rows u p ≡ Some q → q.target ≢ no_target → (move q).target ≢ no_target
  move-taken u p q e real f =
      elim (cases_eq q.target old) [
        | inl same ↦ new-real (sym (moved-target u p q e ∙ rw (eq-eqb q.target old same) refl) ∙ f)
        | inr far ↦ real (sym (ap (λ z. z.target) (shifted-no old new _ _ q far)) ∙ f)
      ]

  held-moved : (row : List UseSlot) → ((p : ℕ) (q : UseSlot) → slice_get row p ≡ Some q → (q.target ≢ no_target → (move q).target ≢ no_target) × ((move q).target ≡ replace_target old new q.target)) → targets_held (map move row) ≡ map (replace_target old new) (targets_held row)
  held-moved [] each = refl
  held-moved (q ∷ qs) each = elim (cases_eq q.target no_target) [
    | inl h ↦ held-free (move q) (map move qs) (move-free q h) ∙ held-moved qs (λ p x e. each (suc p) x e) ∙ ap (map (replace_target old new)) (sym (held-free q qs h))
    | inr h ↦
        let first = each 0 q refl in
        held-taken (move q) (map move qs) (first.0 h) ∙ ap (λ l. (move q).target ∷ l) (held-moved qs (λ p x e. each (suc p) x e)) ∙ ap (λ z. z ∷ map (replace_target old new) (targets_held qs)) first.1 ∙ ap (map (replace_target old new)) (sym (held-taken q qs h))
  ]

  moved-rows : length after ≡ length rows → after ≡ map (λ r. map move r) rows
  moved-rows long = same-rows after (map (λ r. map move r) rows) (long ∙ sym (length-map rows _)) (λ u p. each u p ∙ sym (at-map move rows u p))

  all-held : (some : List (List UseSlot)) → ((u : ℕ) → (p : ℕ) (q : UseSlot) → at some u p ≡ Some q → (q.target ≢ no_target → (move q).target ≢ no_target) × ((move q).target ≡ replace_target old new q.target)) → targets_in (map (λ r. map move r) some) ≡ map (map (replace_target old new)) (targets_in some)
  all-held [] each = refl
  all-held (r ∷ rs) each = let one = held-moved r (each 0) in let rest = all-held rs (λ u. each (suc u)) in rw (one, rest) refl

  pub targets-moved : length after ≡ length rows → targets_in after ≡ map (map (replace_target old new)) (targets_in rows)
  targets-moved long = ap targets_in (moved-rows long) ∙ all-held rows (λ u p q e. (move-taken u p q e, moved-target u p q e))

  -- the same places are taken
  marks-moved : (row : List UseSlot) → ((p : ℕ) (q : UseSlot) → slice_get row p ≡ Some q → q.target ≢ no_target → (move q).target ≢ no_target) → marks (map move row) ≡ marks row
  marks-moved [] taken = refl
  marks-moved (q ∷ qs) taken =
      let one : mark_of (move q) ≡ mark_of q = elim (cases_eq q.target no_target) [
        | inl h ↦ mark-free (move q) (move-free q h) ∙ sym (mark-free q h)
        | inr h ↦ mark-taken (move q) (taken 0 q refl h) ∙ sym (mark-taken q h)
      ] in
      let rest = marks-moved qs (λ p x e. taken (suc p) x e) in
      ap (λ m. m ∷ marks (map move qs)) one ∙ ap (λ l. mark_of q ∷ l) rest

  all-marks : (some : List (List UseSlot)) → ((u : ℕ) → (p : ℕ) (q : UseSlot) → at some u p ≡ Some q → q.target ≢ no_target → (move q).target ≢ no_target) → marks_in (map (λ r. map move r) some) ≡ marks_in some
  all-marks [] taken = refl
  all-marks (r ∷ rs) taken = let one = marks-moved r (taken 0) in let rest = all-marks rs (λ u. taken (suc u)) in rw (one, rest) refl

  pub holes-moved : (holes : List Holes) → length after ≡ length rows → HaveHoles rows holes → HaveHoles after holes
  holes-moved holes long has = holes-same rows after holes (ap marks_in (moved-rows long) ∙ all-marks rows (λ u p q e. move-taken u p q e)) has

-- what `replace` read and wrote in the lists of uses
pub record Reads (lists : List (List Use)) (old new : ℕ) (moved dest row index : List Use) : Type 0 where
  pub moved_is : moved ≡ get_or lists old []
  pub lists_is : set (set lists old dest) new row ≡ set (set lists old []) new (get_or lists new [] ++ get_or lists old [])
  pub first_is : length index - length moved ≡ length (get_or lists new [])
  pub fits : length index ≡ length (get_or lists new []) + length moved

pub reads : (lists : List (List Use)) (old new : ℕ) (moved was dest row before index : List Use) → old < length lists → new < length lists → old ≢ new
    → was ≡ get_or lists old was → moved ≡ was → dest ≡ [] → before ≡ get_or (set lists old dest) new before → row ≡ before ++ moved → index ≡ get_or (set (set lists old dest) new row) new index
    → Reads lists old new moved dest row index
reads lists old new moved was dest row before index ho hn differ r0 r1 empty r2 ext r3 =
    let m : moved ≡ get_or lists old [] = r1 ∙ r0 ∙ get_or_default lists old was [] ho in
    let ne : new ≢ old = λ e. differ (sym e) in
    let b : before ≡ get_or lists new [] = r2 ∙ get_or-set_other lists old new dest before ne ∙ get_or_default lists new before [] hn in
    let i : index ≡ row = r3 ∙ get_or-set_same (set lists old dest) new row index (omega (arith, hn, length-set lists old dest)) in
    let long : length index ≡ length before + length moved = ap length i ∙ ap length ext ∙ length-append before moved in
    record {
      moved_is = m;
      lists_is = rw (empty, ext, b, m) refl;
      first_is = omega (arith, long, ap length b);
      fits = omega (arith, long, ap length b);
    }

-- a list that was taken out is put back
pub put_back : (lists : List (List Use)) (old new : ℕ) (moved was dest row before : List Use) → old < length lists → new < length lists → old ≢ new
    → was ≡ get_or lists old was → moved ≡ was → before ≡ get_or (set lists old dest) new before → row ≡ before → set (set (set lists old dest) new row) old moved ≡ lists
put_back lists old new moved was dest row before ho hn differ r0 r1 r2 same =
    let b : row ≡ get_or (set lists old dest) new [] = same ∙ r2 ∙ get_or_default (set lists old dest) new before [] (omega (arith, hn, length-set lists old dest)) in
    let m : moved ≡ get_or lists old [] = r1 ∙ r0 ∙ get_or_default lists old was [] ho in
    rw (b, set-get_or (set lists old dest) new [], set-set, m) (set-get_or lists old [])

pub reword : (rows after : List (List UseSlot)) (old new a b m n : ℕ) → a ≡ m → b ≡ n → ((u p : ℕ) → at after u p ≡ option_map (retarget_slot old new a b) (at rows u p)) → (u p : ℕ) → at after u p ≡ option_map (retarget_slot old new m n) (at rows u p)
reword rows after old new a b m n e f each u p = each u p ∙ ap (λ z. option_map (retarget_slot old new z b) (at rows u p)) e ∙ ap (λ z. option_map (retarget_slot old new m z) (at rows u p)) f

no_items : {A B : Type 0} (f : A → B) (xs : List A) → map f xs ≡ [] → xs ≡ []
no_items f [] e = refl
no_items f (x ∷ xs) e = absurd (cc)

-- a target without uses, by what a contract sees
pub unused_is : (rows : List (List UseSlot)) (lists : List (List Use)) (target : ℕ) → get_or (uses_in rows lists) target [] ≡ [] → get_or lists target [] ≡ []
unused_is rows lists target none = no_items (ranked_use rows) (get_or lists target []) (sym (get_or-map (map (ranked_use rows)) lists target []) ∙ none)

-- what exchanging two lists of uses made of the lists, where `new` had none
pub record Handed (lists next : List (List Use)) (old new : ℕ) (index : List Use) : Type 0 where
  pub lists_is : next ≡ set (set lists old []) new (get_or lists new [] ++ get_or lists old [])
  pub index_is : index ≡ get_or lists old []
  pub none : 0 ≡ length (get_or lists new [])

pub handed : (lists next : List (List Use)) (old new : ℕ) (index : List Use) → old < length lists → new < length lists → get_or lists new [] ≡ []
    → next ≡ swap lists old new → index ≡ get_or next new index → Handed lists next old new index
handed lists next old new index ho hn empty swapped read =
    let all : next ≡ set (set lists old []) new (get_or lists old []) = swapped ∙ sym (swap_is lists old new [] ho hn) ∙ ap (λ l. set (set lists old l) new (get_or lists old [])) empty in
    let long : new < length (set lists old []) = omega (arith, hn, length-set lists old []) in
    record {
      lists_is = all ∙ ap (λ l. set (set lists old []) new (l ++ get_or lists old [])) (sym empty);
      index_is = read ∙ ap (λ l. get_or l new index) all ∙ get_or-set_same (set lists old []) new (get_or lists old []) index long;
      none = sym (ap length empty);
    }
