-- Lemmas on rows of which the taken places move, in the same order.
use Rattle.std.proofs.Common.{◌≡◌, ◌≢◌, ◌⊎◌, ℕ, zero, suc, ◌+◌, ◌-◌, ◌<◌, ◌≤◌, List, [], ◌∷◌, length, map, get_or, set, Option, Some, None, refl, sym, ap, ◌∙◌, subst, inl, inr, arith, if◌then◌else◌, nat_eq}
use Rattle.std.specs.List.{slice_get}
use Rattle.std.proofs.lemmas.Bool.{cases_eq, eq-eqb, ne_eqb}
use Rattle.std.proofs.lemmas.Option.{slice_get_within}
use Rattle.std.proofs.lemmas.List.{map-set, set-get_or, length-set, length-map, get_or-set_same, get_or-set_other}
use Rattle.std.proofs.Math.ListN.{get_or-map}
use Rattle.pliron_core.specs.declared.uses.Use.{Use}
use Rattle.pliron_core.specs.declared.use_slots.UseSlot.{UseSlot}
use Rattle.pliron_core.specs.declared.use_slots.Gap.{Gap}
use Rattle.pliron_core.specs.UseSlots.{at, put, targets_held, rank, no_target, free_place, targets_in, uses_in, ranked_use, HasGap, IsLinked}
use Rattle.pliron_core.proofs.TableLemmas.{at-within}
use Rattle.pliron_core.proofs.PlaceLemmas.{seen-from, use-seen, target-real}
use Rattle.pliron_core.proofs.GapLemmas.{same, held-free, held-taken, moved_row, moved-cases, held-length, slice-some}
use Rattle.pliron_core.proofs.RelocateLemmas.{relocated-rows, held-kept}

-- the taken places of a row, in order
abbrev pub kept : List UseSlot → List UseSlot
kept [] = []
kept (p ∷ ps) = if nat_eq p.target no_target then kept ps else p ∷ kept ps

pub kept-free : (p : UseSlot) (ps : List UseSlot) → p.target ≡ no_target → kept (p ∷ ps) ≡ kept ps
kept-free p ps e = rw (eq-eqb p.target no_target e) refl

pub kept-taken : (p : UseSlot) (ps : List UseSlot) → p.target ≢ no_target → kept (p ∷ ps) ≡ p ∷ kept ps
kept-taken p ps ne = rw (ne_eqb p.target no_target ne) refl

rank-free : (p : UseSlot) (ps : List UseSlot) (n : ℕ) → p.target ≡ no_target → rank (p ∷ ps) (suc n) ≡ rank ps n
rank-free p ps n e = rw (eq-eqb p.target no_target e) refl

rank-taken : (p : UseSlot) (ps : List UseSlot) (n : ℕ) → p.target ≢ no_target → rank (p ∷ ps) (suc n) ≡ suc (rank ps n)
rank-taken p ps n ne = rw (ne_eqb p.target no_target ne) refl

kept-more : (p : UseSlot) (ps qs : List UseSlot) → kept ps ≡ kept qs → kept (p ∷ ps) ≡ kept (p ∷ qs)
kept-more p ps qs e = elim (cases_eq p.target no_target) [
  | inl h ↦ kept-free p ps h ∙ e ∙ sym (kept-free p qs h)
  | inr h ↦ kept-taken p ps h ∙ ap (λ l. p ∷ l) e ∙ sym (kept-taken p qs h)
]

-- a taken place stands at its rank
kept-at : (ps : List UseSlot) (n : ℕ) (p : UseSlot) → slice_get ps n ≡ Some p → p.target ≢ no_target → slice_get (kept ps) (rank ps n) ≡ Some p
kept-at [] n p e ne = absurd (cc)
kept-at (q ∷ qs) zero p e ne =
    let is : q ≡ p = same e in
    rw is (ap (λ l. slice_get l 0) (kept-taken p qs ne))
kept-at (q ∷ qs) (suc n) p e ne = elim (cases_eq q.target no_target) [
  | inl h ↦ ap (λ l. slice_get l (rank (q ∷ qs) (suc n))) (kept-free q qs h) ∙ ap (slice_get (kept qs)) (rank-free q qs n h) ∙ kept-at qs n p e ne
  | inr h ↦ ap (λ l. slice_get l (rank (q ∷ qs) (suc n))) (kept-taken q qs h) ∙ ap (slice_get (q ∷ kept qs)) (rank-taken q qs n h) ∙ kept-at qs n p e ne
]

-- where a taken place of this rank stands
record IsKept (ps : List UseSlot) (i : ℕ) (p : UseSlot) : Type 0 where
  pub n : ℕ
  pub is : slice_get ps n ≡ Some p
  pub ranked : rank ps n ≡ i

first-from : (q : UseSlot) (qs : List UseSlot) (p : UseSlot) → ((i : ℕ) → slice_get (kept qs) i ≡ Some p → IsKept qs i p) → (i : ℕ) → slice_get (q ∷ kept qs) i ≡ Some p → q.target ≢ no_target → IsKept (q ∷ qs) i p
first-from q qs p rest zero e h = record { n = 0; is = e; ranked = refl }
first-from q qs p rest (suc i) e h = let r = rest i e in record { n = suc r.n; is = r.is; ranked = rank-taken q qs r.n h ∙ ap suc r.ranked }

kept-from : (ps : List UseSlot) (i : ℕ) (p : UseSlot) → slice_get (kept ps) i ≡ Some p → IsKept ps i p
kept-from [] i p e = absurd (cc)
kept-from (q ∷ qs) i p e = elim (cases_eq q.target no_target) [
  | inl h ↦ let r = kept-from qs i p (ap (λ l. slice_get l i) (sym (kept-free q qs h)) ∙ e) in record { n = suc r.n; is = r.is; ranked = rank-free q qs r.n h ∙ r.ranked }
  | inr h ↦ first-from q qs p (λ k f. kept-from qs k p f) i (ap (λ l. slice_get l i) (sym (kept-taken q qs h)) ∙ e) h
]

abbrev AreFree : List UseSlot → ℕ → ℕ → Type 0
AreFree row first last = (n : ℕ) (q : UseSlot) → slice_get row n ≡ Some q → first ≤ n → n < last → q.target ≡ no_target

free-run : (row : List UseSlot) (from : ℕ) (p : UseSlot) → slice_get row from ≡ Some p → AreFree row 0 from → p.target ≢ no_target → kept row ≡ p ∷ kept (set row from free_place)
free-run [] from p e free ne = absurd (cc)
free-run (q ∷ qs) zero p e free ne =
    let is : q ≡ p = same e in
    rw is (kept-taken p qs ne ∙ ap (λ l. p ∷ l) (sym (kept-free free_place qs refl)))
free-run (q ∷ qs) (suc from) p e free ne =
    let f = free 0 q refl (omega arith) (omega arith) in
    kept-free q qs f ∙ free-run qs from p e (λ n x e a b. free (suc n) x e (omega arith) (omega (arith, b))) ne ∙ ap (λ l. p ∷ l) (sym (kept-free q (set qs from free_place) f))

-- to the front of the free places before it
kept-lowered : (row : List UseSlot) (from to : ℕ) (p : UseSlot) → to < from → slice_get row from ≡ Some p → p.target ≢ no_target → AreFree row to from → kept (moved_row row from to p) ≡ kept row
kept-lowered [] from to p h e ne free = absurd (cc)
kept-lowered (q ∷ qs) zero to p h e ne free = absurd (omega (arith, h))
kept-lowered (q ∷ qs) (suc from) zero p h e ne free =
    kept-taken p (set qs from free_place) ne ∙ sym (free-run qs from p e (λ n x f a b. free (suc n) x f (omega arith) (omega (arith, b))) ne) ∙ sym (kept-free q qs (free 0 q refl (omega arith) (omega (arith, h))))
kept-lowered (q ∷ qs) (suc from) (suc to) p h e ne free =
    kept-more q (moved_row qs from to p) qs (kept-lowered qs from to p (omega (arith, h)) e ne (λ n x f a b. free (suc n) x f (omega (arith, a)) (omega (arith, b))))

-- the same taken places in the same order: the same targets
held-targets : (row : List UseSlot) → targets_held row ≡ map (λ p. p.target) (kept row)
held-targets [] = refl
held-targets (p ∷ ps) = elim (cases_eq p.target no_target) [
  | inl h ↦ held-free p ps h ∙ held-targets ps ∙ ap (map (λ z. z.target)) (sym (kept-free p ps h))
  | inr h ↦ held-taken p ps h ∙ ap (λ l. p.target ∷ l) (held-targets ps) ∙ ap (map (λ z. z.target)) (sym (kept-taken p ps h))
]

targets-kept : (rows : List (List UseSlot)) → targets_in rows ≡ map (map (λ p. p.target)) (map kept rows)
targets-kept [] = refl
targets-kept (r ∷ rs) = rw (held-targets r, targets-kept rs) refl

pub same-targets : (rows rows' : List (List UseSlot)) → map kept rows' ≡ map kept rows → targets_in rows' ≡ targets_in rows
same-targets rows rows' e = targets-kept rows' ∙ ap (map (map (λ p. p.target))) e ∙ sym (targets-kept rows)

same-entries : {X : Type 0} (xs ys : List X) → ((k : ℕ) → slice_get xs k ≡ slice_get ys k) → xs ≡ ys
same-entries [] [] e = refl
same-entries [] (y ∷ ys) e = let f = e 0 in absurd (cc)
same-entries (x ∷ xs) [] e = let f = e 0 in absurd (cc)
same-entries (x ∷ xs) (y ∷ ys) e = rw (same (e 0), same-entries xs ys (λ k. e (suc k))) refl

same-tables : {X : Type 0} (xs ys : List (List X)) → length xs ≡ length ys → ((t i : ℕ) → at xs t i ≡ at ys t i) → xs ≡ ys
same-tables [] [] h e = refl
same-tables [] (y ∷ ys) h e = absurd (omega (arith, h))
same-tables (x ∷ xs) [] h e = absurd (omega (arith, h))
same-tables (x ∷ xs) (y ∷ ys) h e = rw (same-entries x y (e 0), same-tables xs ys (omega (arith, h)) (λ t. e (suc t))) refl

same-options : {X : Type 0} (o o' : Option X) → ((x : X) → o ≡ Some x → o' ≡ Some x) → ((x : X) → o' ≡ Some x → o ≡ Some x) → o' ≡ o
same-options None None f g = refl
same-options None (Some x) f g = sym (g x refl)
same-options (Some x) o' f g = f x refl

-- and the same uses
seen-again : (rows rows' : List (List UseSlot)) (lists lists' : List (List Use)) → IsLinked rows lists → IsLinked rows' lists' → map kept rows' ≡ map kept rows → (t i : ℕ) (u : Use) → at (uses_in rows lists) t i ≡ Some u → at (uses_in rows' lists') t i ≡ Some u
seen-again rows rows' lists lists' is is' e t i u there =
    let s = seen-from rows lists t i u there in
    let user : ℕ = s.one.user in
    let real : t ≢ no_target = target-real rows lists is t i s.one s.there in
    let here = kept-at (get_or rows user []) s.one.place (record { target = t; at = i }) (is.placed t i user s.one.place s.there) real in
    let row : kept (get_or rows user []) ≡ kept (get_or rows' user []) = sym (get_or-map kept rows user []) ∙ ap (λ z. get_or z user []) (sym e) ∙ get_or-map kept rows' user [] in
    let k = kept-from (get_or rows' user []) (rank (get_or rows user []) s.one.place) (record { target = t; at = i }) (ap (λ l. slice_get l (rank (get_or rows user []) s.one.place)) (sym row) ∙ here) in
    use-seen rows' lists' t i (rank (get_or rows user []) s.one.place) (record { user = user; place = k.n }) (is'.used user k.n t i k.is real) (sym k.ranked) ∙ ap Some (sym s.is)

pub same-uses : (rows rows' : List (List UseSlot)) (lists lists' : List (List Use)) → IsLinked rows lists → IsLinked rows' lists' → length lists' ≡ length lists → map kept rows' ≡ map kept rows → uses_in rows' lists' ≡ uses_in rows lists
same-uses rows rows' lists lists' is is' count e =
    same-tables (uses_in rows' lists') (uses_in rows lists) (length-map lists' (map (ranked_use rows')) ∙ count ∙ sym (length-map lists (map (ranked_use rows))))
    (λ t i. same-options (at (uses_in rows lists) t i) (at (uses_in rows' lists') t i) (seen-again rows rows' lists lists' is is' e t i) (seen-again rows' rows lists' lists is' is (sym e) t i))

-- so many places of the user were reached, and so many of them are taken: these stand first
pub record IsMoved (rows rows' : List (List UseSlot)) (lists lists' : List (List Use)) (user from taken : ℕ) : Type 0 where
  pub linked : IsLinked rows' lists'
  pub same : map kept rows' ≡ map kept rows
  pub few : taken ≤ from
  pub long : length (get_or rows' user []) ≡ length (get_or rows user [])
  pub first : (n : ℕ) (p : UseSlot) → at rows' user n ≡ Some p → n < taken → p.target ≢ no_target
  pub free : (n : ℕ) (p : UseSlot) → at rows' user n ≡ Some p → taken ≤ n → n < from → p.target ≡ no_target
  pub others : (u : ℕ) → u ≢ user → get_or rows' u [] ≡ get_or rows u []
  pub count : length lists' ≡ length lists

module _ (rows rows' : List (List UseSlot)) (lists lists' : List (List Use)) (user from taken : ℕ) (p : UseSlot) (is : IsMoved rows rows' lists lists' user from taken) (here : at rows' user from ≡ Some p) where
  -- a taken place with no free one before it stays
  pub moved-stays : p.target ≢ no_target → from ≤ taken → IsMoved rows rows' lists lists' user (from + 1) (taken + 1)
  moved-stays some all = record {
    linked = is.linked;
    same = is.same;
    few = omega (arith, is.few);
    long = is.long;
    first = λ n q e a. elim (cases_eq n from) [
      | inl at_it ↦ λ f. some (ap (λ z. z.target) (same (sym here ∙ ap (at rows' user) (sym at_it) ∙ e)) ∙ f)
      | inr other ↦ is.first n q e (omega (arith, a, other, all, is.few))
    ];
    free = λ n q e a b. absurd (omega (arith, a, b, all));
    others = is.others;
    count = is.count;
  }

  -- the first free place, to which a taken one moves
  pub moved-to : taken < from → (q : UseSlot) × (at rows' user taken ≡ Some q) × (q.target ≡ no_target)
  moved-to less =
      let s = slice-some (get_or rows' user []) taken (omega (arith, less, slice_get_within (get_or rows' user []) from p here)) in
      (s.0, s.1, is.free taken s.0 s.1 (omega arith) less)

  module _ (some : p.target ≢ no_target) (less : taken < from) (rows'' : List (List UseSlot)) (lists'' : List (List Use)) (linked : IsLinked rows'' lists'')
      (moved : (q : UseSlot) → at rows' user from ≡ Some q → rows'' ≡ put (put rows' user taken q) user from free_place) (kept_count : length lists'' ≡ length lists') where
    abbrev row : List UseSlot
    row = get_or rows' user []

    to_free : (q : UseSlot) × (at rows' user taken ≡ Some q) × (q.target ≡ no_target)
    to_free = moved-to less

    write : rows'' ≡ set rows' user (moved_row row from taken p)
    write = moved p here ∙ relocated-rows rows' lists' user from taken p to_free.0 is.linked here some to_free.1 to_free.2

    row_is : get_or rows'' user [] ≡ moved_row row from taken p
    row_is = ap (λ z. get_or z user []) write ∙ get_or-set_same rows' user (moved_row row from taken p) [] (at-within rows' user from p here)

    cases : (n : ℕ) (q : UseSlot) → at rows'' user n ≡ Some q → ((n ≡ from) × (q ≡ free_place)) ⊎ (((n ≡ taken) × (q ≡ p)) ⊎ ((n ≢ from) × (n ≢ taken) × (slice_get row n ≡ Some q)))
    cases n q e = moved-cases row from taken n p to_free.0 q here to_free.1 (omega (arith, less)) (ap (λ l. slice_get l n) (sym row_is) ∙ e)

    same_rows : map kept rows'' ≡ map kept rows'
    same_rows =
        ap (map kept) write ∙ map-set kept rows' user (moved_row row from taken p)
        ∙ ap (set (map kept rows') user) (kept-lowered row from taken p less here some (λ n q e a b. is.free n q e a b) ∙ sym (get_or-map kept rows' user []))
        ∙ set-get_or (map kept rows') user []

    pub moved-down : IsMoved rows rows'' lists lists'' user (from + 1) (taken + 1)
    moved-down = record {
      linked = linked;
      same = same_rows ∙ is.same;
      few = omega (arith, is.few);
      long = ap length row_is ∙ length-set (set row taken p) from free_place ∙ length-set row taken p ∙ is.long;
      first = λ n q e a. elim (cases n q e) [
        | inl c ↦ absurd (omega (arith, c.0, a, less))
        | inr d ↦ elim d [ inl c ↦ subst (λ z. z.target ≢ no_target) (sym c.1) some | inr c ↦ is.first n q c.2 (omega (arith, a, c.1)) ]
      ];
      free = λ n q e a b. elim (cases n q e) [
        | inl c ↦ ap (λ z. z.target) c.1
        | inr d ↦ elim d [ inl c ↦ absurd (omega (arith, c.0, a)) | inr c ↦ is.free n q c.2 (omega (arith, a)) (omega (arith, b, c.0)) ]
      ];
      others = λ u h. ap (λ z. get_or z u []) write ∙ get_or-set_other rows' user u (moved_row row from taken p) [] h ∙ is.others u h;
      count = kept_count ∙ is.count;
    }

-- the whole row
module _ (rows rows' : List (List UseSlot)) (lists lists' : List (List Use)) (user taken : ℕ) (is : IsMoved rows rows' lists lists' user (length (get_or rows user [])) taken) where
  pub moved-free : (n : ℕ) (p : UseSlot) → at rows' user n ≡ Some p → taken ≤ n → p.target ≡ no_target
  moved-free n p e a = is.free n p e a (omega (arith, slice_get_within (get_or rows' user []) n p e, is.long))

  pub moved-held : taken ≡ length (targets_held (get_or rows user []))
  moved-held =
      let row : List UseSlot = get_or rows' user [] in
      let gap : Gap = record { start = taken; len = length row - taken } in
      let has : HasGap row gap = record {
        fits = omega (arith, is.few, is.long);
        free = λ n p e a b. moved-free n p e a;
        before = is.first;
        behind = λ n p e a. absurd (omega (arith, a, slice_get_within row n p e));
      } in
      omega (arith, held-length row gap has, ap length (held-kept rows rows' user (same-targets rows rows' is.same)), is.few, is.long)
