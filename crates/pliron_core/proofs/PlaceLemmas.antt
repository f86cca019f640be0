-- Lemmas on linked places and uses.
use Rattle.std.proofs.Common.{◌≡◌, ◌≢◌, ◌⊎◌, ℕ, zero, suc, ◌-◌, ◌<◌, ◌≤◌, false, List, [], ◌∷◌, ◌++◌, length, map, take, get_or, set, Option, Some, None, refl, sym, ap, ◌∙◌, subst, inl, inr, arith, length-append}
use Rattle.std.specs.List.{slice_get}
use Rattle.std.proofs.lemmas.Bool.{cases_eq}
use Rattle.std.proofs.lemmas.Option.{slice_get-map}
use Rattle.std.proofs.lemmas.List.{get_or-set_same, map-set, set-get_or, set-set, length-map, length-set, get_or_default}
use Rattle.std.proofs.Math.ListN.{get_or-map}
use Rattle.std.proofs.lemmas.Grind.{common_steps}
use Rattle.std.specs.Option.{option_map}
use Rattle.pliron_core.specs.declared.uses.Use.{Use}
use Rattle.pliron_core.specs.declared.use_slots.UseSlot.{UseSlot}
use Rattle.pliron_core.specs.Uses.{Table, AreAgreed}
use Rattle.pliron_core.specs.declared.use_slots.Gap.{Gap}
use Rattle.pliron_core.specs.declared.use_slots.Holes.{Holes}
use Rattle.pliron_core.specs.declared.use_slots.Holes.TheVariants.{OneGap}
use Rattle.pliron_core.specs.UseSlots.{at, targets_held, rank, ranked_use, no_target, no_gap, targets_in, uses_in, HasGap, IsLinked}
use Rattle.pliron_core.specs.Holes.{Tracks, hole_of, gap_of, is_counted, HaveHoles, AreLinked}
use Rattle.pliron_core.proofs.TableLemmas.{at-same, at-other, at-within}
use Rattle.pliron_core.proofs.HoleLemmas.{gapped-is, has-gap, holes-row}
use Rattle.pliron_core.proofs.GapLemmas.{same, held-at, held-from, held-push, rank-once}

module _ {A : Type 0} where
  pub get_or-pad : (xs : List A) (d : A) (y : ℕ) → get_or (xs ++ d ∷ []) y d ≡ get_or xs y d
  get_or-pad [] d zero = refl
  get_or-pad [] d (suc y) = refl
  get_or-pad (x ∷ xs) d zero = refl
  get_or-pad (x ∷ xs) d (suc y) = get_or-pad xs d y

  pub push-cases : (xs : List A) (x y : A) (p : ℕ) → slice_get (xs ++ x ∷ []) p ≡ Some y → ((p ≡ length xs) × (x ≡ y)) ⊎ (slice_get xs p ≡ Some y)
  push-cases [] x y zero e = inl (refl, cc)
  push-cases [] x y (suc p) e = absurd (cc)
  push-cases (z ∷ zs) x y zero e = inr e
  push-cases (z ∷ zs) x y (suc p) e = elim (push-cases zs x y p e) [ inl h ↦ inl (ap suc h.0, h.1) | inr h ↦ inr h ]

  pub push-last : (xs : List A) (x : A) → slice_get (xs ++ x ∷ []) (length xs) ≡ Some x
  push-last [] x = refl
  push-last (z ∷ zs) x = push-last zs x

  pub push-kept : (xs : List A) (x y : A) (p : ℕ) → slice_get xs p ≡ Some y → slice_get (xs ++ x ∷ []) p ≡ Some y
  push-kept [] x y p e = absurd (cc)
  push-kept (z ∷ zs) x y zero e = e
  push-kept (z ∷ zs) x y (suc p) e = push-kept zs x y p e

  pub take-push : (xs : List A) (x : A) → take (length (xs ++ x ∷ []) - 1) (xs ++ x ∷ []) ≡ xs
  take-push xs x = grind (arith, common_steps)

  pub at-push_cases : (rows : List (List A)) (i : ℕ) (x y : A) (u p : ℕ) → i < length rows → at (set rows i (get_or rows i [] ++ x ∷ [])) u p ≡ Some y → ((u ≡ i) × (p ≡ length (get_or rows i [])) × (x ≡ y)) ⊎ (at rows u p ≡ Some y)
  at-push_cases rows i x y u p h e =
      elim (cases_eq u i) [
        | inl same ↦
            let there : slice_get (get_or rows i [] ++ x ∷ []) p ≡ Some y = sym (at-same rows i _ p h) ∙ ap (λ v. at (set rows i (get_or rows i [] ++ x ∷ [])) v p) (sym same) ∙ e in
            elim (push-cases (get_or rows i []) x y p there) [ inl k ↦ inl (same, k.0, k.1) | inr k ↦ inr (ap (λ v. at rows v p) same ∙ k) ]
        | inr ne ↦ inr (sym (at-other rows i u _ p ne) ∙ e)
      ]

  pub at-pushed : (rows : List (List A)) (i : ℕ) (x : A) → i < length rows → at (set rows i (get_or rows i [] ++ x ∷ [])) i (length (get_or rows i [])) ≡ Some x
  at-pushed rows i x h = at-same rows i _ _ h ∙ push-last (get_or rows i []) x

  pub at-kept : (rows : List (List A)) (i : ℕ) (x y : A) (u p : ℕ) → i < length rows → at rows u p ≡ Some y → at (set rows i (get_or rows i [] ++ x ∷ [])) u p ≡ Some y
  at-kept rows i x y u p h e =
      elim (cases_eq u i) [
        | inl same ↦ ap (λ v. at (set rows i (get_or rows i [] ++ x ∷ [])) v p) same ∙ at-same rows i _ p h ∙ push-kept (get_or rows i []) x y p (ap (λ v. at rows v p) (sym same) ∙ e)
        | inr ne ↦ at-other rows i u _ p ne ∙ e
      ]

pub at-map : {A B : Type 0} (f : A → B) (rows : List (List A)) (u p : ℕ) → at (map (λ r. map f r) rows) u p ≡ option_map f (at rows u p)
at-map f rows u p = ap (λ r. slice_get r p) (get_or-map (λ r. map f r) rows u []) ∙ slice_get-map f (get_or rows u []) p

pub row-targets : (rows : List (List UseSlot)) (user : ℕ) → get_or (targets_in rows) user [] ≡ targets_held (get_or rows user [])
row-targets rows user = get_or-map targets_held rows user []

-- what a list of uses names is a target
pub target-real : (rows : List (List UseSlot)) (lists : List (List Use)) → IsLinked rows lists → (target i : ℕ) (u : Use) → at lists target i ≡ Some u → target ≢ no_target
target-real rows lists is target i u e f =
    let h : target < length lists = at-within lists target i u e in
    omega (arith, h, is.few, f)

-- a use as it is seen, and as it is
pub record IsSeen (rows : List (List UseSlot)) (lists : List (List Use)) (target i : ℕ) (u : Use) : Type 0 where
  pub one : Use
  pub there : at lists target i ≡ Some one
  pub is : u ≡ ranked_use rows one

pub seen-from : (rows : List (List UseSlot)) (lists : List (List Use)) (target i : ℕ) (u : Use) → at (uses_in rows lists) target i ≡ Some u → IsSeen rows lists target i u
seen-from rows lists target i u e = found (at lists target i) refl
  where
    found : (o : Option Use) → at lists target i ≡ o → IsSeen rows lists target i u
    found None f = let n : at (uses_in rows lists) target i ≡ None = at-map (ranked_use rows) lists target i ∙ ap (option_map (ranked_use rows)) f in absurd (cc)
    found (Some w) f =
        let n : at (uses_in rows lists) target i ≡ Some (ranked_use rows w) = at-map (ranked_use rows) lists target i ∙ ap (option_map (ranked_use rows)) f in
        record { one = w; there = f; is = same (sym e ∙ n) }

module _ (rows : List (List UseSlot)) (lists : List (List Use)) (is : IsLinked rows lists) where
  seen-listed : (target i : ℕ) (u : Use) → at (uses_in rows lists) target i ≡ Some u → slice_get (get_or (targets_in rows) u.user []) u.place ≡ Some target
  seen-listed target i u e =
      let w = seen-from rows lists target i u e in
      let there = is.placed target i w.one.user w.one.place w.there in
      rw w.is (ap (λ r. slice_get r (ranked_use rows w.one).place) (row-targets rows w.one.user) ∙ held-at (get_or rows w.one.user []) w.one.place _ there (target-real rows lists is target i w.one w.there))

  seen-once : (target i j : ℕ) (u : Use) → at (uses_in rows lists) target i ≡ Some u → at (uses_in rows lists) target j ≡ Some u → i ≡ j
  seen-once target i j u e f =
      let a = seen-from rows lists target i u e in
      let b = seen-from rows lists target j u f in
      let one = is.placed target i a.one.user a.one.place a.there in
      let two = is.placed target j b.one.user b.one.place b.there in
      let both : ranked_use rows a.one ≡ ranked_use rows b.one = sym a.is ∙ b.is in
      let users : a.one.user ≡ b.one.user = ap (λ z. z.user) both in
      let ranks : rank (get_or rows a.one.user []) a.one.place ≡ rank (get_or rows b.one.user []) b.one.place = ap (λ z. z.place) both in
      let moved : at rows a.one.user b.one.place ≡ Some (record { target = target; at = j }) = ap (λ z. at rows z b.one.place) users ∙ two in
      let real = target-real rows lists is target i a.one a.there in
      let places : a.one.place ≡ b.one.place = rank-once (get_or rows a.one.user []) a.one.place b.one.place _ _ one moved real real (ranks ∙ ap (λ z. rank (get_or rows z []) b.one.place) (sym users)) in
      ap (λ z. z.at) (same (sym one ∙ ap (at rows a.one.user) places ∙ moved))

  seen-complete : (user place target : ℕ) → slice_get (get_or (targets_in rows) user []) place ≡ Some target → (i : ℕ) × (at (uses_in rows lists) target i ≡ Some (record { user = user; place = place }))
  seen-complete user place target e =
      let h = held-from (get_or rows user []) place target (ap (λ r. slice_get r place) (sym (row-targets rows user)) ∙ e) in
      let there = is.used user h.n h.p.target h.p.at h.is h.taken in
      (h.p.at, ap (λ z. at (uses_in rows lists) z h.p.at) (sym h.names) ∙ at-map (ranked_use rows) lists h.p.target h.p.at ∙ ap (option_map (ranked_use rows)) there ∙ ap (λ z. Some (let u : Use = record { user = user; place = z } in u)) h.ranked)

  pub agree-linked : AreAgreed (targets_in rows) (uses_in rows lists)
  agree-linked = record { listed = seen-listed; once = seen-once; complete = seen-complete }

pub linked-push : (rows : List (List UseSlot)) (lists : List (List Use)) (user target : ℕ) → user < length rows → target < length lists → IsLinked rows lists → IsLinked (set rows user (get_or rows user [] ++ record { target = target; at = length (get_or lists target []) } ∷ [])) (set lists target (get_or lists target [] ++ record { user = user; place = length (get_or rows user []) } ∷ []))
linked-push rows lists user target hu ht is = record {
  used = λ u p t i e real.
      elim (at-push_cases rows user _ _ u p hu e) [
        | inl k ↦
            let tt' : target ≡ t = ap (λ z. z.target) k.2 in
            let ii : length (get_or lists target []) ≡ i = ap (λ z. z.at) k.2 in
            rw (k.0, k.1, ← tt', ← ii) (at-pushed lists target _ ht)
        | inr k ↦ at-kept lists target _ _ t i ht (is.used u p t i k real)
      ];
  placed = λ t i u p e.
      elim (at-push_cases lists target _ _ t i ht e) [
        | inl k ↦
            let uu : user ≡ u = ap (λ z. z.user) k.2 in
            let pp : length (get_or rows user []) ≡ p = ap (λ z. z.place) k.2 in
            rw (k.0, k.1, ← uu, ← pp) (at-pushed rows user _ hu)
        | inr k ↦ at-kept rows user _ _ u p hu (is.placed t i u p k)
      ];
  few = omega (arith, length-set lists target (get_or lists target [] ++ record { user = user; place = length (get_or rows user []) } ∷ []), is.few);
}

pub linked-user : (rows : List (List UseSlot)) (lists : List (List Use)) → IsLinked rows lists → IsLinked (rows ++ [] ∷ []) lists
linked-user rows lists is = record {
  used = λ u p t i e. is.used u p t i (sym (ap (λ r. slice_get r p) (get_or-pad rows [] u)) ∙ e);
  placed = λ t i u p e. ap (λ r. slice_get r p) (get_or-pad rows [] u) ∙ is.placed t i u p e;
  few = is.few;
}

pub linked-target : (rows : List (List UseSlot)) (lists : List (List Use)) → length (lists ++ [] ∷ []) ≤ no_target → IsLinked rows lists → IsLinked rows (lists ++ [] ∷ [])
linked-target rows lists few is = record {
  used = λ u p t i e real. ap (λ r. slice_get r i) (get_or-pad lists [] t) ∙ is.used u p t i e real;
  placed = λ t i u p e. is.placed t i u p (sym (ap (λ r. slice_get r i) (get_or-pad lists [] t)) ∙ e);
  few = few;
}

map-same : {A B : Type 0} (f g : A → B) → ((x : A) → f x ≡ g x) → (xs : List A) → map f xs ≡ map g xs
map-same f g each [] = refl
map-same f g each (x ∷ xs) = rw (each x, map-same f g each xs) refl

map-same_at : {A B : Type 0} (f g : A → B) (xs : List A) → ((i : ℕ) (x : A) → slice_get xs i ≡ Some x → f x ≡ g x) → map f xs ≡ map g xs
map-same_at f g [] each = refl
map-same_at f g (x ∷ xs) each = rw (each 0 x refl, map-same_at f g xs (λ i y e. each (suc i) y e)) refl

-- other rows, where each use has the same place among those that are taken
pub uses-same : (rows rows' : List (List UseSlot)) (lists : List (List Use)) → ((t i : ℕ) (u : Use) → at lists t i ≡ Some u → rank (get_or rows' u.user []) u.place ≡ rank (get_or rows u.user []) u.place) → uses_in rows' lists ≡ uses_in rows lists
uses-same rows rows' [] each = refl
uses-same rows rows' (l ∷ ls) each =
    let one = map-same_at (ranked_use rows') (ranked_use rows) l (λ i u e. ap (λ n. let w : Use = record { user = u.user; place = n } in w) (each 0 i u e)) in
    rw (one, uses-same rows rows' ls (λ t i u e. each (suc t) i u e)) refl

-- one more user, and the tables that contracts see
pub uses-user : (rows : List (List UseSlot)) (lists : List (List Use)) → uses_in (rows ++ [] ∷ []) lists ≡ uses_in rows lists
uses-user rows lists = map-same (map (ranked_use (rows ++ [] ∷ []))) (map (ranked_use rows)) (λ l. map-same (ranked_use (rows ++ [] ∷ [])) (ranked_use rows) (λ u. ap (λ r. let w : Use = record { user = u.user; place = rank r u.place } in w) (get_or-pad rows [] u.user)) l) lists

pub same-table : {t t' : List (List ℕ)} {u u' : List (List Use)} {m m' n : ℕ} → t ≡ t' → u ≡ u' → m ≡ m' → (let x : Table = record { targets = t; uses = u; user_room = m; target_room = n } in x) ≡ record { targets = t'; uses = u'; user_room = m'; target_room = n }
same-table e f g = rw (e, f, g) refl

pub whole-table : {t t' : List (List ℕ)} {u u' : List (List Use)} {m m' n n' : ℕ} → t ≡ t' → u ≡ u' → m ≡ m' → n ≡ n' → (let x : Table = record { targets = t; uses = u; user_room = m; target_room = n } in x) ≡ record { targets = t'; uses = u'; user_room = m'; target_room = n' }
whole-table e f g h = rw (e, f, g, h) refl

-- what a list of uses that was read says, and how the use is seen
pub use-there : (lists : List (List Use)) (target i : ℕ) (read : List Use) (u : Use) → target < length lists → read ≡ get_or lists target read → slice_get read i ≡ Some u → at lists target i ≡ Some u
use-there lists target i read u h e there = ap (λ l. slice_get l i) (sym (e ∙ get_or_default lists target read [] h)) ∙ there

pub use-seen : (rows : List (List UseSlot)) (lists : List (List Use)) (target i n : ℕ) (u : Use) → at lists target i ≡ Some u → n ≡ rank (get_or rows u.user []) u.place → slice_get (get_or (uses_in rows lists) target []) i ≡ Some (record { user = u.user; place = n })
use-seen rows lists target i n u e r = at-map (ranked_use rows) lists target i ∙ ap (option_map (ranked_use rows)) e ∙ ap (λ z. Some (let w : Use = record { user = u.user; place = z } in w)) (sym r)

-- a row without places has no gap
pub gap-none : HasGap [] no_gap
gap-none = record {
  fits = omega arith;
  free = λ n p e. absurd (cc);
  before = λ n p e. absurd (cc);
  behind = λ n p e. absurd (cc);
}

pub holes-user : (rows : List (List UseSlot)) (holes : List Holes) → HaveHoles rows holes → HaveHoles (rows ++ [] ∷ []) (holes ++ OneGap no_gap ∷ [])
holes-user rows holes is = record {
  count = omega (arith, length-append rows ([] ∷ []), length-append holes (OneGap no_gap ∷ []), is.count);
  each = λ u. rw (get_or-pad rows [] u, get_or-pad holes (OneGap no_gap) u) (is.each u);
}

-- one more place, which is taken
pub gap-push : (row : List UseSlot) (gap : Gap) (p : UseSlot) → p.target ≢ no_target → HasGap row gap → HasGap (row ++ p ∷ []) gap
gap-push row gap p real is = record {
  fits = omega (arith, length-append row (p ∷ []), is.fits);
  free = λ n q e a b. elim (push-cases row p q n e) [ inl k ↦ absurd (omega (arith, k.0, b, is.fits)) | inr k ↦ is.free n q k a b ];
  before = λ n q e a. elim (push-cases row p q n e) [ inl k ↦ subst (λ z. z.target ≢ no_target) k.1 real | inr k ↦ is.before n q k a ];
  behind = λ n q e a. elim (push-cases row p q n e) [ inl k ↦ subst (λ z. z.target ≢ no_target) k.1 real | inr k ↦ is.behind n q k a ];
}

pub targets-push : (rows : List (List UseSlot)) (user : ℕ) (p : UseSlot) → p.target ≢ no_target → targets_in (set rows user (get_or rows user [] ++ p ∷ [])) ≡ set (targets_in rows) user (get_or (targets_in rows) user [] ++ p.target ∷ [])
targets-push rows user p real = map-set _ rows user _ ∙ ap (set (targets_in rows) user) (held-push (get_or rows user []) p real ∙ ap (λ r. r ++ p.target ∷ []) (sym (row-targets rows user)))

pushed-holes : (rows : List (List UseSlot)) (holes : List Holes) (user : ℕ) (p : UseSlot) → user < length rows → is_counted holes user ≡ false → p.target ≢ no_target → HaveHoles rows holes → HaveHoles (set rows user (get_or rows user [] ++ p ∷ [])) holes
pushed-holes rows holes user p within gapped real is =
    holes-row rows holes user _ within (subst (Tracks (get_or rows user [] ++ p ∷ [])) (sym (gapped-is (hole_of holes user) gapped)) (gap-push (get_or rows user []) (gap_of holes user) p real (has-gap rows holes user is gapped))) is

-- one more slot at the end of a user's, and one more use of its target
module _ (rows : List (List UseSlot)) (holes : List Holes) (lists : List (List Use)) (user target : ℕ) (is : AreLinked rows holes lists) (within : user < length rows) (ht : target < length lists) where
  real : target ≢ no_target
  real f = omega (arith, ht, is.linked.few, f)

  pub pushed-linked : is_counted holes user ≡ false → AreLinked (set rows user (get_or rows user [] ++ record { target = target; at = length (get_or lists target []) } ∷ [])) holes (set lists target (get_or lists target [] ++ record { user = user; place = length (get_or rows user []) } ∷ []))
  pushed-linked gapped = record {
    linked = linked-push rows lists user target within ht is.linked;
    holes = pushed-holes rows holes user _ within gapped real is.holes;
  }

  pub pushed-targets : targets_in (set rows user (get_or rows user [] ++ record { target = target; at = length (get_or lists target []) } ∷ [])) ≡ set (targets_in rows) user (get_or (targets_in rows) user [] ++ target ∷ [])
  pushed-targets = targets-push rows user (record { target = target; at = length (get_or lists target []) }) real

-- a list that was written as it was, and one that was lengthened and shortened
module _ {A : Type 0} (rows : List (List A)) (i : ℕ) (within : i < length rows) where
  pub written-again : (row1 row2 : List A) → row1 ≡ get_or rows i row1 → row2 ≡ row1 → set rows i row2 ≡ rows
  written-again row1 row2 r1 r2 =
      let a : row1 ≡ get_or rows i [] = r1 ∙ get_or_default rows i row1 [] within in
      rw (r2, a) (set-get_or rows i [])

  pub popped-again : (x : A) (row1 row2 row3 row4 : List A) → row1 ≡ get_or rows i row1 → row2 ≡ row1 ++ x ∷ [] → row3 ≡ get_or (set rows i row2) i row3 → row4 ≡ take (length row3 - 1) row3 → set (set rows i row2) i row4 ≡ rows
  popped-again x row1 row2 row3 row4 r1 r2 r3 r4 =
      let a : row1 ≡ get_or rows i [] = r1 ∙ get_or_default rows i row1 [] within in
      let b : row3 ≡ row2 = r3 ∙ get_or-set_same rows i row2 row3 within in
      let c : row4 ≡ get_or rows i [] = r4 ∙ ap (λ l. take (length l - 1) l) (b ∙ r2) ∙ take-push row1 x ∙ a in
      rw (set-set, c) (set-get_or rows i [])
