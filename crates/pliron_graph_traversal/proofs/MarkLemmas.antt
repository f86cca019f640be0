-- The table of places of a set of numbers.
use Rattle.std.proofs.Common.{◌≡◌, ℕ, zero, suc, ◌+◌, ◌-◌, ◌<◌, Bool, true, false, not, cond, ◌||◌, List, [], ◌∷◌, ◌++◌, length, set, get_or, refl, sym, ◌∙◌, ap, subst, arith, inl, inr, true≢false, nat_eq, if◌then◌else◌}
use Rattle.std.specs.List.{list_any, IsDistinct, AllByRecursion}
use Rattle.std.proofs.lemmas.List.{get_or-set_same, get_or-set_other}
use Rattle.std.proofs.lemmas.Bool.Decides.{eqb_tells}
use Rattle.indexmap.specs.IndexSet.{insert_key}
use Rattle.pliron_graph_traversal.specs.Search.{number_in}
use Rattle.pliron_graph_traversal.specs.Internal.AdjacencyLawful.{reflexive}
use Rattle.pliron_graph_traversal.specs.Internal.Membership.{any_append}
use Rattle.pliron_graph_traversal.specs.Internal.Marks.{AreMarksOf, mark_of_member}

place_here : (x : ℕ) (xs : List ℕ) (v : ℕ) → nat_eq v x ≡ true → number_in nat_eq (x ∷ xs) v ≡ 0
place_here x xs v e = ap (λ b. cond (not b) (1 + number_in nat_eq xs v) 0) e

place_past : (x : ℕ) (xs : List ℕ) (v : ℕ) → nat_eq v x ≡ false → number_in nat_eq (x ∷ xs) v ≡ suc (number_in nat_eq xs v)
place_past x xs v e = ap (λ b. cond (not b) (1 + number_in nat_eq xs v) 0) e ∙ omega arith

-- a number that stands nowhere, by the first item and the others
none_here : (x : ℕ) (xs : List ℕ) (v : ℕ) → list_any (nat_eq v) (x ∷ xs) ≡ false → nat_eq v x ≡ false
none_here x xs v e = by (nat_eq v x) refl
  where
    by : (b : Bool) → nat_eq v x ≡ b → b ≡ false
    by true t = absurd (true≢false (sym (ap (λ c. c || list_any (nat_eq v) xs) t) ∙ e))
    by false t = refl

none_past : (x : ℕ) (xs : List ℕ) (v : ℕ) → list_any (nat_eq v) (x ∷ xs) ≡ false → list_any (nat_eq v) xs ≡ false
none_past x xs v e = sym (ap (λ c. c || list_any (nat_eq v) xs) (none_here x xs v e)) ∙ e

pub place_of_none : (xs : List ℕ) (v : ℕ) → list_any (nat_eq v) xs ≡ false → number_in nat_eq xs v ≡ length xs
place_of_none [] v e = refl
place_of_none (x ∷ xs) v e = omega (arith, place_past x xs v (none_here x xs v e), place_of_none xs v (none_past x xs v e))

place_of_last : (xs : List ℕ) (v : ℕ) → list_any (nat_eq v) xs ≡ false → number_in nat_eq (xs ++ v ∷ []) v ≡ length xs
place_of_last [] v e = place_here v [] v (reflexive v)
place_of_last (x ∷ xs) v e = omega (arith, place_past x (xs ++ v ∷ []) v (none_here x xs v e), place_of_last xs v (none_past x xs v e))

place_kept : (xs : List ℕ) (v u : ℕ) → list_any (nat_eq u) xs ≡ true → number_in nat_eq (xs ++ v ∷ []) u ≡ number_in nat_eq xs u
place_kept [] v u e = absurd (true≢false (sym e))
place_kept (x ∷ xs) v u e = by (nat_eq u x) refl (place_kept xs v u)
  where
    by : (b : Bool) → nat_eq u x ≡ b → (list_any (nat_eq u) xs ≡ true → number_in nat_eq (xs ++ v ∷ []) u ≡ number_in nat_eq xs u) → number_in nat_eq (x ∷ (xs ++ v ∷ [])) u ≡ number_in nat_eq (x ∷ xs) u
    by true t rest = place_here x (xs ++ v ∷ []) u t ∙ sym (place_here x xs u t)
    by false t rest =
        let there : list_any (nat_eq u) xs ≡ true = sym (ap (λ c. c || list_any (nat_eq u) xs) t) ∙ e in
        place_past x (xs ++ v ∷ []) u t ∙ ap suc (rest there) ∙ sym (place_past x xs u t)

distinct_push : (xs : List ℕ) (v : ℕ) → IsDistinct nat_eq xs → list_any (nat_eq v) xs ≡ false → IsDistinct nat_eq (xs ++ v ∷ [])
unfolding IsDistinct
distinct_push [] v h e = (tt, tt)
distinct_push (x ∷ xs) v h e = (apart xs h.0, distinct_push xs v h.1 (none_past x xs v e))
  where
    other : nat_eq x v ≡ false
    other = elim (eqb_tells x v) [
      | inl t ↦ absurd (true≢false (sym (subst (λ z. nat_eq z x ≡ true) t.1 (reflexive x)) ∙ none_here x xs v e))
      | inr t ↦ t.0
    ]

    apart : (ys : List ℕ) → AllByRecursion (λ y. nat_eq x y ≡ false) ys → AllByRecursion (λ y. nat_eq x y ≡ false) (ys ++ v ∷ [])
    apart [] k = (other, tt)
    apart (y ∷ ys) k = (k.0, apart ys k.1)

pub no_marks : (members marks : List ℕ) → members ≡ [] → marks ≡ [] → AreMarksOf members marks
unfolding IsDistinct
no_marks members marks e d = subst (λ xs. AreMarksOf xs marks) (sym e) (subst (λ ys. AreMarksOf [] ys) (sym d) (record { at = λ v. refl; distinct = tt }))

module _ (members marks : List ℕ) (h : AreMarksOf members marks) where
  -- a table that reads alike
  pub marks_alike : (longer : List ℕ) → ((v : ℕ) → get_or longer v 0 ≡ get_or marks v 0) → AreMarksOf members longer
  marks_alike longer same = record { at = λ v. same v ∙ h.at v; distinct = h.distinct }

  pub marks_pushed : (v : ℕ) (mark : ℕ) → v < length marks → mark ≡ length members + 1 → mark_of_member members v ≡ 0 → AreMarksOf (members ++ v ∷ []) (set marks v mark)
  marks_pushed v mark within is none = record {
    at = λ u. elim (eqb_tells u v) [ inl t ↦ new u t.1 | inr t ↦ old u t.0 t.1 ];
    distinct = distinct_push members v h.distinct unlisted;
  }
    where
      unlisted : list_any (nat_eq v) members ≡ false
      unlisted = by (list_any (nat_eq v) members) refl
        where
          by : (b : Bool) → list_any (nat_eq v) members ≡ b → b ≡ false
          by true e = let k : mark_of_member members v ≡ number_in nat_eq members v + 1 = ap (λ c. cond c (number_in nat_eq members v + 1) 0) e in absurd (omega (arith, k, none))
          by false e = refl

      last_mark : mark_of_member (members ++ v ∷ []) v ≡ length members + 1
      last_mark =
          let there : list_any (nat_eq v) (members ++ v ∷ []) ≡ true = any_append nat_eq v members (v ∷ []) ∙ ap (λ b. b || list_any (nat_eq v) (v ∷ [])) unlisted ∙ ap (λ b. b || false) (reflexive v) in
          ap (λ b. cond b (number_in nat_eq (members ++ v ∷ []) v + 1) 0) there ∙ ap (λ k. k + 1) (place_of_last members v unlisted)

      new : (u : ℕ) → u ≡ v → get_or (set marks v mark) u 0 ≡ mark_of_member (members ++ v ∷ []) u
      new u e = subst (λ z. get_or (set marks v mark) z 0 ≡ mark_of_member (members ++ v ∷ []) z) (sym e) (get_or-set_same marks v mark 0 within ∙ is ∙ sym last_mark)

      old : (u : ℕ) → nat_eq u v ≡ false → (u ≡ v → ⊥) → get_or (set marks v mark) u 0 ≡ mark_of_member (members ++ v ∷ []) u
      old u t other = get_or-set_other marks v u mark 0 other ∙ h.at u ∙ sym (kept (list_any (nat_eq u) members) refl)
        where
          more : list_any (nat_eq u) (members ++ v ∷ []) ≡ list_any (nat_eq u) members || false
          more = any_append nat_eq u members (v ∷ []) ∙ ap (λ b. list_any (nat_eq u) members || (b || false)) t

          kept : (b : Bool) → list_any (nat_eq u) members ≡ b → mark_of_member (members ++ v ∷ []) u ≡ mark_of_member members u
          kept true e =
              let there : list_any (nat_eq u) (members ++ v ∷ []) ≡ true = more ∙ ap (λ b. b || false) e in
              ap (λ b. cond b (number_in nat_eq (members ++ v ∷ []) u + 1) 0) there ∙ ap (λ k. k + 1) (place_kept members v u e) ∙ sym (ap (λ b. cond b (number_in nat_eq members u + 1) 0) e)
          kept false e =
              let there : list_any (nat_eq u) (members ++ v ∷ []) ≡ false = more ∙ ap (λ b. b || false) e in
              ap (λ b. cond b (number_in nat_eq (members ++ v ∷ []) u + 1) 0) there ∙ sym (ap (λ b. cond b (number_in nat_eq members u + 1) 0) e)

-- what a mark says
pub marked : (members : List ℕ) (v : ℕ) → (mark_of_member members v ≡ 0 → ⊥) → list_any (nat_eq v) members ≡ true
marked members v n = by (list_any (nat_eq v) members) refl
  where
    by : (b : Bool) → list_any (nat_eq v) members ≡ b → b ≡ true
    by true e = refl
    by false e = absurd (n (ap (λ c. cond c (number_in nat_eq members v + 1) 0) e))

pub unmarked : (members : List ℕ) (v : ℕ) → mark_of_member members v ≡ 0 → list_any (nat_eq v) members ≡ false
unmarked members v n = by (list_any (nat_eq v) members) refl
  where
    by : (b : Bool) → list_any (nat_eq v) members ≡ b → b ≡ false
    by true e = let k : mark_of_member members v ≡ number_in nat_eq members v + 1 = ap (λ c. cond c (number_in nat_eq members v + 1) 0) e in absurd (omega (arith, k, n))
    by false e = refl

pub place_marked : (members : List ℕ) (v : ℕ) → (mark_of_member members v ≡ 0 → ⊥) → mark_of_member members v - 1 ≡ number_in nat_eq members v
place_marked members v n =
    let k : mark_of_member members v ≡ number_in nat_eq members v + 1 = ap (λ c. cond c (number_in nat_eq members v + 1) 0) (marked members v n) in
    omega (arith, k)

pub place_unmarked : (members : List ℕ) (v : ℕ) → mark_of_member members v ≡ 0 → number_in nat_eq members v ≡ length members
place_unmarked members v n = place_of_none members v (unmarked members v n)

pub inserted_none : (members : List ℕ) (v : ℕ) → (mark_of_member members v ≡ 0 → ⊥) → members ≡ insert_key nat_eq members v
inserted_none members v n = sym (ap (λ b. if b then members else members ++ v ∷ []) (marked members v n))

pub inserted_last : (members : List ℕ) (v : ℕ) → mark_of_member members v ≡ 0 → members ++ v ∷ [] ≡ insert_key nat_eq members v
inserted_last members v n = sym (ap (λ b. if b then members else members ++ v ∷ []) (unmarked members v n))

-- a table reads alike with one more 0
pub zero_pushed : (xs : List ℕ) (k : ℕ) → get_or (xs ++ 0 ∷ []) k 0 ≡ get_or xs k 0
zero_pushed [] zero = refl
zero_pushed [] (suc k) = refl
zero_pushed (x ∷ xs) zero = refl
zero_pushed (x ∷ xs) (suc k) = zero_pushed xs k
