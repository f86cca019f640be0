-- An operation that stays leads those behind it.
use Rattle.std.proofs.Common.{◌≡◌, ◌≢◌, ◌⊎◌, ℕ, ◌<◌, ◌≤◌, ◌+◌, Bool, nat_eq, List, length, get_or, Option, Some, refl, sym, ap, ◌∙◌, subst, inl, inr, ⊎_elim, arith}
use Rattle.std.proofs.lemmas.Bool.{cases_Bool}
use Rattle.std.specs.Cmp.Lexicographic.{pointwise, same_text, other_text}
use Rattle.pliron_core.specs.Tree.{Tree, IsLive}
use Rattle.pliron_laws.specs.Datum.{Head}
use Rattle.pliron_opt_cse.specs.Keys.{key_words}
use Rattle.pliron_opt_cse.specs.MergingSteps.{IsEliminable, LeadsAt, FindLeaders, StaysAlone}
use Rattle.pliron_opt_cse.proofs.KeyLemmas.{same_key_alike, alike_same_key, alike_repeats}

same_or_not : (xs ys : List ℕ) → (xs ≡ ys) ⊎ (xs ≢ ys)
same_or_not xs ys = ⊎_elim (λ e. inl (same_text xs ys (sym e))) (λ e. inr (other_text xs ys (sym e))) (cases_Bool (pointwise nat_eq xs ys))

cases : (x y : ℕ) → (x ≡ y) ⊎ (x ≢ y)
cases x y = grind arith

reach : (x y : ℕ) → (x < y) ⊎ (y ≤ x)
reach x y = grind arith

module _ (side_effects : Head → Option Bool) (t : Tree) (ops ends : List ℕ) (place op : ℕ) (is : op ≡ get_or ops place 0) where
  -- one that may not repeat
  pub alone_other : (find : List ℕ → Option ℕ) → (IsEliminable side_effects t op → ⊥) → StaysAlone side_effects t ops ends place find find
  alone_other find never = record {
    found = λ h i lt li l r. ⊎_elim
        (λ e. absurd (never (subst (IsEliminable side_effects t) (ap (λ z. get_or ops z 0) e ∙ sym is) r)))
        (λ ne. ⊎_elim (λ f. inl f) (λ f. inr (omega (arith, f))) (h i (omega (arith, lt, ne)) li l r))
        (cases i place);
    none = λ h i q. never (subst (IsEliminable side_effects t) (sym is) (alike_repeats side_effects t (get_or ops i 0) (get_or ops place 0) q.alike).1);
  }

  -- one that no leader stands before, and is found by its key now
  module _ (find find' : List ℕ → Option ℕ) (key : List ℕ) (words : key ≡ key_words t op) (low : place < length ops) (live : IsLive t op) (repeats : IsEliminable side_effects t op) (none : (i : ℕ) → find key ≡ Some i → LeadsAt side_effects t ops ends i place → ⊥) (put : find' key ≡ Some place) (others : (other : List ℕ) → other ≢ key → find' other ≡ find other) where
    words_at : (i : ℕ) → i ≡ place → key_words t (get_or ops i 0) ≡ key
    words_at i e = ap (λ z. key_words t (get_or ops z 0)) e ∙ ap (key_words t) (sym is) ∙ sym words

    -- a former leader with the key leads nothing from here on
    over : (i : ℕ) → i < place → IsLive t (get_or ops i 0) → IsEliminable side_effects t (get_or ops i 0) → key_words t (get_or ops i 0) ≡ key → find key ≡ Some i → get_or ends i 0 ≤ place
    over i lt l r same f = ⊎_elim
        (λ within. absurd (none i f (record {
          first = lt;
          within = within;
          live = l;
          alike = same_key_alike side_effects t (get_or ops i 0) (get_or ops place 0) l (subst (IsLive t) is live) r (subst (IsEliminable side_effects t) is repeats) (same ∙ words ∙ ap (key_words t) is);
        })))
        (λ e. e)
        (reach place (get_or ends i 0))

    before : FindLeaders side_effects t ops ends place find → (i : ℕ) → i < place → i < length ops → IsLive t (get_or ops i 0) → IsEliminable side_effects t (get_or ops i 0) → (find' (key_words t (get_or ops i 0)) ≡ Some i) ⊎ (get_or ends i 0 ≤ place + 1)
    before h i lt li l r = ⊎_elim
        (λ f. ⊎_elim
        (λ same. inr (omega (arith, over i lt l r same (ap find (sym same) ∙ f))))
        (λ other. inl (others (key_words t (get_or ops i 0)) other ∙ f))
        (same_or_not (key_words t (get_or ops i 0)) key))
        (λ e. inr (omega (arith, e)))
        (h i lt li l r)

    pub alone_leads : StaysAlone side_effects t ops ends place find find'
    alone_leads = record {
      found = λ h i lt li l r. ⊎_elim
          (λ e. inl (ap find' (words_at i e) ∙ put ∙ ap Some (sym e)))
          (λ ne. before h i (omega (arith, lt, ne)) li l r)
          (cases i place);
      none = λ h i q.
          let lt : i < length ops = omega (arith, q.first, low) in
          let both = alike_repeats side_effects t (get_or ops i 0) (get_or ops place 0) q.alike in
          let same : key_words t (get_or ops i 0) ≡ key = alike_same_key side_effects t (get_or ops i 0) (get_or ops place 0) q.alike ∙ words_at place refl in
          ⊎_elim
          (λ f. none i (ap find (sym same) ∙ f) q)
          (λ e. omega (arith, e, q.within))
          (h i q.first lt q.live both.0);
    }
