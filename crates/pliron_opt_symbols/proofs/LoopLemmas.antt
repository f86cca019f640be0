-- What loops over functions have so far.
use Rattle.std.proofs.Common.{◌≡◌, ◌≢◌, ◌<◌, ◌⊎◌, inl, inr, ⊎_elim, ℕ, suc, ◌+◌, List, [], ◌∷◌, ◌++◌, length, length-append, map, Some, refl, sym, ap, ◌∙◌, subst, arith}
use Rattle.std.specs.Prelude.{◌↔◌, Contains, slice_get}
use Rattle.std.proofs.lemmas.List.{get_or_append_left, get_or_push}
use Rattle.std.proofs.lemmas.List.Elements.{Contains-append_left, Contains-push}
use Rattle.std.proofs.lemmas.Option.{same_Some, slice_get_within}
use Rattle.pliron_core.specs.Tree.{Tree, In, IsDistinct}
use Rattle.pliron_core.specs.Walks.{children}
use Rattle.pliron_core.proofs.ListLemmas.{In-left, In-right, In-cases}
use Rattle.pliron_laws.specs.Datum.{Datum}
use Rattle.pliron_graph_traversal.specs.Adjacency.{row}
use Rattle.pliron_pass_linked.specs.Calls.{CallingConvention}
use Rattle.pliron_opt_symbols.specs.Kept.{SymbolReads}
use Rattle.pliron_opt_symbols.specs.Rows.{IsNodeCalledIn, IsNodeCalledBeside, IsAlone, IsStayingNode, AreSorted, Gets, OfOne, AreCallRows}
use Rattle.pliron_opt_symbols.proofs.RowLemmas.{gets_by, gets_push, gets_then}

below_more : (i n : ℕ) → i < n + 1 → (i < n) ⊎ (i ≡ n)
below_more i n lt = grind arith

-- ---- functions that stay

module _ (s : SymbolReads) (t : Tree) (functions : List ℕ) where
  -- the node of one of those before this place that isn't alone
  abbrev pub IsStayingBefore : ℕ → ℕ → Type 0
  IsStayingBefore n v = (i : ℕ) × (f : ℕ) × (i < n) × (v ≡ suc i) × (slice_get functions i ≡ Some f) × (IsAlone s t f → ⊥)

  pub record StayingSoFar (old new : List ℕ) (n : ℕ) : Type 0 where
    pub gets : Gets old new (IsStayingBefore n)
    pub sorted : AreSorted s t functions n new

  pub staying_none : (old : List ℕ) → StayingSoFar old old 0
  staying_none old = record {
    gets = λ v. (λ h. inl h, λ h. ⊎_elim (λ x. x) (λ p. absurd (let lt = p.2 in omega (arith, lt))) h);
    sorted = λ i f lt at. absurd (omega (arith, lt));
  }

  pub staying_more : (old new : List ℕ) (n f : ℕ) → slice_get functions n ≡ Some f → (IsAlone s t f → ⊥) → StayingSoFar old new n → StayingSoFar old (new ++ suc n ∷ []) (n + 1)
  staying_more old new n f at never h = record {
    gets = gets_by old (new ++ suc n ∷ []) (λ v. IsStayingBefore n v ⊎ (v ≡ suc n)) (IsStayingBefore (n + 1)) (gets_then old new (new ++ suc n ∷ []) (IsStayingBefore n) (λ v. v ≡ suc n) h.gets (gets_push new (suc n) (λ v. v ≡ suc n) refl (λ v e. e)))
        (λ v x. ⊎_elim (λ p. let lt = p.2 in (p.0, p.1, omega (arith, lt), p.3, p.4, p.5)) (λ e. (n, f, omega arith, e, at, never)) x)
        (λ v p. ⊎_elim (λ lt. inl (p.0, p.1, lt, p.3, p.4, p.5)) (λ e. inr (p.3 ∙ ap suc e)) (below_more p.0 n p.2));
    sorted = λ i g lt there. ⊎_elim
        (λ below. ⊎_elim (λ x. inl (Contains-append_left new (suc n ∷ []) (suc i) x)) (λ a. inr a) (h.sorted i g below there))
        (λ e. inl (subst (λ k. Contains (new ++ suc n ∷ []) (suc k)) (sym e) (Contains-push new (suc n))))
        (below_more i n lt);
  }

  pub staying_same : (old new : List ℕ) (n f : ℕ) → slice_get functions n ≡ Some f → IsAlone s t f → StayingSoFar old new n → StayingSoFar old new (n + 1)
  staying_same old new n f at alone h = record {
    gets = gets_by old new (IsStayingBefore n) (IsStayingBefore (n + 1)) h.gets
        (λ v p. let lt = p.2 in (p.0, p.1, omega (arith, lt), p.3, p.4, p.5))
        (λ v p. ⊎_elim (λ lt. (p.0, p.1, lt, p.3, p.4, p.5)) (λ e. absurd (p.5 (subst (IsAlone s t) (same_Some f p.1 (sym at ∙ ap (slice_get functions) (sym e) ∙ p.4)) alone))) (below_more p.0 n p.2));
    sorted = λ i g lt there. ⊎_elim
        (λ below. h.sorted i g below there)
        (λ e. inr (subst (IsAlone s t) (same_Some f g (sym at ∙ ap (slice_get functions) (sym e) ∙ there)) alone))
        (below_more i n lt);
  }

  pub staying_all : (old new : List ℕ) → StayingSoFar old new (length functions) → Gets old new (IsStayingNode s t functions)
  staying_all old new h = gets_by old new (IsStayingBefore (length functions)) (IsStayingNode s t functions) h.gets
      (λ v p. (p.0, p.1, p.3, p.4, p.5))
      (λ v p. (p.0, p.1, slice_get_within functions p.0 p.1 p.3, p.2, p.3, p.4))

-- ---- rows

row_kept : (rows : List (List ℕ)) (r : List ℕ) (i : ℕ) → i < length rows → row (rows ++ r ∷ []) i ≡ row rows i
row_kept rows r i lt = get_or_append_left rows (r ∷ []) [] i lt

row_new : (rows : List (List ℕ)) (r : List ℕ) (n : ℕ) → n ≡ length rows → row (rows ++ r ∷ []) n ≡ r
row_new rows r n e = get_or_push rows r [] n (sym e)

module _ (c : CallingConvention) (s : SymbolReads) (t : Tree) (holder : ℕ) (functions : List ℕ) (names : List Datum) where
  pub record RowsSoFar (n : ℕ) (rows : List (List ℕ)) : Type 0 where
    pub long : length rows ≡ suc n
    pub first : (v : ℕ) → Contains (row rows 0) v ↔ (OfOne (children t holder) (IsNodeCalledBeside c s.callee t names) v ⊎ IsStayingNode s t functions v)
    pub sorted : AreSorted s t functions (length functions) (row rows 0)
    pub each : (i f : ℕ) → i < n → slice_get functions i ≡ Some f → (v : ℕ) → Contains (row rows (suc i)) v ↔ IsNodeCalledIn s.callee t names f v

  pub rows_begin : (r : List ℕ) → ((v : ℕ) → Contains r v ↔ (OfOne (children t holder) (IsNodeCalledBeside c s.callee t names) v ⊎ IsStayingNode s t functions v)) → AreSorted s t functions (length functions) r → RowsSoFar 0 (r ∷ [])
  rows_begin r first sorted = record { long = refl; first = first; sorted = sorted; each = λ i f lt at v. absurd (omega (arith, lt)) }

  pub rows_more : (n f : ℕ) (rows : List (List ℕ)) (r : List ℕ) → slice_get functions n ≡ Some f → ((v : ℕ) → Contains r v ↔ IsNodeCalledIn s.callee t names f v) → RowsSoFar n rows → RowsSoFar (n + 1) (rows ++ r ∷ [])
  rows_more n f rows r at one h = record {
    long = length-append rows (r ∷ []) ∙ (let l = h.long in omega (arith, l));
    first = λ v. subst (λ xs. Contains xs v ↔ (OfOne (children t holder) (IsNodeCalledBeside c s.callee t names) v ⊎ IsStayingNode s t functions v)) (sym head) (h.first v);
    sorted = subst (AreSorted s t functions (length functions)) (sym head) h.sorted;
    each = λ i g lt there v. ⊎_elim
        (λ below. subst (λ xs. Contains xs v ↔ IsNodeCalledIn s.callee t names g v) (sym (row_kept rows r (suc i) (let l = h.long in omega (arith, l, below)))) (h.each i g below there v))
        (λ e. subst (λ xs. Contains xs v ↔ IsNodeCalledIn s.callee t names g v) (sym (row_new rows r (suc i) (let l = h.long in omega (arith, l, e))))
        (subst (λ x. Contains r v ↔ IsNodeCalledIn s.callee t names x v) (same_Some f g (sym at ∙ ap (slice_get functions) (sym e) ∙ there)) (one v)))
        (below_more i n lt);
  }
    where
      head : row (rows ++ r ∷ []) 0 ≡ row rows 0
      head = row_kept rows r 0 (let l = h.long in omega (arith, l))

  pub rows_end : (rows : List (List ℕ)) → RowsSoFar (length functions) rows → AreCallRows c s t holder functions names rows
  rows_end rows h = record { long = h.long; first = h.first; sorted = h.sorted; each = λ i f at v. h.each i f (slice_get_within functions i f at) at v }

pub map_last : {A B : Type 0} (f : A → B) (xs : List A) (x : A) → map f (xs ++ x ∷ []) ≡ map f xs ++ f x ∷ []
map_last f [] x = refl
map_last f (y ∷ ys) x = ap (λ zs. f y ∷ zs) (map_last f ys x)
