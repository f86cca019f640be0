-- The tables of a graph by adjacency lists, as its builder fills them.
use Rattle.std.proofs.Common.{◌≡◌, ℕ, zero, suc, ◌+◌, ◌-◌, ◌^◌, ◌<◌, ◌≤◌, Bool, true, false, ◌&&◌, ◌||◌, List, [], ◌∷◌, ◌++◌, length, set, get_or, replicate, length-set, length-append, map, take, drop, append-nil, Contains, Some, slice_get, nat_eq, refl, sym, ◌∙◌, ap, subst, arith, inl, inr, ◌⊎◌, true≢false, add-one}
use Rattle.std.specs.Prelude.{nat_lt}
use Rattle.std.specs.List.{All, list_any}
use Rattle.std.proofs.lemmas.List.{get_or-set_same, get_or-set_other, map-set, get_or-map, take_more, take_all, drop_all, length-map}
use Rattle.std.proofs.lemmas.List.Elements.{All-nil, All-replicate, All-get_or, All-set, All-push, All-map}
use Rattle.std.proofs.lemmas.Option.{slice_get-get_or}
use Rattle.std.proofs.Math.ListN.{get_or-append}
use Rattle.std.proofs.Math.Seq.{get_or-append_seam}
use Rattle.std.proofs.lemmas.Bool.Decides.{eqb_tells, nat_tests}
use Rattle.pliron_graph_traversal.specs.Internal.Membership.{any_append}
use Rattle.pliron_graph_traversal.specs.Internal.AdjacencyLawful.{node_below}
use Rattle.pliron_graph_traversal.specs.Adjacency.{row, count_from, AreBelow, AreInverse}
use Rattle.pliron_graph_traversal.specs.Internal.AddedEdges.{AddsEdges, AddsRows, RiseBelow}
use Rattle.std.specs.List.Sorted.{IsStrictlyIncreasing}

pub row_of_empty : (n v : ℕ) → row (replicate n []) v ≡ []
row_of_empty zero v = refl
row_of_empty (suc n) zero = refl
row_of_empty (suc n) (suc v) = row_of_empty n v

lt_tells : (x i : ℕ) → ((nat_lt x i ≡ true) × (x < i)) ⊎ ((nat_lt x i ≡ false) × (i ≤ x))
lt_tells x i = grind (arith, nat_tests)

pub adds_no_row : (succ pred : List (List ℕ)) (n : ℕ) → n ≡ length succ → length pred ≡ n → pred ≡ replicate n [] → AddsRows succ pred 0
adds_no_row succ pred n same size is = record {
  paired = size ∙ same;
  listed = λ x v l. elim (lt_tells x 0) [
    | inl t ↦ absurd (omega (arith, t.1))
    | inr t ↦ rw (is, row_of_empty n v, t.0) refl
  ];
  rising = subst (RiseBelow 0) (sym is) (All-replicate (λ r. IsStrictlyIncreasing r × All (λ x. x < 0) r) n [] ((λ k l. absurd (omega (arith, l))), All-nil (λ x. x < 0)));
  below = subst (AreBelow (length succ)) (sym is) (All-replicate (λ r. All (λ v. v < length succ) r) n [] (All-nil (λ v. v < length succ)));
}

-- a list that rises to numbers at most u, and does not end with u, goes on rising with u
pub rises_with : (xs : List ℕ) (u : ℕ) → IsStrictlyIncreasing xs × All (λ x. x < u + 1) xs → (slice_get xs (length xs - 1) ≡ Some u → ⊥)
    → IsStrictlyIncreasing (xs ++ u ∷ []) × All (λ x. x < u + 1) (xs ++ u ∷ [])
rises_with xs u h other = (rises, All-push (λ x. x < u + 1) xs u h.1 (omega arith))
  where
    less_or_same : (a : ℕ) → a < u + 1 → (a < u) ⊎ (a ≡ u)
    less_or_same a l = grind (arith, l)

    last_below : (k : ℕ) → k + 1 ≡ length xs → get_or xs k 0 < u
    last_below k e = elim (less_or_same (get_or xs k 0) (h.1 k 0 (omega (arith, e)))) [
      | inl l ↦ l
      | inr same ↦
          let last : k ≡ length xs - 1 = omega (arith, e) in
          absurd (other (subst (λ i. slice_get xs i ≡ Some u) last (slice_get-get_or xs k 0 (omega (arith, e)) ∙ ap Some same)))
    ]

    inside : (k : ℕ) → k + 1 < length (xs ++ u ∷ []) → (k + 1 < length xs) ⊎ (k + 1 ≡ length xs)
    inside k l = let size : length (xs ++ u ∷ []) ≡ length xs + 1 = length-append xs (u ∷ []) in grind (arith, l, size)

    rises : IsStrictlyIncreasing (xs ++ u ∷ [])
    rises k l = elim (inside k l) [
      | inl n ↦ rw (get_or-append xs (u ∷ []) 0 k (omega (arith, n)), get_or-append xs (u ∷ []) 0 (k + 1) n) (h.0 k n)
      | inr e ↦
          let last : get_or (xs ++ u ∷ []) (k + 1) 0 ≡ u = subst (λ i. get_or (xs ++ u ∷ []) i 0 ≡ u) (sym e) (get_or-append_seam xs u [] 0) in
          rw (get_or-append xs (u ∷ []) 0 k (omega (arith, e)), last) (last_below k e)
    ]

pub adds_edge : (rows : List (List ℕ)) (u w : ℕ) (r : List ℕ) → w < length rows
    → ((r ≡ row rows w ++ u ∷ []) × (slice_get (row rows w) (length (row rows w) - 1) ≡ Some u → ⊥)) ⊎ ((r ≡ row rows w) × (list_any (nat_eq u) (row rows w) ≡ true)) → AddsEdges rows (set rows w r) u (w ∷ [])
adds_edge rows u w r l cases = record {
  same_length = length-set rows w r;
  listed = λ x v m. elim (eqb_tells v w) [
    | inl t ↦
        let here : row (set rows w r) v ≡ r = subst (λ z. row (set rows w r) z ≡ r) (sym t.1) (get_or-set_same rows w r [] l) in
        let old : row rows v ≡ row rows w = ap (row rows) t.1 in
        rw (here, old, t.0) (at_row x)
    | inr t ↦
        let here : row (set rows w r) v ≡ row rows v = get_or-set_other rows w v r [] t.1 in
        rw (here, t.0) (unchanged (list_any (nat_eq x) (row rows v)) (nat_eq x u))
  ];
  below = λ n m h. All-set (λ z. All (λ y. y < n) z) rows w r (row_below n m h) h;
  rising = λ h. All-set (λ z. IsStrictlyIncreasing z × All (λ y. y < u + 1) z) rows w r (row_rises h) h;
}
  where
    unchanged : (a p : Bool) → a ≡ a || (p && (false || false))
    unchanged true p = refl
    unchanged false true = refl
    unchanged false false = refl

    pushed : (a p : Bool) → a || (p || false) ≡ a || (p && (true || false))
    pushed true p = refl
    pushed false true = refl
    pushed false false = refl

    kept : (x : ℕ) (p : Bool) → nat_eq x u ≡ p → list_any (nat_eq u) (row rows w) ≡ true → list_any (nat_eq x) (row rows w) ≡ list_any (nat_eq x) (row rows w) || (p && (true || false))
    kept x false e h = unchanged_at (list_any (nat_eq x) (row rows w))
      where
        unchanged_at : (a : Bool) → a ≡ a || (false && (true || false))
        unchanged_at true = refl
        unchanged_at false = refl
    kept x true e h = elim (eqb_tells x u) [
      | inl t ↦ let there : list_any (nat_eq x) (row rows w) ≡ true = subst (λ z. list_any (nat_eq z) (row rows w) ≡ true) (sym t.1) h in rw there refl
      | inr t ↦ absurd (true≢false (sym e ∙ t.0))
    ]

    at_row : (x : ℕ) → list_any (nat_eq x) r ≡ list_any (nat_eq x) (row rows w) || (nat_eq x u && (true || false))
    at_row x = elim cases [
      | inl e ↦ rw (e.0, any_append nat_eq x (row rows w) (u ∷ [])) (pushed (list_any (nat_eq x) (row rows w)) (nat_eq x u))
      | inr e ↦ ap (list_any (nat_eq x)) e.0 ∙ kept x (nat_eq x u) refl e.1
    ]

    row_below : (n : ℕ) → u < n → AreBelow n rows → All (λ y. y < n) r
    row_below n m h = elim cases [
      | inl e ↦ subst (All (λ y. y < n)) (sym e.0) (All-push (λ y. y < n) (row rows w) u (All-get_or (λ z. All (λ y. y < n) z) rows w [] l h) m)
      | inr e ↦ subst (All (λ y. y < n)) (sym e.0) (All-get_or (λ z. All (λ y. y < n) z) rows w [] l h)
    ]

    row_rises : RiseBelow (u + 1) rows → IsStrictlyIncreasing r × All (λ y. y < u + 1) r
    row_rises h =
        let before : IsStrictlyIncreasing (row rows w) × All (λ y. y < u + 1) (row rows w) = All-get_or (λ z. IsStrictlyIncreasing z × All (λ y. y < u + 1) z) rows w [] l h in
        elim cases [
          | inl e ↦ subst (λ z. IsStrictlyIncreasing z × All (λ y. y < u + 1) z) (sym e.0) (rises_with (row rows w) u before e.1)
          | inr e ↦ subst (λ z. IsStrictlyIncreasing z × All (λ y. y < u + 1) z) (sym e.0) before
        ]

pub adds_no_edge : (rows : List (List ℕ)) (u : ℕ) → AddsEdges rows rows u []
adds_no_edge rows u = record {
  same_length = refl;
  listed = λ x v l. by (list_any (nat_eq x) (row rows v)) (nat_eq x u);
  below = λ n l h. h;
  rising = λ h. h;
}
  where
    by : (a p : Bool) → a ≡ a || (p && false)
    by true p = refl
    by false true = refl
    by false false = refl

pub adds_more : (a b c : List (List ℕ)) (u w : ℕ) (ts : List ℕ) → AddsEdges a b u ts → AddsEdges b c u (w ∷ []) → AddsEdges a c u (ts ++ w ∷ [])
adds_more a b c u w ts first next = record {
  same_length = next.same_length ∙ first.same_length;
  listed = λ x v l.
      next.listed x v (omega (arith, l, first.same_length)) ∙ ap (λ z. z || (nat_eq x u && list_any (nat_eq v) (w ∷ []))) (first.listed x v l)
      ∙ joined_tests (list_any (nat_eq x) (row a v)) (nat_eq x u) (list_any (nat_eq v) ts) (list_any (nat_eq v) (w ∷ []))
      ∙ ap (λ z. list_any (nat_eq x) (row a v) || (nat_eq x u && z)) (sym (any_append nat_eq v ts (w ∷ [])));
  below = λ n l h. next.below n l (first.below n l h);
  rising = λ h. next.rising (first.rising h);
}
  where
    joined_tests : (o p s t : Bool) → (o || (p && s)) || (p && t) ≡ o || (p && (s || t))
    joined_tests true p s t = refl
    joined_tests false true s t = refl
    joined_tests false false s t = refl

pub adds_row : (succ pred pred' : List (List ℕ)) (i : ℕ) → i < length succ → AddsRows succ pred i → AddsEdges pred pred' i (row succ i) → AddsRows succ pred' (i + 1)
adds_row succ pred pred' i within rows edges = record {
  paired = edges.same_length ∙ rows.paired;
  listed = λ x v l.
      edges.listed x v (omega (arith, l, rows.paired)) ∙ ap (λ z. z || (nat_eq x i && list_any (nat_eq v) (row succ i))) (rows.listed x v l) ∙ taken x v;
  below = edges.below (length succ) within rows.below;
  rising = edges.rising (λ k d l. ((rows.rising k d l).0, λ j e m. omega (arith, (rows.rising k d l).1 j e m)));
}
  where
    taken : (x v : ℕ) → (nat_lt x i && list_any (nat_eq v) (row succ x)) || (nat_eq x i && list_any (nat_eq v) (row succ i)) ≡ nat_lt x (i + 1) && list_any (nat_eq v) (row succ x)
    taken x v = elim (eqb_tells x i) [
      | inl t ↦ elim (lt_tells x i) [
        | inl s ↦ absurd (omega (arith, s.1, t.1))
        | inr s ↦ elim (lt_tells x (i + 1)) [
          | inl k ↦ rw (s.0, t.0, k.0) (ap (λ z. list_any (nat_eq v) (row succ z)) (sym t.1))
          | inr k ↦ absurd (omega (arith, k.1, t.1))
        ]
      ]
      | inr t ↦ elim (lt_tells x i) [
        | inl s ↦ elim (lt_tells x (i + 1)) [
          | inl k ↦ rw (s.0, t.0, k.0) (kept (list_any (nat_eq v) (row succ x)))
          | inr k ↦ absurd (omega (arith, s.1, k.1))
        ]
        | inr s ↦ elim (lt_tells x (i + 1)) [
          | inl k ↦ absurd (t.1 (omega (arith, s.1, k.1)))
          | inr k ↦ rw (s.0, t.0, k.0) refl
        ]
      ]
    ]
      where
        kept : (a : Bool) → a || false ≡ a
        kept true = refl
        kept false = refl

pub all_rows : (succ pred : List (List ℕ)) (i : ℕ) → length succ ≤ i → length succ < 2 ^ 32 → AreBelow (length succ) succ → AddsRows succ pred i → AreInverse (record { succ = succ; pred = pred })
all_rows succ pred i past few below rows = record {
  few = few;
  paired = rows.paired;
  succ_below = below;
  pred_below = rows.below;
  inverse = λ u v hu hv. rows.listed u v hv ∙ elim (lt_tells u i) [
    | inl t ↦ rw t.0 refl
    | inr t ↦ absurd (omega (arith, hu, past, t.1))
  ];
}

pub count_push : (i n : ℕ) → count_from i (n + 1) ≡ count_from i n ++ (i + n) ∷ []
count_push i n = rw add-one (step i n)
  where
    step : (i n : ℕ) → count_from i (suc n) ≡ count_from i n ++ (i + n) ∷ []
    step i zero = ap (λ x. x ∷ []) (omega arith)
    step i (suc n) = ap (λ x. i ∷ x) (step (i + 1) n ∙ ap (λ x. count_from (i + 1) n ++ x ∷ []) (omega arith))

-- in terms of the items of vectors
module _ {A : Type 0} (f : A → List ℕ) where
  pub succ_row : (succ xs : List A) (v : ℕ) → Contains (count_from 0 (length (map f succ))) v → xs ≡ succ → v < length xs
  succ_row succ xs v member same = omega (arith, node_below (length (map f succ)) v member, length-map succ f, ap length same)

  pub pred_row : (succ pred xs : List A) (v : ℕ) → AreInverse (record { succ = map f succ; pred = map f pred }) → Contains (count_from 0 (length (map f succ))) v → xs ≡ pred → v < length xs
  pred_row succ pred xs v rows member same = omega (arith, node_below (length (map f succ)) v member, rows.paired, length-map pred f, ap length same)

  pub adds_at : (first now : List A) (u i : ℕ) (ts : List ℕ) (y d : A) → i < length ts → get_or ts i 0 < length now
      → ((f y ≡ f (get_or now (get_or ts i 0) d) ++ u ∷ []) × (slice_get (f (get_or now (get_or ts i 0) d)) (length (f (get_or now (get_or ts i 0) d)) - 1) ≡ Some u → ⊥)) ⊎ ((f y ≡ f (get_or now (get_or ts i 0) d)) × (list_any (nat_eq u) (f (get_or now (get_or ts i 0) d)) ≡ true))
      → AddsEdges (map f first) (map f now) u (take i ts) → AddsEdges (map f first) (map f (set now (get_or ts i 0) y)) u (take (i + 1) ts)
  adds_at first now u i ts y d l within cases h =
      let old : row (map f now) (get_or ts i 0) ≡ f (get_or now (get_or ts i 0) d) = get_or-map f now (get_or ts i 0) d [] within in
      let one : AddsEdges (map f now) (set (map f now) (get_or ts i 0) (f y)) u (get_or ts i 0 ∷ []) =
      adds_edge (map f now) u (get_or ts i 0) (f y) (omega (arith, within, length-map now f)) (rw old cases) in
      rw (map-set f now (get_or ts i 0) y, take_more ts i 0 l) (adds_more (map f first) (map f now) (set (map f now) (get_or ts i 0) (f y)) u (get_or ts i 0) (take i ts) h one)

  pub below_items : (n : ℕ) (rows : List A) → All (λ r. All (λ v. v < n) (f r)) rows → AreBelow n (map f rows)
  below_items n rows h = All-map (λ r. All (λ v. v < n) r) f rows h

  -- the rows of all nodes have no edge yet
  pub none_added : (succ pred : List A) (n : ℕ) → n ≡ length succ → length pred ≡ n → map f pred ≡ replicate n [] → AddsRows (map f succ) (map f pred) 0
  none_added succ pred n same size is = adds_no_row (map f succ) (map f pred) n (same ∙ sym (length-map succ f)) (length-map pred f ∙ size) is

  -- one row is added, by a slice that the vector lent
  pub row_added : (succ old new : List A) (i n : ℕ) (targets : List ℕ) (d : A) → i < length succ → length new ≡ length old → n ≡ length old → targets ≡ f (get_or succ i d)
      → AddsRows (map f succ) (map f old) i → AddsEdges (map f old) (map f new) i targets → AddsRows (map f succ) (map f (take n (new ++ drop (length new) old))) (i + 1)
  row_added succ old new i n targets d l size count is rows edges =
      let whole : take n (new ++ drop (length new) old) ≡ new =
      rw (drop_all (length new) old (omega (arith, size)), append-nil) (take_all n new (omega (arith, size, count))) in
      let row_is : row (map f succ) i ≡ targets = get_or-map f succ i d [] l ∙ sym is in
      rw whole (adds_row (map f succ) (map f old) (map f new) i (omega (arith, l, length-map succ f)) rows (rw row_is edges))

  -- the rows of all nodes rise
  pub rows_rise : (succ pred : List A) (i : ℕ) → AddsRows (map f succ) (map f pred) i → All IsStrictlyIncreasing (map f pred)
  rows_rise succ pred i rows k d l = (rows.rising k d l).0

  pub rows_done : (succ pred : List A) (i : ℕ) → length succ ≤ i → length succ < 2 ^ 32 → All (λ r. All (λ v. v < length succ) (f r)) succ → AddsRows (map f succ) (map f pred) i → AreInverse (record { succ = map f succ; pred = map f pred })
  rows_done succ pred i past few below rows =
      let size : length (map f succ) ≡ length succ = length-map succ f in
      all_rows (map f succ) (map f pred) i (omega (arith, past, size)) (rw size few) (subst (λ n. AreBelow n (map f succ)) (sym size) (below_items (length succ) succ below)) rows
