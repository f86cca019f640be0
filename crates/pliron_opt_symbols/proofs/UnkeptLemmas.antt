-- The functions that the first node doesn't reach.
use Rattle.std.proofs.Common.{◌≡◌, ◌<◌, ◌⊎◌, inl, inr, ⊎_elim, ℕ, suc, ◌+◌, List, [], ◌∷◌, ◌++◌, length, Some, None, refl, sym, ap, ◌∙◌, subst, arith}
use Rattle.std.specs.Prelude.{◌↔◌, nat_eq, slice_get, slice_index_or}
use Rattle.std.specs.List.{All}
use Rattle.std.specs.Option.{option_to_list}
use Rattle.std.proofs.lemmas.Option.{slice_get_within, slice_get-get_or, same_Some}
use Rattle.pliron_core.specs.Tree.{Tree, In, IsDistinct, IsLive, IsWithin, parent_of}
use Rattle.pliron_core.specs.Invariant.{IsTree}
use Rattle.pliron_core.specs.Walks.{children}
use Rattle.pliron_core.proofs.ListLemmas.{In-left, In-right, In-cases}
use Rattle.pliron_core.proofs.EditLemmas.{distinct-push}
use Rattle.pliron_core.proofs.HoldingLemmas.{in_slice, slice_in}
use Rattle.pliron_core.proofs.ReadLemmas.{In-at}
use Rattle.pliron_core.proofs.WalkLemmas.{In-children, held_live}
use Rattle.pliron_laws.specs.Datum.{Datum}
use Rattle.pliron_laws.specs.Answers.{HeadPasses}
use Rattle.pliron_graph_traversal.specs.Adjacency.{Adjacency, graph_of}
use Rattle.pliron_graph_traversal.specs.Digraph.{IsReached}
use Rattle.pliron_graph_traversal.specs.Search.{IsListed}
use Rattle.pliron_pass_linked.specs.Calls.{CallingConvention}
use Rattle.pliron_graph_calls.specs.FunctionNames.{NamedFunctions, AreNamedFunctions, functions_among, names_among}
use Rattle.pliron_graph_calls.specs.Names.{names_of}
use Rattle.pliron_rewrite_symbols.specs.ErasedFunctions.{IsFunctionIn}
use Rattle.pliron_graph_calls.specs.Namesakes.{HasNamesakes}
use Rattle.pliron_opt_symbols.specs.Kept.{SymbolReads, IsKeptInModule, AreUnkept, IsTracedModule}
use Rattle.pliron_opt_symbols.specs.Rows.{AreCallRows, IsAlone, AreAtOnePlace, AreUnlisted, IsReachedOrGone}
use Rattle.pliron_opt_symbols.specs.Erasing.{AreErasableFunctions}
use Rattle.pliron_opt_symbols.proofs.FunctionLemmas.{listed_at, place_of_function, one_place, is_function, has_symbol, is_child}
use Rattle.pliron_opt_symbols.proofs.ReachedLemmas.{reached_kept, kept_reached, first_reached as kept_first}

below_more : (i n : ℕ) → i < n + 1 → (i < n) ⊎ (i ≡ n)
below_more i n lt = grind arith

module _ (functions found : List ℕ) where
  pub unlisted_none : AreUnlisted functions found 0 []
  unlisted_none = record { each = λ f i. absurd i; all = λ i f lt at. absurd (omega (arith, lt)); distinct = tt }

  pub unlisted_more : AreAtOnePlace functions → (n f : ℕ) (gone : List ℕ) → slice_get functions n ≡ Some f → (IsListed nat_eq found (suc n) → ⊥) → AreUnlisted functions found n gone → AreUnlisted functions found (n + 1) (gone ++ f ∷ [])
  unlisted_more once n f gone at never h = record {
    each = λ x i. ⊎_elim
        (λ j. let y = h.each x j in let lt = y.1 in (y.0, omega (arith, lt), y.2, y.3))
        (λ j. ⊎_elim (λ e. (n, omega arith, at ∙ ap Some (sym e), never)) (λ z. absurd z) j)
        (In-cases x gone (f ∷ []) i);
    all = λ i x lt there. ⊎_elim
        (λ below. ⊎_elim (λ j. inl (In-left x gone (f ∷ []) j)) (λ r. inr r) (h.all i x below there))
        (λ e. inl (In-right x gone (f ∷ []) (inl (same_Some x f (sym there ∙ ap (slice_get functions) e ∙ at)))))
        (below_more i n lt);
    distinct = distinct-push f gone (λ i. let y = h.each f i in let lt = y.1 in let e = once y.0 n f y.2 at in absurd (omega (arith, lt, e))) h.distinct;
  }

  pub unlisted_same : (n f : ℕ) (gone : List ℕ) → slice_get functions n ≡ Some f → IsListed nat_eq found (suc n) → AreUnlisted functions found n gone → AreUnlisted functions found (n + 1) gone
  unlisted_same n f gone at listed h = record {
    each = λ x i. let y = h.each x i in let lt = y.1 in (y.0, omega (arith, lt), y.2, y.3);
    all = λ i x lt there. ⊎_elim (λ below. h.all i x below there) (λ e. inr (subst (λ k. IsListed nat_eq found (suc k)) (sym e) listed)) (below_more i n lt);
    distinct = h.distinct;
  }

  pub unlisted_step : AreAtOnePlace functions → (n f : ℕ) (old new : List ℕ) → slice_get functions n ≡ Some f → IsReachedOrGone found n f old new → AreUnlisted functions found n old → AreUnlisted functions found (n + 1) new
  unlisted_step once n f old new at step h = ⊎_elim
      (λ y. subst (AreUnlisted functions found (n + 1)) (sym y.1) (unlisted_same n f old at y.0 h))
      (λ y. subst (AreUnlisted functions found (n + 1)) (sym y.1) (unlisted_more once n f old at y.0 h))
      step

module _ (c : CallingConvention) (s : SymbolReads) (t : Tree) (w : IsTree t) (holder : ℕ) (apart : HasNamesakes (names_among c t (children t holder)) → ⊥) (rows : List (List ℕ)) (h : AreCallRows c s t holder (functions_among c t (children t holder)) (names_among c t (children t holder)) rows) (g : Adjacency) (is : g.succ ≡ rows) where
  abbrev Reached : ℕ → Type 0
  Reached v = IsReached (graph_of g) (option_to_list (graph_of g).entry) v

  abbrev functions : List ℕ
  functions = functions_among c t (children t holder)

  -- no two places have one function
  pub one_function : AreAtOnePlace (functions_among c t (children t holder))
  one_function i j f at_i at_j =
      let x = listed_at c t (children t holder) i f at_i in
      let y = listed_at c t (children t holder) j f at_j in
      one_place (names_among c t (children t holder)) apart i j x.name x.named (y.named ∙ sym y.symbol ∙ x.symbol)

  module _ (nodes gone : List ℕ) (listed : (v : ℕ) → IsListed nat_eq nodes v ↔ Reached v) (found : AreUnlisted (functions_among c t (children t holder)) nodes (length (functions_among c t (children t holder))) gone) where
    pub unreached_unkept : AreUnkept c s t holder gone
    unreached_unkept = record {
      functions = λ f i. let x = found.each f i in let y = listed_at c t (children t holder) x.0 f x.2 in (y.name, is_function c t w holder f y.name y.listed y.symbol);
      unkept = λ f i kept. let x = found.each f i in x.3 ((listed (suc x.0)).1 (kept_reached c s t w holder rows h g is f kept x.0 x.2));
      others = λ f name function.
          let p = place_of_function c t (children t holder) f name (is_child c t w holder f name function) (has_symbol c t holder f name function) in
          ⊎_elim (λ i. inl i) (λ r. inr (reached_kept c s t w holder rows h g is p.0 f p.1 ((listed (suc p.0)).0 r))) (found.all p.0 f (slice_get_within functions p.0 f p.1) p.1);
    }

    -- what isn't reached is alone
    alone : (f : ℕ) → In f gone → IsAlone s t f
    alone f i = let x = found.each f i in
        ⊎_elim (λ there. absurd (x.3 ((listed (suc x.0)).1 (kept_first c s t w holder rows h g is (suc x.0) there)))) (λ a. a) (h.sorted x.0 f x.1 x.2)

    pub unreached_erasable : AreErasableFunctions t holder gone
    unreached_erasable = record {
      parents = λ f i. let x = found.each f i in (In-children t w f holder).0 (listed_at c t (children t holder) x.0 f x.2).listed;
      contained = λ f i. (alone f i).1;
      distinct = found.distinct;
    }

-- ---- the same by a table

module _ (c : CallingConvention) (s : SymbolReads) (t : Tree) (w : IsTree t) (holder : ℕ) (found : NamedFunctions) (a : AreNamedFunctions c t (children t holder) found) where
  no_namesakes : HasNamesakes (names_among c t (children t holder)) → ⊥
  no_namesakes h = a.apart (subst HasNamesakes (sym a.names) h)

  pub table_once : AreAtOnePlace found.functions
  table_once i j f at_i at_j =
      let x = listed_at c t (children t holder) i f (subst (λ xs. slice_get xs i ≡ Some f) a.functions at_i) in
      let y = listed_at c t (children t holder) j f (subst (λ xs. slice_get xs j ≡ Some f) a.functions at_j) in
      one_place (names_among c t (children t holder)) no_namesakes i j x.name x.named (y.named ∙ sym y.symbol ∙ x.symbol)

  module _ (rows : List (List ℕ)) (h : AreCallRows c s t holder found.functions (names_of found.names) rows) (g : Adjacency) (is : g.succ ≡ rows) (nodes gone : List ℕ) (listed : (v : ℕ) → IsListed nat_eq nodes v ↔ IsReached (graph_of g) (option_to_list (graph_of g).entry) v) (u : AreUnlisted found.functions nodes (length found.functions) gone) where
    rows_of : AreCallRows c s t holder (functions_among c t (children t holder)) (names_among c t (children t holder)) rows
    rows_of = subst (λ xs. AreCallRows c s t holder xs (names_among c t (children t holder)) rows) a.functions (subst (λ xs. AreCallRows c s t holder found.functions xs rows) a.names h)

    unlisted_of : AreUnlisted (functions_among c t (children t holder)) nodes (length (functions_among c t (children t holder))) gone
    unlisted_of = subst (λ xs. AreUnlisted xs nodes (length xs) gone) a.functions u

    pub table_unkept : AreUnkept c s t holder gone
    table_unkept = unreached_unkept c s t w holder no_namesakes rows rows_of g is nodes gone listed unlisted_of

    pub table_erasable : AreErasableFunctions t holder gone
    table_erasable = unreached_erasable c s t w holder no_namesakes rows rows_of g is nodes gone listed unlisted_of

  -- a function of the table is one directly in the operation
  pub in_table : (f : ℕ) → In f found.functions → (name : Datum) × IsFunctionIn c t holder f name
  in_table f i =
      let at = slice_in (functions_among c t (children t holder)) f (subst (In f) a.functions i) in
      let x = listed_at c t (children t holder) at.0 f at.1 in
      (x.name, is_function c t w holder f x.name x.listed x.symbol)

  pub table_has : (f : ℕ) (name : Datum) → IsFunctionIn c t holder f name → In f found.functions
  table_has f name h =
      let p = place_of_function c t (children t holder) f name (is_child c t w holder f name h) (has_symbol c t holder f name h) in
      subst (In f) (sym a.functions) (in_slice (functions_among c t (children t holder)) p.0 f p.1)

  pub table_live : All (λ f. IsLive t f) found.functions
  table_live k d lt = let x = in_table (slice_index_or found.functions k d) (In-at found.functions k (slice_index_or found.functions k d) (slice_get-get_or found.functions k d lt)) in held_live t w (slice_index_or found.functions k d) holder x.1.parent

  -- where one may call any, it is no such module
  pub untraced_module : ((f k : ℕ) → In f found.functions → IsWithin t f k → HeadPasses s.is_traced t k) → parent_of t holder ≡ None → IsTracedModule c s t holder
  untraced_module traced free = record { free = free; apart = no_namesakes; traced = λ f k name function within. traced f k (table_has f name function) within }

  pub traced_functions : IsTracedModule c s t holder → (f k : ℕ) → In f found.functions → IsWithin t f k → HeadPasses s.is_traced t k
  traced_functions m f k i within = let x = in_table f i in m.traced f k x.0 x.1 within

pub none_erasable : (t : Tree) (holder : ℕ) → AreErasableFunctions t holder []
none_erasable t holder = record { parents = λ f i. absurd i; contained = λ f i. absurd i; distinct = tt }
