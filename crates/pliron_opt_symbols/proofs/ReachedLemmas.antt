-- What the first node reaches is what is kept.
use Rattle.std.proofs.Common.{◌≡◌, ◌⊎◌, inl, inr, ⊎_elim, ℕ, zero, suc, List, [], ◌∷◌, ◌++◌, length, Option, Some, None, refl, sym, ap, ◌∙◌, subst, arith}
use Rattle.std.specs.Prelude.{Contains, slice_get, slice_index_or}
use Rattle.std.specs.Option.{option_to_list}
use Rattle.std.proofs.lemmas.Option.{same_Some}
use Rattle.pliron_core.specs.Tree.{Tree, In, parent_operation_of}
use Rattle.pliron_core.specs.Invariant.{IsTree}
use Rattle.pliron_core.specs.Walks.{children}
use Rattle.pliron_core.proofs.HoldingLemmas.{not_none}
use Rattle.pliron_core.proofs.WalkLemmas.{In-children}
use Rattle.pliron_laws.specs.Datum.{Datum}
use Rattle.pliron_graph_traversal.specs.Adjacency.{Adjacency, row, count_from, first_listed, graph_of}
use Rattle.pliron_graph_traversal.specs.Digraph.{Digraph, IsPath, IsReached}
use Rattle.pliron_pass_linked.specs.Calls.{CallingConvention}
use Rattle.pliron_graph_calls.specs.CallSites.{callee_at}
use Rattle.pliron_graph_calls.specs.FunctionNames.{symbol_at, functions_among, names_among}
use Rattle.pliron_graph_calls.specs.Namesakes.{HasNamesakes}
use Rattle.pliron_rewrite_symbols.specs.ErasedFunctions.{IsFunctionIn}
use Rattle.pliron_opt_symbols.specs.Kept.{SymbolReads, IsErasableFunction, IsKeptInModule, IsKeptInModule.Stays, IsKeptInModule.Called}
use Rattle.pliron_opt_symbols.specs.Rows.{IsCalleeNode, IsNodeCalledIn, AreCallRows}
use Rattle.pliron_opt_symbols.proofs.FunctionLemmas.{listed_at, place_of_function, function_at, is_function, has_symbol, is_child}

-- one edge more
path_more : (g : Digraph ℕ) (ws : List ℕ) (u v w : ℕ) → IsPath g u ws v → Contains (g.succ v) w → IsPath g u (ws ++ w ∷ []) w
path_more g [] u v w p e = (subst (λ z. Contains (g.succ z) w) (sym p) e, refl)
path_more g (x ∷ ws) u v w p e = (p.0, path_more g ws x v w p.1 e)

reached_more : (g : Digraph ℕ) (roots : List ℕ) (v w : ℕ) → IsReached g roots v → Contains (g.succ v) w → IsReached g roots w
reached_more g roots v w r e = (r.0, r.1, (r.2.0 ++ w ∷ [], path_more g r.2.0 r.0 v w r.2.1 e))

kept_parent : (c : CallingConvention) (s : SymbolReads) (t : Tree) (holder x : ℕ) → IsKeptInModule c s t holder x → parent_operation_of t x ≡ Some holder
kept_parent c s t holder x (Stays y e cannot) = e
kept_parent c s t holder f (Called x k g name kept i e function) = function.parent

module _ (c : CallingConvention) (s : SymbolReads) (t : Tree) (w : IsTree t) (holder : ℕ) (rows : List (List ℕ)) (h : AreCallRows c s t holder (functions_among c t (children t holder)) (names_among c t (children t holder)) rows) where
  abbrev functions : List ℕ
  functions = functions_among c t (children t holder)

  abbrev names : List Datum
  names = names_among c t (children t holder)

  -- the first node, or that of a function that is kept
  abbrev Good : ℕ → Type 0
  Good v = (v ≡ 0) ⊎ ((i : ℕ) × (f : ℕ) × (v ≡ suc i) × (slice_get functions i ≡ Some f) × IsKeptInModule c s t holder f)

  called_kept : (x v : ℕ) → IsKeptInModule c s t holder x → IsNodeCalledIn s.callee t names x v → Good v
  called_kept x v kept y =
      let f = function_at c t (children t holder) y.2.place y.2.name y.2.named in
      inr (y.2.place, f.0, y.2.node, f.1, Called x y.0 f.0 y.2.name kept y.1 y.2.calls (is_function c t w holder f.0 y.2.name f.3 f.2))

  step_good : (u v : ℕ) → Good u → Contains (row rows u) v → Good v
  step_good u v (inl e) there = ⊎_elim
      (λ x. called_kept x.0 v (Stays x.0 ((In-children t w x.0 holder).0 x.1) (λ (go : IsErasableFunction c s t holder x.0). not_none (sym x.2.0 ∙ has_symbol c t holder x.0 go.name go.function))) x.2.1)
      (λ x. inr (x.0, x.1, x.2, x.3, Stays x.1 ((In-children t w x.1 holder).0 (listed_at c t (children t holder) x.0 x.1 x.3).listed) (λ (go : IsErasableFunction c s t holder x.1). x.4 (go.private, go.contained))))
      ((h.first v).0 (subst (λ z. Contains (row rows z) v) e there))
  step_good u v (inr x) there = called_kept x.1 v x.4 ((h.each x.0 x.1 x.3 v).0 (subst (λ z. Contains (row rows z) v) x.2 there))

  module _ (g : Adjacency) (is : g.succ ≡ rows) where
    path_good : (ws : List ℕ) (u v : ℕ) → Good u → IsPath (graph_of g) u ws v → Good v
    path_good [] u v good p = subst Good p good
    path_good (x ∷ ws) u v good p = path_good ws x v (step_good u x good (subst (λ z. Contains (row z u) x) is p.0)) p.1

    entry : option_to_list (graph_of g).entry ≡ 0 ∷ []
    entry = ap (λ n. option_to_list (first_listed (count_from 0 n))) (ap length is ∙ h.long)

    roots_first : (r : ℕ) → Contains (0 ∷ []) r → r ≡ 0
    roots_first r i = let lt = i.1 in let at : i.0 ≡ 0 = omega (arith, lt) in sym (subst (λ k. slice_index_or (0 ∷ []) k r ≡ r) at i.2)

    -- a function whose node is reached is kept
    pub reached_kept : (i f : ℕ) → slice_get functions i ≡ Some f → IsReached (graph_of g) (option_to_list (graph_of g).entry) (suc i) → IsKeptInModule c s t holder f
    reached_kept i f at r = ⊎_elim
        (λ e. absurd (grind (arith, e)))
        (λ x. let same : i ≡ x.0 = let e = x.2 in omega (arith, e) in subst (IsKeptInModule c s t holder) (same_Some x.1 f (sym x.3 ∙ ap (slice_get functions) (sym same) ∙ at)) x.4)
        (path_good r.2.0 r.0 (suc i) (inl (roots_first r.0 (subst (λ xs. Contains xs r.0) entry r.1))) r.2.1)

    abbrev Reached : ℕ → Type 0
    Reached v = IsReached (graph_of g) (option_to_list (graph_of g).entry) v

    starts : Reached 0
    starts = (0, subst (λ xs. Contains xs 0) (sym entry) (0, omega arith, refl), ([], refl))

    follows : (u v : ℕ) → Reached u → Contains (row rows u) v → Reached v
    follows u v r e = reached_more (graph_of g) (option_to_list (graph_of g).entry) u v r (subst (λ z. Contains (row z u) v) (sym is) e)

    -- what is kept anyway is reached
    pub first_reached : (v : ℕ) → Contains (row rows 0) v → Reached v
    first_reached v e = follows 0 v starts e

    -- the node of a function whose name is called
    node_named : (k i f : ℕ) (name : Datum) → slice_get functions i ≡ Some f → symbol_at c t f ≡ Some name → callee_at s.callee t k ≡ Some name → IsCalleeNode s.callee t names k (suc i)
    node_named k i f name at own e =
        let x = listed_at c t (children t holder) i f at in
        record { place = i; node = refl; name = name; calls = e; named = x.named ∙ sym x.symbol ∙ own }

    -- the node of a function that is kept is reached
    pub kept_reached : (x : ℕ) → IsKeptInModule c s t holder x → (i : ℕ) → slice_get functions i ≡ Some x → Reached (suc i)
    kept_reached x (Stays y e cannot) i at = follows 0 (suc i) starts ((h.first (suc i)).1 (inr (i, x, refl, at, λ alone. let y = listed_at c t (children t holder) i x at in cannot (record { name = y.name; function = is_function c t w holder x y.name y.listed y.symbol; private = alone.0; contained = alone.1 }))))
    kept_reached f (Called x k g name kept within e function) i at = go (symbol_at c t x) refl (λ j there. kept_reached x kept j there)
      where
        called : IsNodeCalledIn s.callee t names x (suc i)
        called = (k, within, node_named k i f name at (has_symbol c t holder f name function) e)

        child : In x (children t holder)
        child = (In-children t w x holder).1 (kept_parent c s t holder x kept)

        go : (o : Option Datum) → symbol_at c t x ≡ o → ((j : ℕ) → slice_get functions j ≡ Some x → Reached (suc j)) → Reached (suc i)
        go None none later = follows 0 (suc i) starts ((h.first (suc i)).1 (inl (x, child, (none, called))))
        go (Some own) has later =
            let p = place_of_function c t (children t holder) x own child has in
            follows (suc p.0) (suc i) (later p.0 p.1) ((h.each p.0 x p.1 (suc i)).1 called)
