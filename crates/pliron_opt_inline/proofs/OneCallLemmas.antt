-- One call is inlined: what is kept, and which heads stay.
use Rattle.std.proofs.Common.{◌≡◌, ◌≢◌, inl, inr, ℕ, ◌<◌, ◌≤◌, true, MatchOption, List, [], ◌∷◌, ◌++◌, length, Option, Some, None, Result, Ok, Err, OnErr, is_some, refl, sym, ap, ◌∙◌, subst, append_assoc, arith}
use Rattle.std.specs.Option.{option_and_then}
use Rattle.pliron_core.specs.declared.attrs.Head.{Head}
use Rattle.pliron_core.specs.Changes.{IsSameTree}
use Rattle.pliron_core.specs.Invariant.{IsTree}
use Rattle.pliron_core.specs.Reads.{next_of}
use Rattle.pliron_core.specs.Tree.{Tree, In, IsLive, IsBlock, up_from, first_of, next_in, last_of, row_of, head_of, parent_of, body_of}
use Rattle.pliron_core.proofs.HoldingLemmas.{some_is, not_none}
use Rattle.pliron_core.proofs.ListLemmas.{In-right}
use Rattle.pliron_core.proofs.NeighbourLemmas.{next_in-first, next_in-other}
use Rattle.pliron_core.proofs.RowLemmas.{last_of-append}
use Rattle.pliron_core.proofs.TreeLemmas.{live-within}
use Rattle.pliron_laws.specs.Answers.{ReadsHead}
use Rattle.pliron_laws.specs.Datum.{Datum, Meaning}
use Rattle.pliron_theory.specs.Keeps.{IsFit, KeepsAllRuns}
use Rattle.pliron_theory.proofs.SweptKeeps.{same_keeps}
use Rattle.pliron_theory.proofs.WholeChanges.{all_refl}
use Rattle.pliron_pass_linked.specs.Calls.{CallingConvention}
use Rattle.pliron_pass_linked.specs.KeepsLinked.{KeepsPrograms, KeepsLinkedRuns, with_module}
use Rattle.pliron_pass_linked.proofs.KeepsLinked.{keeping_laws}
use Rattle.pliron_rewrite_inlining.specs.Inlined.{InlinedCall, HasNewJump}
use Rattle.pliron_rewrite_inlining.proofs.Modules.{here_tree}
use Rattle.pliron_rewrite_calls.specs.Inlining.{IsInlined}
use Rattle.pliron_rewrite_calls.specs.Preparing.{IsCallPrepared, IsLedOn}
use Rattle.pliron_graph_calls.specs.CallSites.{callee_at}
use Rattle.pliron_graph_calls.specs.FunctionNames.{symbol_at}
use Rattle.pliron_opt_inline.specs.InTurn.{InlinedName, KeepsProgramsLinkedBy}
use Rattle.pliron_opt_inline.proofs.InTurnLemmas.{twice, in_turn_laws}

-- ---- what keeps the linked runs of programs

pub unchanged : (m : Meaning) (t : Tree) → KeepsPrograms m t t
unchanged m t = keeping_laws.one_module m t t (all_refl m t m.may_be_root)

pub by_runs : (m : Meaning) (t u : Tree) → KeepsAllRuns m t u → KeepsPrograms m t u
by_runs m t u k = keeping_laws.one_module m t u (k m.may_be_root)

pub by_same : (m : Meaning) (t u : Tree) → IsTree t → IsTree u → IsSameTree t u → length t.operations ≤ length u.operations → KeepsPrograms m t u
by_same m t u w wu same longer = keeping_laws.one_module m t u (same_keeps m t u w wu same longer)

pub both_keep : (m : Meaning) (t u v : Tree) → KeepsPrograms m t u → KeepsPrograms m u v → KeepsPrograms m t v
both_keep m t u v a b = λ c p n e.
    let q = with_module p n u in
    keeping_laws.transitive m c p q (with_module p n v) (a c p n e) (subst (KeepsLinkedRuns m c q) (twice p n u v) (b c q n (here_tree p n u)))

pub then_linked : (m : Meaning) (c : CallingConvention) (x : InlinedName) (t u v : Tree) → KeepsPrograms m t u → KeepsProgramsLinkedBy m c (x ∷ []) u v → KeepsProgramsLinkedBy m c (x ∷ []) t v
then_linked m c x t u v a b = in_turn_laws.in_turn m c [] (x ∷ []) t u v (in_turn_laws.none m c t u a) b

pub named_keeps : (m : Meaning) (c : CallingConvention) (x : InlinedName) (t u : Tree) → KeepsPrograms m t u → KeepsProgramsLinkedBy m c (x ∷ []) t u
named_keeps m c x t u a = in_turn_laws.wider m c [] (x ∷ []) t u (in_turn_laws.none m c t u a)

-- what is fit to run is fit where its head stays
pub fit_kept : (m : Meaning) (t u : Tree) → KeepsAllRuns m t u → (k : ℕ) → IsFit m t k → head_of u k ≡ head_of t k → IsFit m u k
fit_kept m t u runs k fit same = (runs m.may_be_root).stays k fit (subst (λ o. is_some o ≡ true) (sym same) fit.live)

-- ---- what is read of heads

pub head_there : {A : Type 0} (f : Head → Option A) (o : Option Head) (a : A) → option_and_then f o ≡ Some a → (h : Head) × (o ≡ Some h) × (f h ≡ Some a)
head_there f None a e = absurd (not_none e)
head_there f (Some h) a e = (h, refl, e)

pub live_by : {A : Type 0} (f : Head → Option A) (t : Tree) (k : ℕ) (a : A) → option_and_then f (head_of t k) ≡ Some a → IsLive t k
live_by f t k a e = ap is_some (head_there f (head_of t k) a e).1

pub read_name : (f : Head → Option Datum) (t : Tree) (k : ℕ) (symbol name : Datum) → callee_at f t k ≡ Some symbol → ReadsHead f t k (Some name) → name ≡ symbol
read_name f t k symbol name e reads = let h = head_there f (head_of t k) symbol e in some_is (reads h.0 h.1 ∙ h.2)

pub no_symbol : {A : Type 0} (f : Head → Option A) (t : Tree) (k : ℕ) → ReadsHead f t k None → option_and_then f (head_of t k) ≡ None
no_symbol f t k reads = go (head_of t k) refl
  where
    go : (o : Option Head) → head_of t k ≡ o → option_and_then f o ≡ None
    go None e = refl
    go (Some h) e = sym (reads h e)

-- ---- heads that stay where the call is prepared

module _ (m : Meaning) (t u : Tree) (call : ℕ) (wu : IsTree u) (h : IsLedOn m t u call) (p : IsCallPrepared m u call) where
  abbrev j : ℕ
  j = length t.operations

  placed : parent_of u call ≡ Some h.block
  placed = wu.bodies.owned call h.block (subst (In call) (sym h.kept) (In-right call h.front (call ∷ j ∷ []) (inl refl)))

  jump_new : p.jump ≡ j
  jump_new =
      let same : p.block ≡ h.block = some_is (sym p.holds ∙ placed) in
      some_is (sym p.last ∙ ap (λ b. last_of None (body_of u b)) same ∙ ap (last_of None) (h.kept ∙ sym (append_assoc h.front (call ∷ []) (j ∷ []))) ∙ last_of-append None (h.front ++ call ∷ []) (j ∷ []))

  not_new : (k : ℕ) → IsLive t k → k ≢ j
  not_new k live e = let l = live-within t k live in omega (arith, l, e)

  pub prepared_rows : (k : ℕ) → IsLive t k → row_of u k ≡ row_of t k
  prepared_rows k live = h.rows k (not_new k live)

  pub prepared_heads : (k : ℕ) → IsLive t k → head_of u k ≡ head_of t k
  prepared_heads k live = ap (λ r. r.head) (prepared_rows k live)

  -- the jump was made last, so a tree that is the same is no shorter
  pub still_longer : (v : Tree) → IsSameTree u v → length u.operations ≤ length v.operations
  still_longer v same =
      let live : IsLive u j = ap (λ r. is_some r.head) h.jump.row in
      let l = live-within v j (subst (λ o. is_some o ≡ true) (sym (ap (λ r. r.head) (same.operations j))) live) in
      let n = h.operation_count in
      omega (arith, l, n)

  pub not_behind : (k : ℕ) → IsLive t k → next_of u call ≢ Some k
  not_behind k live e = not_new k live (sym (some_is (sym p.behind ∙ e)) ∙ jump_new)

  -- and in the tree that comes next, where all but the call and the jump keep their heads
  module _ (v : Tree) (stay : (k : ℕ) → IsLive u k → k ≢ call → next_of u call ≢ Some k → head_of v k ≡ head_of u k) where
    pub both_heads : (k : ℕ) → IsLive t k → k ≢ call → head_of v k ≡ head_of t k
    both_heads k live ne = stay k (subst (λ o. is_some o ≡ true) (sym (prepared_heads k live)) live) ne (not_behind k live) ∙ prepared_heads k live

    pub both_symbols : (c : CallingConvention) → symbol_at c t call ≡ None → (k : ℕ) (name : Datum) → symbol_at c t k ≡ Some name → head_of v k ≡ head_of t k
    both_symbols c none k name e = both_heads k (live_by c.symbol_of t k name e) (λ same. not_none (sym none ∙ ap (symbol_at c t) (sym same) ∙ e))

-- ---- heads that stay where the prepared call is inlined

jump_behind : (x : InlinedCall) (ks js : List ℕ) (j : ℕ) → HasNewJump x ks js → next_in x.call ks ≡ Some j → j ≡ x.jump
jump_behind x [] js j h e = absurd (not_none e)
jump_behind x (k ∷ ks) [] j h e = absurd h
jump_behind x (k ∷ ks) (i ∷ is) j (inl h) e = jump_behind x ks is j h.3 (sym (next_in-other x.call k ks (λ q. h.0 (sym q))) ∙ e)
jump_behind x (k ∷ ks) (i ∷ is) j (inr h) e = some_is (sym e ∙ next_in-first x.call k ks (sym h.0) ∙ ap (λ zs. first_of zs None) h.1)

module _ (m : Meaning) (c : CallingConvention) (t u : Tree) (call callee : ℕ) (symbol : Datum) (h : IsInlined m c t u call callee symbol) (p : IsCallPrepared m t call) where
  its_jump : p.jump ≡ h.parts.jump
  its_jump =
      let b = h.copies.block in
      let stands : IsBlock t b = ap is_some h.copies.in_region in
      let here : next_in h.parts.call (body_of t b) ≡ Some p.jump = sym (ap (λ o. up_from o (λ y. next_in h.parts.call (body_of t y))) h.copies.holds) ∙ ap (next_of t) h.of_call ∙ p.behind in
      jump_behind h.parts (body_of t b) (body_of u b) p.jump (h.inlined.bodies b stands) here

  pub inlined_heads : (k : ℕ) → IsLive t k → k ≢ call → next_of t call ≢ Some k → head_of u k ≡ head_of t k
  inlined_heads k live ne nj = ap (λ r. r.head) (h.inlined.rows k live (λ e. ne (e ∙ h.of_call)) (λ e. nj (p.behind ∙ ap Some (its_jump ∙ sym e))))

-- ---- what is answered

pub on_err_of : {T E P : Type 0} (r : Result T E) → P → OnErr r P
on_err_of (Ok x) p = tt
on_err_of (Err e) p = p

pub match_none : {X : Type 0} (P R : Type 0) (o : Option X) → o ≡ None → MatchOption o P (λ _. R) → P
match_none P R None e h = h
match_none P R (Some x) e h = absurd (not_none (sym e))

pub match_some : {X : Type 0} (P R : Type 0) (o : Option X) (x : X) → o ≡ Some x → MatchOption o P (λ _. R) → R
match_some P R None x e h = absurd (not_none e)
match_some P R (Some y) x e h = h
