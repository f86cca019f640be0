-- What is left after functions were erased that aren't kept.
use Rattle.std.proofs.Common.{◌≡◌, ⊎_elim, ℕ, Bool, List, Some, IsTrue, IsSome, refl, sym, ap, ◌∙◌, subst}
use Rattle.std.specs.Prelude.{option_and_then}
use Rattle.pliron_core.specs.declared.attrs.Head.{Head}
use Rattle.pliron_core.specs.Tree.{Tree, IsLive, IsWithin, head_of, parent_operation_of}
use Rattle.pliron_core.specs.Invariant.{IsTree}
use Rattle.pliron_core.proofs.WalkLemmas.{held_live}
use Rattle.pliron_laws.specs.Datum.{Datum, Meaning, Emit}
use Rattle.pliron_laws.specs.Tree.{Operation, shape_of}
use Rattle.pliron_laws.proofs.Records.{op_shows}
use Rattle.pliron_theory.specs.Keeps.{with_roots}
use Rattle.pliron_theory.proofs.Keeping.{keeps_refl}
use Rattle.pliron_pass_linked.specs.Calls.{Call, CallingConvention}
use Rattle.pliron_rewrite_symbols.specs.ErasedFunctions.{IsFunctionIn, MayCall, CallNoErased}
use Rattle.pliron_rewrite_symbols.specs.Callers.{CallOnlyCallees}
use Rattle.pliron_rewrite_symbols.proofs.ErasedFunctions.{functions_erased}
use Rattle.pliron_opt_symbols.specs.Kept.{SymbolReads, IsKeptInModule, IsKeptInModule.Called, AreUnkept, IsTracedModule}
use Rattle.pliron_opt_symbols.specs.Erasing.{IsNoRoot, KeepsRunsInside}
use Rattle.pliron_opt_symbols.specs.ErasedStates.{AreErased}

-- nothing was erased
pub nothing_erased : (m : Meaning) (c : CallingConvention) (t : Tree) (holder : ℕ) → IsTree t → KeepsRunsInside m c t t holder
nothing_erased m c t holder w = record {
  runs = λ chosen never. keeps_refl (with_roots m chosen) t;
  linked = λ chosen never. functions_erased (with_roots m chosen) c t t holder w (keeps_refl (with_roots m chosen) t) (λ f g k own name a live within may b. held_live t w g holder b.parent);
}

-- a call that a traced operation can show is that of its callee
callee_shown : (m : Meaning) (c : CallingConvention) (s : SymbolReads) (chosen : Head → Bool) (u : Tree) (k : ℕ) (name : Datum) → CallOnlyCallees m c s.callee s.is_traced → (may : MayCall (with_roots m chosen) c u k name) → IsTrue (s.is_traced may.operation.head) → s.callee may.operation.head ≡ Some name
unfolding shape_of
callee_shown m c s chosen u k name callers may traced = callers (shape_of (with_roots m chosen) u may.operation) traced may.memo may.input may.effect may.next may.call may.shows may.is_call ∙ ap Some may.calls

module _ (m : Meaning) (c : CallingConvention) (s : SymbolReads) (t u : Tree) (holder : ℕ) (gone : List ℕ) (w' : IsTree u) (callers : CallOnlyCallees m c s.callee s.is_traced) (module_is : IsTracedModule c s t holder) (unkept : AreUnkept c s t holder gone) (erased : AreErased m t u holder gone) where
  called_left : (chosen : Head → Bool) → CallNoErased (with_roots m chosen) c t u holder
  called_left chosen f g k own name a live within may b = ⊎_elim (λ i. absurd (erased.away f i live)) (λ kept. go kept) (unkept.others f own a)
    where
      shows : head_of u k ≡ Some may.operation.head
      shows = (op_shows u k may.operation may.liveness).head

      before : head_of t k ≡ Some may.operation.head
      before = erased.heads k (subst IsSome (sym shows) refl) ∙ shows

      calls : option_and_then s.callee (head_of t k) ≡ Some name
      calls = ap (option_and_then s.callee) before ∙ callee_shown m c s chosen u k name callers may (module_is.traced f k own a (erased.within f k within) may.operation.head before)

      go : IsKeptInModule c s t holder f → IsLive u g
      go kept = held_live u w' g holder (erased.left g b.parent (λ i. unkept.unkept g i (Called f k g name kept (erased.within f k within) calls b)))

  pub runs_kept_inside : KeepsRunsInside m c t u holder
  runs_kept_inside = record {
    runs = erased.runs;
    linked = λ chosen never. functions_erased (with_roots m chosen) c t u holder w' (erased.runs chosen never) (called_left chosen);
  }
