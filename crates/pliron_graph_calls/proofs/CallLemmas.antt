-- The calls among operations, with one more.
use Rattle.std.proofs.Common.{◌≡◌, ◌+◌, ℕ, List, [], ◌∷◌, ◌++◌, take, Option, sym, subst}
use Rattle.pliron_core.specs.declared.attrs.Head.{Head}
use Rattle.pliron_core.specs.Tree.{Tree}
use Rattle.pliron_laws.specs.Datum.{Datum}
use Rattle.pliron_graph_calls.specs.declared.call_sites.CallSite.{CallSite}
use Rattle.pliron_graph_calls.specs.CallSites.{CallsNone, IsCallSite, AreCallSites, AreCallSites.CallingNone, AreCallSites.CallingOne}

module _ (callee : Head → Option Datum) (t : Tree) (names : List Datum) (ks : List ℕ) (i k : ℕ) (more : take (i + 1) ks ≡ take i ks ++ k ∷ []) where
  pub none_more : (sites : List CallSite) → AreCallSites callee t names (take i ks) sites → CallsNone callee t names k → AreCallSites callee t names (take (i + 1) ks) sites
  none_more sites so_far none = subst (λ xs. AreCallSites callee t names xs sites) (sym more) (CallingNone (take i ks) sites k so_far none)

  pub one_more_call : (sites : List CallSite) (site : CallSite) → AreCallSites callee t names (take i ks) sites → IsCallSite callee t names k site → AreCallSites callee t names (take (i + 1) ks) (sites ++ site ∷ [])
  one_more_call sites site so_far one = subst (λ xs. AreCallSites callee t names xs (sites ++ site ∷ [])) (sym more) (CallingOne (take i ks) sites k site so_far one)
