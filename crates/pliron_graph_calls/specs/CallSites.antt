-- Calls of functions by their names.
use Rattle.std.specs.Prelude.{◌≡◌, ◌≢◌, ◌++◌, ℕ, List, [], ◌∷◌, Option, Some, slice_get, option_and_then}
use Rattle.pliron_core.specs.declared.attrs.Head.{Head}
use Rattle.pliron_core.specs.Tree.{Tree, head_of}
use Rattle.pliron_laws.specs.Datum.{Datum}
use Rattle.pliron_graph_calls.specs.declared.call_sites.CallSite.{CallSite}

-- the name of the function that the operation calls, if it calls one by name
abbrev pub callee_at : (Head → Option Datum) → Tree → ℕ → Option Datum
callee_at callee t k = option_and_then callee (head_of t k)

-- it calls none of the functions of these names
abbrev pub CallsNone : (Head → Option Datum) → Tree → List Datum → ℕ → Type 0
CallsNone callee t names k = (i : ℕ) (name : Datum) → slice_get names i ≡ Some name → callee_at callee t k ≢ Some name

-- the call is this operation, and calls the function whose name stands at the place of its callee
pub record IsCallSite (callee : Head → Option Datum) (t : Tree) (names : List Datum) (k : ℕ) (site : CallSite) : Type 0 where
  pub call : site.call ≡ k
  pub name : Datum
  pub calls : callee_at callee t k ≡ Some name
  pub at_place : slice_get names site.callee ≡ Some name

-- the calls of functions of these names among these operations, in their order
pub data AreCallSites (callee : Head → Option Datum) (t : Tree) (names : List Datum) : List ℕ → List CallSite → Type 0 where
  NoOperations : AreCallSites callee t names [] []
  CallingNone : (ks : List ℕ) (sites : List CallSite) (k : ℕ) → AreCallSites callee t names ks sites → CallsNone callee t names k → AreCallSites callee t names (ks ++ k ∷ []) sites
  CallingOne : (ks : List ℕ) (sites : List CallSite) (k : ℕ) (site : CallSite) → AreCallSites callee t names ks sites → IsCallSite callee t names k site → AreCallSites callee t names (ks ++ k ∷ []) (sites ++ site ∷ [])
