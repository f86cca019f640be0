-- Between two calls that are inlined in a module.
use Rattle.std.specs.Prelude.{◌≡◌, ◌<◌, ℕ, List, Some, true, length, slice_get}
use Rattle.pliron_core.specs.declared.attrs.Head.{Head}
use Rattle.pliron_core.specs.Tree.{Tree, In, IsLive, head_of}
use Rattle.pliron_laws.specs.Datum.{Datum, Meaning}
use Rattle.std.specs.Prelude.{Option}
use Rattle.pliron_theory.specs.Keeps.{IsFit}
use Rattle.pliron_pass_linked.specs.Calls.{CallingConvention}
use Rattle.pliron_graph_calls.specs.declared.call_sites.CallSite.{CallSite}
use Rattle.pliron_graph_calls.specs.CallSites.{IsCallSite}
use Rattle.pliron_graph_calls.specs.FunctionNames.{symbol_at}
use Rattle.pliron_opt_inline.specs.declared.facts.FunctionFacts.{FunctionFacts}
use Rattle.pliron_opt_inline.specs.Module.{AreInlined}

-- functions of the module t by their names, and what is known of each: those that are admitted are fit to run
pub record ArePlanned (m : Meaning) (c : CallingConvention) (t : Tree) (functions : List ℕ) (names : List Datum) (facts : List FunctionFacts) : Type 0 where
  pub as_many_names : length names ≡ length functions
  pub as_many_facts : length facts ≡ length functions
  pub named : (i f : ℕ) (name : Datum) → slice_get functions i ≡ Some f → slice_get names i ≡ Some name → symbol_at c t f ≡ Some name
  pub fit : (i f : ℕ) (x : FunctionFacts) → slice_get functions i ≡ Some f → slice_get facts i ≡ Some x → x.is_admitted ≡ true → IsFit m t f

-- t has become u: calls of these were inlined, and each of the functions is live with its head
pub record IsUnderWay (m : Meaning) (c : CallingConvention) (t u : Tree) (functions callees : List ℕ) : Type 0 where
  pub inlined : AreInlined m c t u callees
  pub live : (f : ℕ) → In f functions → IsLive t f
  pub heads : (f : ℕ) → In f functions → head_of u f ≡ head_of t f

-- these are calls of functions of these names, no two of them the same operation
pub record AreApartSites (callee : Head → Option Datum) (u : Tree) (names : List Datum) (sites : List CallSite) : Type 0 where
  pub each : (i : ℕ) (s : CallSite) → slice_get sites i ≡ Some s → IsCallSite callee u names s.call s
  pub apart : (i j : ℕ) (a b : CallSite) → slice_get sites i ≡ Some a → slice_get sites j ≡ Some b → a.call ≡ b.call → i ≡ j
