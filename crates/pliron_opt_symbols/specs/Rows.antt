-- The graph of what calls what: node 0 is all that is kept anyway, and node i + 1 the function at place i.
use Rattle.std.specs.Prelude.{◌≡◌, ◌<◌, ◌⊎◌, ◌↔◌, ℕ, suc, List, [], ◌∷◌, ◌++◌, Option, Some, None, Contains, length, nat_eq, slice_get}
use Rattle.pliron_core.specs.declared.attrs.Head.{Head}
use Rattle.pliron_core.specs.Tree.{Tree, In, IsDistinct, IsWithin}
use Rattle.pliron_core.specs.Walks.{children}
use Rattle.pliron_core.specs.Erased.{IsSelfContained}
use Rattle.pliron_laws.specs.Datum.{Datum}
use Rattle.pliron_laws.specs.Answers.{HeadPasses}
use Rattle.pliron_graph_traversal.specs.Adjacency.{row}
use Rattle.pliron_graph_traversal.specs.Search.{IsListed}
use Rattle.pliron_graph_calls.specs.CallSites.{callee_at}
use Rattle.pliron_graph_calls.specs.FunctionNames.{symbol_at}
use Rattle.pliron_pass_linked.specs.Calls.{CallingConvention}
use Rattle.pliron_opt_symbols.specs.Kept.{SymbolReads}

-- the node of the function that the operation calls
pub record IsCalleeNode (callee : Head → Option Datum) (t : Tree) (names : List Datum) (k v : ℕ) : Type 0 where
  pub place : ℕ
  pub node : v ≡ suc place
  pub name : Datum
  pub calls : callee_at callee t k ≡ Some name
  pub named : slice_get names place ≡ Some name

-- that of a function which something within the operation calls
abbrev pub IsNodeCalledIn : (Head → Option Datum) → Tree → List Datum → (x v : ℕ) → Type 0
IsNodeCalledIn callee t names x v = (k : ℕ) × IsWithin t x k × IsCalleeNode callee t names k v

-- that of a function which something within this calls, where this is no function
abbrev pub IsNodeCalledBeside : CallingConvention → (Head → Option Datum) → Tree → List Datum → (x v : ℕ) → Type 0
IsNodeCalledBeside c callee t names x v = (symbol_at c t x ≡ None) × IsNodeCalledIn callee t names x v

-- a private function, of which nothing outside uses anything
abbrev pub IsAlone : SymbolReads → Tree → ℕ → Type 0
IsAlone s t f = HeadPasses s.is_private t f × IsSelfContained t f

-- that of a function which isn't such
abbrev pub IsStayingNode : SymbolReads → Tree → (functions : List ℕ) → (v : ℕ) → Type 0
IsStayingNode s t functions v = (i : ℕ) × (f : ℕ) × (v ≡ suc i) × (slice_get functions i ≡ Some f) × (IsAlone s t f → ⊥)

-- the list got these
abbrev pub Gets : (old new : List ℕ) → (ℕ → Type 0) → Type 0
Gets old new added = (v : ℕ) → Contains new v ↔ (Contains old v ⊎ added v)

-- the list got the node of the function at this place, which hasn't the property; or it has, and the list is the same
abbrev pub MayGet : Type 0 → (place : ℕ) → (old new : List ℕ) → Type 0
MayGet P place old new = ((P → ⊥) × (new ≡ old ++ suc place ∷ [])) ⊎ (P × (new ≡ old))

-- each function before this place is alone, or its node is in the list
abbrev pub AreSorted : SymbolReads → Tree → (functions : List ℕ) → (place : ℕ) → List ℕ → Type 0
AreSorted s t functions place xs = (i : ℕ) → (f : ℕ) → i < place → slice_get functions i ≡ Some f → Contains xs (suc i) ⊎ IsAlone s t f

-- one of these has it
abbrev pub OfOne : List ℕ → (ℕ → ℕ → Type 0) → ℕ → Type 0
OfOne ks of v = (k : ℕ) × In k ks × of k v

-- a function leads to what is called in it; the first node to what is called in what is no function, and to functions that can't go
pub record AreCallRows (c : CallingConvention) (s : SymbolReads) (t : Tree) (holder : ℕ) (functions : List ℕ) (names : List Datum) (rows : List (List ℕ)) : Type 0 where
  pub long : length rows ≡ suc (length functions)
  pub first : (v : ℕ) → Contains (row rows 0) v ↔ (OfOne (children t holder) (IsNodeCalledBeside c s.callee t names) v ⊎ IsStayingNode s t functions v)
  pub sorted : AreSorted s t functions (length functions) (row rows 0)
  pub each : (i f : ℕ) → slice_get functions i ≡ Some f → (v : ℕ) → Contains (row rows (suc i)) v ↔ IsNodeCalledIn s.callee t names f v

-- no two places have one of these
abbrev pub AreAtOnePlace : List ℕ → Type 0
AreAtOnePlace functions = (i j f : ℕ) → slice_get functions i ≡ Some f → slice_get functions j ≡ Some f → i ≡ j

-- of the functions before this place those whose nodes aren't listed
pub record AreUnlisted (functions found : List ℕ) (place : ℕ) (gone : List ℕ) : Type 0 where
  pub each : (f : ℕ) → In f gone → (i : ℕ) × (i < place) × (slice_get functions i ≡ Some f) × (IsListed nat_eq found (suc i) → ⊥)
  pub all : (i f : ℕ) → i < place → slice_get functions i ≡ Some f → In f gone ⊎ IsListed nat_eq found (suc i)
  pub distinct : IsDistinct gone

-- the node of the function at this place is listed, and the list of those that go is the same; or it isn't, and the function goes
abbrev pub IsReachedOrGone : List ℕ → (place function : ℕ) → (old new : List ℕ) → Type 0
IsReachedOrGone found place function old new = (IsListed nat_eq found (suc place) × (new ≡ old)) ⊎ ((IsListed nat_eq found (suc place) → ⊥) × (new ≡ old ++ function ∷ []))
