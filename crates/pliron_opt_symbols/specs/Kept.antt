-- Which functions of a module are kept.
use Rattle.std.specs.Prelude.{◌≡◌, ◌⊎◌, ℕ, Bool, List, [], Option, None, Some}
use Rattle.pliron_core.specs.declared.attrs.Head.{Head}
use Rattle.pliron_core.specs.Tree.{Tree, In, IsWithin, parent_of, parent_operation_of}
use Rattle.pliron_core.specs.Walks.{children}
use Rattle.pliron_core.specs.Erased.{IsSelfContained}
use Rattle.pliron_laws.specs.Datum.{Datum}
use Rattle.pliron_laws.specs.Answers.{HeadPasses}
use Rattle.pliron_pass_linked.specs.Calls.{CallingConvention}
use Rattle.pliron_graph_calls.specs.CallSites.{callee_at}
use Rattle.pliron_graph_calls.specs.FunctionNames.{names_among}
use Rattle.pliron_graph_calls.specs.Namesakes.{HasNamesakes}
use Rattle.pliron_rewrite_symbols.specs.ErasedFunctions.{IsFunctionIn}

-- what is read of heads: the name of the function that an operation calls, whether nothing but calls in its module names a
-- function, and whether an operation can call its callee alone
pub record SymbolReads : Type 0 where
  pub callee : Head → Option Datum
  pub is_private : Head → Bool
  pub is_traced : Head → Bool

abbrev pub symbol_reads : (Head → Option Datum) → (is_private is_traced : Head → Bool) → SymbolReads
symbol_reads callee is_private is_traced = record { callee = callee; is_private = is_private; is_traced = is_traced }

-- a private function directly in the operation, of which nothing outside uses anything
pub record IsErasableFunction (c : CallingConvention) (s : SymbolReads) (t : Tree) (holder f : ℕ) : Type 0 where
  pub name : Datum
  pub function : IsFunctionIn c t holder f name
  pub private : HeadPasses s.is_private t f
  pub contained : IsSelfContained t f

-- the least set of what is directly in the operation that has all but such functions, and each function that is called by its
-- name within what the set has
pub data IsKeptInModule (c : CallingConvention) (s : SymbolReads) (t : Tree) (holder : ℕ) : ℕ → Type 0 where
  Stays : (x : ℕ) → parent_operation_of t x ≡ Some holder → (IsErasableFunction c s t holder x → ⊥) → IsKeptInModule c s t holder x
  Called : (x k f : ℕ) (name : Datum) → IsKeptInModule c s t holder x → IsWithin t x k → callee_at s.callee t k ≡ Some name → IsFunctionIn c t holder f name → IsKeptInModule c s t holder f

-- these are the functions directly in the operation that aren't kept
pub record AreUnkept (c : CallingConvention) (s : SymbolReads) (t : Tree) (holder : ℕ) (gone : List ℕ) : Type 0 where
  pub functions : (f : ℕ) → In f gone → (name : Datum) × IsFunctionIn c t holder f name
  pub unkept : (f : ℕ) → In f gone → IsKeptInModule c s t holder f → ⊥
  pub others : (f : ℕ) (name : Datum) → IsFunctionIn c t holder f name → In f gone ⊎ IsKeptInModule c s t holder f

-- the operation is in no block, no two functions directly in it have one name, and all within these call their callees alone
pub record IsTracedModule (c : CallingConvention) (s : SymbolReads) (t : Tree) (holder : ℕ) : Type 0 where
  pub free : parent_of t holder ≡ None
  pub apart : HasNamesakes (names_among c t (children t holder)) → ⊥
  pub traced : (f k : ℕ) (name : Datum) → IsFunctionIn c t holder f name → IsWithin t f k → HeadPasses s.is_traced t k

-- of such an operation these are the functions that aren't kept, of another one none
abbrev pub AreUnkeptInModule : CallingConvention → SymbolReads → Tree → (holder : ℕ) → List ℕ → Type 0
AreUnkeptInModule c s t holder gone = (IsTracedModule c s t holder × AreUnkept c s t holder gone) ⊎ ((gone ≡ []) × (IsTracedModule c s t holder → ⊥))
