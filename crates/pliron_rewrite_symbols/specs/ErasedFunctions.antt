-- Functions that were erased from a module, where nothing that is left calls them.
use Rattle.std.specs.Prelude.{◌≡◌, ◌≢◌, ℕ, List, Option, Some}
use Rattle.pliron_core.specs.declared.attrs.Head.{Head}
use Rattle.pliron_core.specs.Tree.{Tree, IsLive, IsWithin, head_of, parent_operation_of}
use Rattle.pliron_core.specs.Invariant.{IsTree}
use Rattle.pliron_laws.specs.Datum.{Datum, Meaning, Emit}
use Rattle.pliron_laws.specs.Tree.{Operation, op_at, shape_of}
use Rattle.pliron_theory.specs.Keeps.{KeepsRuns}
use Rattle.pliron_pass_linked.specs.Calls.{Call, CallingConvention}
use Rattle.pliron_pass_linked.specs.LinkedRuns.{Program, Function, Linker, Reply}
use Rattle.pliron_pass_linked.specs.LinkedAgree.{LinkedSeenAlike, CallsBackOnly}
use Rattle.pliron_pass_linked.specs.KeepsLinked.{IsLiveIn, IsFitIn, IsLinker, with_module}

-- a function with this name, directly in the operation
pub record IsFunctionIn (c : CallingConvention) (t : Tree) (holder f : ℕ) (name : Datum) : Type 0 where
  pub parent : parent_operation_of t f ≡ Some holder
  pub head : Head
  pub has : head_of t f ≡ Some head
  pub named : c.symbol_of head ≡ Some name

-- the operation can show the call of a function by this name
pub record MayCall (m : Meaning) (c : CallingConvention) (t : Tree) (k : ℕ) (name : Datum) : Type 0 where
  pub operation : Operation
  pub liveness : op_at t k ≡ Some operation
  pub memo : Datum
  pub input : List Datum
  pub effect : Datum
  pub next : Datum
  pub shows : m.act (shape_of m t operation) memo input ≡ Emit effect next
  pub call : Call
  pub is_call : c.call_of effect ≡ Some call
  pub calls : call.symbol ≡ name

-- the functions directly in the operation that are still live can call none that were erased
abbrev pub CallNoErased : Meaning → CallingConvention → (t u : Tree) → (holder : ℕ) → Type 0
CallNoErased m c t u holder = (f g k : ℕ) (own name : Datum) → IsFunctionIn c t holder f own → IsLive u f → IsWithin u f k → MayCall m c u k name → IsFunctionIn c t holder g name → IsLive u g

-- what the name stands for, where it stands for a function, is live in the program
abbrev pub StandsForLive : Linker → Program → ℕ → Datum → Type 0
StandsForLive link q n name = (f : Function) → link n name ≡ Some f → IsLiveIn q f

-- in the tree of the module n, names stand for functions directly in this operation alone; and what other modules can call is
-- live in q
pub record LinksDirectly (m : Meaning) (c : CallingConvention) (link : Linker) (p q : Program) (n holder : ℕ) : Type 0 where
  pub direct : (i : ℕ) (name : Datum) (f : Function) → link i name ≡ Some f → f.in_module ≡ n → parent_operation_of (p n) f.root ≡ Some holder
  pub others : (i k : ℕ) (name : Datum) → i ≢ n → MayCall m c (q i) k name → StandsForLive link q i name

-- in each program that has the tree t for a module, the module may become u: linked runs of each function that was fit and is
-- still live show the same, in each world that calls back no name of an erased one. The functions of that module are those
-- directly in this operation
abbrev pub KeepsProgramsWithout : Meaning → CallingConvention → (t u : Tree) → (holder : ℕ) → Type 0
KeepsProgramsWithout m c t u holder = (p : Program) (n : ℕ) → p n ≡ t → (link : Linker) → IsLinker m c p link → LinksDirectly m c link p (with_module p n u) n holder
    → (f : Function) → IsFitIn m p f → IsLiveIn (with_module p n u) f → (f.in_module ≡ n → (name : Datum) × IsFunctionIn c t holder f.root name)
    → (inputs : List Datum) (world : List Reply) → CallsBackOnly (StandsForLive link (with_module p n u)) world
    → LinkedSeenAlike m c link p (with_module p n u) f inputs world

-- where runs are kept, and what is left can call no function that was erased, linked runs are kept
abbrev pub ErasedFunctionsLaw : Type 0
ErasedFunctionsLaw = (m : Meaning) (c : CallingConvention) (t u : Tree) (holder : ℕ) → IsTree u → KeepsRuns m t u → CallNoErased m c t u holder → KeepsProgramsWithout m c t u holder
