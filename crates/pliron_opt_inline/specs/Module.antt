-- What inlining over a module answers, and what it keeps.
use Rattle.std.specs.Prelude.{ℕ, List, [], ◌∷◌, Option, Some, None, map}
use Rattle.pliron_core.specs.Tree.{Tree, In}
use Rattle.pliron_laws.specs.Datum.{Datum, Meaning}
use Rattle.pliron_theory.specs.Keeps.{IsFit}
use Rattle.pliron_pass_linked.specs.Calls.{CallingConvention}
use Rattle.pliron_graph_calls.specs.FunctionNames.{symbol_at}
use Rattle.pliron_opt_inline.specs.declared.answer.InlinedCall.{InlinedCall}
use Rattle.pliron_opt_inline.specs.InTurn.{InlinedName, KeepsProgramsLinkedBy}

abbrev pub with_own_name : ℕ → Option Datum → List InlinedName → List InlinedName
with_own_name f None names = names
with_own_name f (Some symbol) names = record { symbol = symbol; callee = f } ∷ names

-- these functions, each by its own name
abbrev pub own_names : CallingConvention → Tree → List ℕ → List InlinedName
own_names c t [] = []
own_names c t (f ∷ fs) = with_own_name f (symbol_at c t f) (own_names c t fs)

-- calls of these functions of t were inlined: each is fit to run, and in each program that has t for a module linked runs are
-- kept where the own name of each stands there for it
pub record AreInlined (m : Meaning) (c : CallingConvention) (t u : Tree) (callees : List ℕ) : Type 0 where
  pub fit : (f : ℕ) → In f callees → IsFit m t f
  pub keeps : KeepsProgramsLinkedBy m c (own_names c t callees) t u

abbrev pub callees_in : List InlinedCall → List ℕ
callees_in calls = map (λ (x : InlinedCall). x.callee) calls
