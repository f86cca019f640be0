-- Calls inlined in turn.
use Rattle.std.specs.Prelude.{◌≡◌, ℕ, List, [], ◌∷◌, ◌++◌}
use Rattle.pliron_core.specs.Tree.{Tree, IsLive}
use Rattle.pliron_core.specs.Invariant.{IsTree}
use Rattle.pliron_laws.specs.Datum.{Datum, Meaning}
use Rattle.pliron_theory.specs.Keeps.{IsFit}
use Rattle.pliron_pass_linked.specs.Calls.{CallingConvention}
use Rattle.pliron_pass_linked.specs.LinkedRuns.{Program}
use Rattle.pliron_pass_linked.specs.KeepsLinked.{KeepsPrograms, with_module}
use Rattle.pliron_rewrite_inlining.specs.InliningLaws.{NamedFunction, KeepsRunsLinkedBy}
use Rattle.pliron_rewrite_calls.specs.Inlining.{IsInlined}

-- a name by which a function of the module was called, where the call was inlined
pub record InlinedName : Type 0 where
  pub symbol : Datum
  pub callee : ℕ

-- in the module with this number these names stand for these functions
abbrev pub names_in : ℕ → List InlinedName → List NamedFunction
names_in n [] = []
names_in n (x ∷ xs) = record { in_module = n; symbol = x.symbol; function = record { in_module = n; root = x.callee } } ∷ names_in n xs

-- in each program that has the tree t for a module, the module may become u: linked runs are kept where these names stand there
-- for these functions
abbrev pub KeepsProgramsLinkedBy : Meaning → CallingConvention → List InlinedName → (t u : Tree) → Type 0
KeepsProgramsLinkedBy m c names t u = (p : Program) (n : ℕ) → p n ≡ t → KeepsRunsLinkedBy (names_in n names) m c p (with_module p n u)

pub record InTurnLaws : Type 0 where
  -- where linked runs are kept whatever names stand for, as by passes, no name is asked for
  pub none : (m : Meaning) (c : CallingConvention) (t u : Tree) → KeepsPrograms m t u → KeepsProgramsLinkedBy m c [] t u
  -- more names may be asked for
  pub wider : (m : Meaning) (c : CallingConvention) (xs ys : List InlinedName) (t u : Tree) → KeepsProgramsLinkedBy m c xs t u → KeepsProgramsLinkedBy m c (xs ++ ys) t u
  -- a call of a function that is fit to run is inlined
  pub one : (m : Meaning) (c : CallingConvention) (t u : Tree) (call callee : ℕ) (symbol : Datum) → IsTree t → IsTree u → IsFit m t callee
      → IsInlined m c t u call callee symbol → KeepsProgramsLinkedBy m c (record { symbol = symbol; callee = callee } ∷ []) t u
  -- one after the other
  pub in_turn : (m : Meaning) (c : CallingConvention) (xs ys : List InlinedName) (t u v : Tree) → KeepsProgramsLinkedBy m c xs t u → KeepsProgramsLinkedBy m c ys u v → KeepsProgramsLinkedBy m c (xs ++ ys) t v
  -- each function that is fit to run and still live stays fit, so that its calls may be inlined later
  pub stays_fit : (m : Meaning) (c : CallingConvention) (t u : Tree) (call callee : ℕ) (symbol : Datum) → IsTree t → IsTree u → IsFit m t callee
      → IsInlined m c t u call callee symbol → (root : ℕ) → IsFit m t root → IsLive u root → IsFit m u root
