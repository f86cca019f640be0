-- Functions that are erased.
use Rattle.std.specs.Prelude.{◌≡◌, ℕ, Bool, false, List, [], ◌∷◌, Some}
use Rattle.pliron_core.specs.declared.attrs.Head.{Head}
use Rattle.pliron_core.specs.Lists.{IsDistinct}
use Rattle.pliron_core.specs.Tree.{Tree, In, head_of, parent_operation_of}
use Rattle.pliron_core.specs.Erased.{after_erasing, IsSelfContained}
use Rattle.pliron_laws.specs.Datum.{Meaning}
use Rattle.pliron_theory.specs.Keeps.{KeepsRuns, with_roots}
use Rattle.pliron_pass_linked.specs.Calls.{CallingConvention}
use Rattle.pliron_rewrite_symbols.specs.ErasedFunctions.{KeepsProgramsWithout}

-- each is erased with its contents, one after the other
abbrev pub erased_in_turn : Tree → List ℕ → Tree
erased_in_turn t [] = t
erased_in_turn t (f ∷ fs) = erased_in_turn (after_erasing t f) fs

-- no operation with the head of this one may be a root
abbrev pub IsNoRoot : (Head → Bool) → Tree → ℕ → Type 0
IsNoRoot chosen t k = (h : Head) → head_of t k ≡ Some h → chosen h ≡ false

-- whatever heads may be those of roots, but for that of the operation: runs are kept, and linked runs in each program that has the
-- tree for a module
pub record KeepsRunsInside (m : Meaning) (c : CallingConvention) (t u : Tree) (holder : ℕ) : Type 0 where
  pub runs : (chosen : Head → Bool) → IsNoRoot chosen t holder → KeepsRuns (with_roots m chosen) t u
  pub linked : (chosen : Head → Bool) → IsNoRoot chosen t holder → KeepsProgramsWithout (with_roots m chosen) c t u holder

-- these are directly in the operation, each once, and nothing outside one uses anything of it
pub record AreErasableFunctions (t : Tree) (holder : ℕ) (fs : List ℕ) : Type 0 where
  pub parents : (f : ℕ) → In f fs → parent_operation_of t f ≡ Some holder
  pub contained : (f : ℕ) → In f fs → IsSelfContained t f
  pub distinct : IsDistinct fs
