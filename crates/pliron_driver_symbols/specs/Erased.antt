-- Modules whose functions went that nothing names.
use Rattle.std.specs.Prelude.{◌≡◌, ℕ, List, Option}
use Rattle.pliron_core.specs.declared.attrs.Head.{Head}
use Rattle.pliron_core.specs.Tree.{Tree}
use Rattle.pliron_laws.specs.Datum.{Datum, Meaning}
use Rattle.pliron_pass_linked.specs.Calls.{CallingConvention}
use Rattle.pliron_opt_symbols.specs.Kept.{SymbolReads, AreUnkeptInModule}
use Rattle.pliron_opt_symbols.specs.Erasing.{erased_in_turn, KeepsRunsInside}

-- t has become u: by what is said of names, the functions directly in the operation that aren't kept were erased one after the
-- other, and nothing else; runs are kept, and linked runs
pub record IsErasedFrom (m : Meaning) (c : CallingConvention) (callee : Head → Option Datum) (t u : Tree) (holder : ℕ) : Type 0 where
  pub names : SymbolReads
  pub by_callee : names.callee ≡ callee
  pub gone : List ℕ
  pub unkept : AreUnkeptInModule c names t holder gone
  pub erased : u ≡ erased_in_turn t gone
  pub kept : KeepsRunsInside m c t u holder
