-- A module while functions of it are erased.
use Rattle.std.specs.Prelude.{◌≡◌, ℕ, Bool, List, None, Some}
use Rattle.pliron_core.specs.declared.attrs.Head.{Head}
use Rattle.pliron_core.specs.Tree.{Tree, In, IsLive, IsWithin, head_of, parent_of, parent_operation_of}
use Rattle.pliron_core.specs.Invariant.{IsTree}
use Rattle.pliron_laws.specs.Datum.{Meaning}
use Rattle.pliron_theory.specs.Keeps.{KeepsRuns, with_roots}
use Rattle.pliron_opt_symbols.specs.Erasing.{erased_in_turn, IsNoRoot}

-- t has become u: these functions directly in the operation were erased, and all else is as it was
pub record AreErased (m : Meaning) (t u : Tree) (holder : ℕ) (done : List ℕ) : Type 0 where
  pub is_tree : IsTree u
  pub tree : u ≡ erased_in_turn t done
  pub heads : (k : ℕ) → IsLive u k → head_of t k ≡ head_of u k
  pub away : (f : ℕ) → In f done → IsLive u f → ⊥
  pub left : (x : ℕ) → parent_operation_of t x ≡ Some holder → (In x done → ⊥) → parent_operation_of u x ≡ Some holder
  pub within : (f k : ℕ) → IsWithin u f k → IsWithin t f k
  pub holder_head : head_of u holder ≡ head_of t holder
  pub free : parent_of u holder ≡ None
  pub runs : (chosen : Head → Bool) → IsNoRoot chosen t holder → KeepsRuns (with_roots m chosen) t u
