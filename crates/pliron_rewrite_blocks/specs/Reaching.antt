-- Where blocks lead before and after two of them were merged.
use Rattle.std.specs.Prelude.{◌≡◌, ◌≢◌, ℕ, List, Some}
use Rattle.pliron_core.specs.Tree.{Tree, block_parent_operation_of}
use Rattle.pliron_core.specs.Invariant.{IsTree}
use Rattle.pliron_laws.specs.Linked.{EdgesLast}
use Rattle.pliron_laws.specs.Paths.{Path}
use Rattle.pliron_theory.specs.Splicing.{IsSpliced}

-- some path leads from u to v
abbrev pub LeadsTo : Tree → ℕ → ℕ → Type 0
LeadsTo t u v = (before : List ℕ) × Path t u v before

-- merging keeps what leads where, but for the erased block
pub record LeadsAlike (t t' : Tree) (b : ℕ) : Type 0 where
  pub forth : (u v : ℕ) → u ≢ b → v ≢ b → LeadsTo t u v → LeadsTo t' u v
  pub back : (u v : ℕ) → u ≢ b → v ≢ b → LeadsTo t' u v → LeadsTo t u v

abbrev pub ReachingLaw : Type 0
ReachingLaw = (t t' : Tree) (holder a b jump : ℕ) (front : List ℕ) → IsTree t → IsTree t' → EdgesLast t holder → block_parent_operation_of t a ≡ Some holder → IsSpliced t t' a b jump front → LeadsAlike t t' b
