-- Blocks to which one operation alone leads, and the values that it forwards there.
use Rattle.std.specs.Prelude.{◌≡◌, ◌≢◌, ℕ, List, [], ◌∷◌, ◌++◌, Some, None, slice_get}
use Rattle.pliron_core.specs.Tree.{Tree, In, first_of, successors_of, body_of, arguments_of, block_parent_of, layout_of}
use Rattle.pliron_core.specs.Invariant.{IsTree}
use Rattle.pliron_core.specs.Writes.{after_replacing}
use Rattle.pliron_laws.specs.Datum.{Meaning}
use Rattle.pliron_laws.specs.Answers.{HeadPasses, AreForwarded}
use Rattle.pliron_theory.specs.Keeps.{KeepsAllRuns}

-- the operation `jump` ends the block a and leads to b alone, as nothing else does; b is beside a, and is
-- no entry
pub record LeadsAlone (t : Tree) (a b jump : ℕ) (front : List ℕ) : Type 0 where
  pub split : body_of t a ≡ front ++ jump ∷ []
  pub goes : successors_of t jump ≡ b ∷ []
  pub beside : block_parent_of t b ≡ block_parent_of t a
  pub only : (k : ℕ) → In b (successors_of t k) → k ≡ jump
  pub no_entry : (r : ℕ) → first_of (layout_of t r) None ≢ Some b

-- each use of an argument of the block may name the value that the branch forwards to it, which is no
-- argument of the block
abbrev pub ForwardingLaw : Meaning → Type 0
ForwardingLaw m = (t : Tree) (a b jump i p v : ℕ) (front values : List ℕ) → IsTree t → LeadsAlone t a b jump front → HeadPasses m.is_branch t jump → AreForwarded m t jump 0 values → slice_get (arguments_of t b) i ≡ Some p → slice_get values i ≡ Some v → (In v (arguments_of t b) → ⊥) → KeepsAllRuns m t (after_replacing t p v)
