-- An argument is added to a block, and each edge to the block forwards one value more: the law on removed arguments read
-- backwards.
--
--     before:   ^a: branch ^b(x) ..       ^b(p): ..
--     after:    ^a: branch ^b(x, y) ..    ^b(p, q): ..       nothing uses q yet; y is any value that the branch may name
use Rattle.std.specs.Prelude.{◌≡◌, ◌≢◌, ◌≤◌, ℕ, List, Some, None, length}
use Rattle.pliron_core.specs.Tree.{Tree, In, IsInside, IsWithin, first_of, operands_of, successors_of, regions_of, layout_of}
use Rattle.pliron_core.specs.Invariant.{IsTree}
use Rattle.pliron_laws.specs.Datum.{Meaning}
use Rattle.pliron_theory.specs.Keeps.{IsFit, KeepsRuns}
use Rattle.pliron_theory.specs.Renaming.{IsRenamed, MayUse}
use Rattle.pliron_theory.specs.Rebranching.{FitsInPlace}
use Rattle.pliron_theory.specs.Dropping.{IsArgumentDropped, LeadsWithout, HoldsWithout}

-- what the operation of u names beside its operands in t it may name, as far as the root is concerned
abbrev pub MayNameMore : (t u : Tree) → (root k : ℕ) → Type 0
MayNameMore t u root k = (x : ℕ) → In x (operands_of u k) → (In x (operands_of t k) → ⊥) → MayUse u root k x

-- an operation that leads to the block is admitted with the operands that it has more, and acts alike without them
pub record LeadsWith (m : Meaning) (t u : Tree) (block index : ℕ) (kept : List ℕ) (k : ℕ) : Type 0 where
  pub fits : FitsInPlace m u k
  pub without : LeadsWithout m u t block index kept k

-- u has the argument and what is forwarded to it, and t is u without them
abbrev pub AddingLaw : Type 0
AddingLaw = (m : Meaning) (t u : Tree) (block index v : ℕ) (kept : ℕ → List ℕ) → IsTree t → IsTree u → IsArgumentDropped u t block index v kept → length t.operations ≤ length u.operations → ((root : ℕ) → IsFit m t root → (k : ℕ) → In block (successors_of t k) → MayNameMore t u root k) → ((root : ℕ) → IsFit m t root → (k : ℕ) → IsInside t root k → In block (successors_of t k) → LeadsWith m t u block index (kept k) k) → ((root : ℕ) → IsFit m t root → (k r : ℕ) → IsWithin t root k → In r (regions_of t k) → first_of (layout_of t r) None ≡ Some block → HoldsWithout m u t block index k) → KeepsRuns m t u

-- where the uses of values may become uses of others, as those of an argument become uses of its one value, they may become
-- what they were again, if the users may name that
abbrev pub RenamingBackLaw : Type 0
RenamingBackLaw = (m : Meaning) (t u : Tree) (rename : ℕ → ℕ) → IsRenamed u t rename → length t.operations ≡ length u.operations → KeepsRuns m u t → ((root : ℕ) → IsFit m t root → (k x : ℕ) → In x (operands_of u k) → rename x ≢ x → MayUse u root k x) → KeepsRuns m t u
