-- What a pass may do to a tree.
use Rattle.std.specs.Prelude.{◌≡◌, ◌≤◌, ℕ, Some, length}
use Rattle.pliron_core.specs.Tree.{Tree, IsLive, parent_operation_of}
use Rattle.pliron_core.specs.Invariant.{IsTree}
use Rattle.pliron_core.specs.Changes.{IsSameTree, IsInsideChange}
use Rattle.pliron_laws.specs.Datum.{Meaning}
use Rattle.pliron_theory.specs.Keeps.{KeepsRuns, KeepsAllRuns}
use Rattle.pliron_laws.specs.Linked.{IsWellLinked}

-- what a pass on op does to the tree, whatever it answers
pub record IsPassChange (m : Meaning) (t u : Tree) (op : ℕ) : Type 0 where
  -- op is live and well linked
  pub liveness : IsLive u op
  pub linked : IsWellLinked m u op
  -- outside it only operands change that named a value defined inside it
  pub inside : IsInsideChange t u op
  -- each fit root that is still live does as before and is fit
  pub runs : KeepsRuns m t u

-- the same of a pass that keeps the runs of all roots, whatever their heads
pub record IsWholeChange (m : Meaning) (t u : Tree) (op : ℕ) : Type 0 where
  pub liveness : IsLive u op
  pub linked : IsWellLinked m u op
  pub inside : IsInsideChange t u op
  pub runs : KeepsAllRuns m t u

-- what passes do is reflexive and transitive, doesn't depend on erased handles, and seen from the parent
-- operation of theirs it is a pass on that one
pub record PassLaws : Type 0 where
  pub reflexive : (m : Meaning) (t : Tree) (op : ℕ) → IsLive t op → IsWellLinked m t op → IsPassChange m t t op
  pub transitive : (m : Meaning) (t u v : Tree) (op : ℕ) → IsPassChange m t u op → IsPassChange m u v op → IsPassChange m t v op
  pub same : (m : Meaning) (t u : Tree) (op : ℕ) → IsTree t → IsTree u → IsSameTree t u → length t.operations ≤ length u.operations → IsLive t op → IsWellLinked m t op → IsPassChange m t u op
  pub held : (m : Meaning) (t u : Tree) (op inner : ℕ) → IsTree t → IsTree u → parent_operation_of t inner ≡ Some op → IsWellLinked m t op → IsPassChange m t u inner → IsPassChange m t u op
  -- what keeps the runs of all roots keeps those of the roots that the meaning lets be such
  pub whole : (m : Meaning) (t u : Tree) (op : ℕ) → IsWholeChange m t u op → IsPassChange m t u op
  -- each operation that was well linked and is still live is so after a pass, wherever it is
  pub linked : (m : Meaning) (t u : Tree) (op root : ℕ) → IsTree t → IsTree u → IsPassChange m t u op → IsLive t root → IsLive u root → IsWellLinked m t root → IsWellLinked m u root
