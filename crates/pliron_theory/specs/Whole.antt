-- Passes that keep the runs of all roots, one after the other and on an operation inside another.
use Rattle.std.specs.Prelude.{◌≡◌, ◌≤◌, ℕ, Some, length}
use Rattle.pliron_core.specs.Tree.{Tree, IsLive, parent_operation_of}
use Rattle.pliron_core.specs.Invariant.{IsTree}
use Rattle.pliron_core.specs.Changes.{IsSameTree}
use Rattle.pliron_laws.specs.Datum.{Meaning}
use Rattle.pliron_laws.specs.Linked.{IsWellLinked}
use Rattle.pliron_theory.specs.Change.{IsWholeChange}

-- what such passes do is reflexive and transitive, doesn't depend on erased handles, and seen from the parent
-- operation of theirs it is such a pass on that one
pub record WholeLaws : Type 0 where
  pub reflexive : (m : Meaning) (t : Tree) (op : ℕ) → IsLive t op → IsWellLinked m t op → IsWholeChange m t t op
  pub transitive : (m : Meaning) (t u v : Tree) (op : ℕ) → IsWholeChange m t u op → IsWholeChange m u v op → IsWholeChange m t v op
  pub same : (m : Meaning) (t u : Tree) (op : ℕ) → IsTree t → IsTree u → IsSameTree t u → length t.operations ≤ length u.operations → IsLive t op → IsWellLinked m t op → IsWholeChange m t u op
  pub held : (m : Meaning) (t u : Tree) (op inner : ℕ) → IsTree t → IsTree u → parent_operation_of t inner ≡ Some op → IsWellLinked m t op → IsWholeChange m t u inner → IsWholeChange m t u op
