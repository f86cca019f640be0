-- The statements on trees that stay well linked.
use Rattle.std.specs.Prelude.{ℕ, Bool, List, Option, IsSome}
use Rattle.pliron_core.specs.declared.attrs.AttrObj.{AttrObj}
use Rattle.pliron_core.specs.Tree.{Tree, IsLive, parent_of}
use Rattle.pliron_core.specs.Invariant.{IsTree}
use Rattle.pliron_laws.specs.Datum.{Head, Meaning}
use Rattle.pliron_laws.specs.Folding.{MakesConstants}
use Rattle.pliron_laws.specs.Linked.{IsWellLinked}
use Rattle.pliron_laws.specs.Outcomes.{MaterialisesSome}

-- where a tree is well linked, it is so after constants were put before an operation for some of its
-- results
abbrev pub FoldsKeepLinks : Type 0
FoldsKeepLinks = (m : Meaning) (accepts : AttrObj → Bool) (head : AttrObj → Head) (op : ℕ) (results : List ℕ) (answers : List (Option AttrObj)) (root : ℕ) → MakesConstants m accepts head → (t u : Tree) → IsTree t → IsTree u → IsLive t op → IsSome (parent_of t op) → IsWellLinked m t root → MaterialisesSome accepts head op results answers t u → IsWellLinked m u root
