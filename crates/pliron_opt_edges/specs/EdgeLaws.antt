-- The law on edges that are led to the ends of their chains.
use Rattle.std.specs.Prelude.{ℕ, List}
use Rattle.pliron_core.specs.declared.attrs.Head.{Head}
use Rattle.pliron_core.specs.Tree.{Tree, operands_of}
use Rattle.pliron_core.specs.Invariant.{IsTree}
use Rattle.pliron_laws.specs.Datum.{Meaning}
use Rattle.pliron_laws.specs.Linked.{IsWellLinked}
use Rattle.pliron_laws.specs.Replacing.{branch_replaced}
use Rattle.pliron_theory.specs.Change.{IsWholeChange}
use Rattle.pliron_rewrite_blocks.specs.Links.{KeepsLinks}
use Rattle.pliron_opt_edges.specs.Moved.{IsMovable}

-- a branch that is so replaced is what a pass may do to the root, and keeps what is well linked
pub record LedLaws (m : Meaning) : Type 0 where
  pub change : (t : Tree) (root op : ℕ) (head : Head) (targets : List ℕ) → IsTree t → IsTree (branch_replaced t op head (operands_of t op) targets) → IsWellLinked m t root → IsMovable m.is_branch t root op head targets → IsWholeChange m t (branch_replaced t op head (operands_of t op) targets) root
  pub links : (t : Tree) (root op : ℕ) (head : Head) (targets : List ℕ) → IsTree t → IsTree (branch_replaced t op head (operands_of t op) targets) → IsWellLinked m t root → IsMovable m.is_branch t root op head targets → KeepsLinks m t (branch_replaced t op head (operands_of t op) targets)
