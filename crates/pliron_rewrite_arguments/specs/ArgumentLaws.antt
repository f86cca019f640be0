-- What giving the uses of an argument to its one value keeps.
use Rattle.std.specs.Prelude.{◌↔◌, ℕ}
use Rattle.pliron_core.specs.Tree.{Tree, In, IsLive, HoldsBlock, operands_of, successors_of}
use Rattle.pliron_core.specs.Invariant.{IsTree}
use Rattle.pliron_core.specs.Writes.{after_replacing}
use Rattle.pliron_laws.specs.Datum.{Meaning}
use Rattle.pliron_laws.specs.Linked.{IsWellLinked}
use Rattle.pliron_theory.specs.Keeps.{KeepsAllRuns}
use Rattle.pliron_theory.specs.Change.{IsWholeChange}
use Rattle.pliron_theory.specs.Edges.{EdgesAlike}
use Rattle.pliron_rewrite_blocks.specs.Links.{KeepsLinks}
use Rattle.pliron_rewrite_arguments.specs.OneValue.{IsOneValue}

-- the uses of an argument that is one value may become uses of the value
abbrev pub OneValueLaw : Meaning → Type 0
OneValueLaw m = (t : Tree) (block index v : ℕ) → IsTree t → (h : IsOneValue m t block index v) → KeepsAllRuns m t (after_replacing t h.argument v)

-- inside an operation that is live, is well linked and holds the block, this is what a pass may do; links and edges
-- stay, and nothing uses the argument any more
pub record OneValueChanges (m : Meaning) : Type 0 where
  pub change : (t : Tree) (op block index v : ℕ) → IsTree t → IsLive t op → IsWellLinked m t op → HoldsBlock t op block → (h : IsOneValue m t block index v) → IsWholeChange m t (after_replacing t h.argument v) op
  pub links : (t : Tree) (block index v : ℕ) (h : IsOneValue m t block index v) → KeepsLinks m t (after_replacing t h.argument v)
  pub edges : (t : Tree) (block index v : ℕ) (h : IsOneValue m t block index v) → EdgesAlike t (after_replacing t h.argument v)
  pub unused : (t : Tree) (block index v : ℕ) (h : IsOneValue m t block index v) (k : ℕ) → In h.argument (operands_of (after_replacing t h.argument v) k) → ⊥

-- where no branch to the block uses a value whose uses become uses of another one, the block's arguments are one value
-- as before
abbrev pub OneValueStays : Type 0
OneValueStays = (m : Meaning) (t : Tree) (old new block index v : ℕ) → ((k : ℕ) → In block (successors_of t k) → In old (operands_of t k) → ⊥) → IsOneValue m t block index v ↔ IsOneValue m (after_replacing t old new) block index v
