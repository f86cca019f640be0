-- Whether branches alone lead to a block, as it is marked.
use Rattle.std.specs.Prelude.{◌≡◌, ◌↔◌, ℕ, Bool, Option, Some, IsTrue}
use Rattle.indexmap.specs.IndexMap.{get}
use Rattle.pliron_core.specs.Tree.{Tree, HoldsBlock}
use Rattle.pliron_laws.specs.Datum.{Meaning}
use Rattle.pliron_opt_dce.specs.declared.predecessors.Predecessors.{Predecessors}
use Rattle.pliron_opt_dce.specs.Incoming.{BranchesLead}
use Rattle.pliron_laws.specs.Tree.{is_one_key}

-- the mark of the block, if it has one
abbrev pub mark_of_block : Predecessors → ℕ → Option Bool
mark_of_block known block = get is_one_key known.marks block

-- each mark is right, of a block that is inside the root
abbrev pub AreMarked : Meaning → Tree → ℕ → (ℕ → Option Bool) → Type 0
AreMarked m t root mark = (block : ℕ) (b : Bool) → mark block ≡ Some b → HoldsBlock t root block → IsTrue b ↔ BranchesLead m t block
