-- Trees that are well linked at a root stay so there, whether the root is fit to run or not.
use Rattle.std.specs.Prelude.{◌≡◌, ℕ, Bool, List, Some, slice_get}
use Rattle.pliron_core.specs.declared.uses.Use.{Use}
use Rattle.pliron_core.specs.Tree.{Tree, In, IsLive, successors_of}
use Rattle.pliron_core.specs.Invariant.{IsTree}
use Rattle.pliron_core.specs.Writes.{after_replacing, argument_removed}
use Rattle.pliron_core.specs.Erased.{after_erasing, IsSelfContained}
use Rattle.pliron_laws.specs.Datum.{Head, Shape, Meaning}
use Rattle.pliron_laws.specs.Answers.{HeadPasses}
use Rattle.pliron_laws.specs.Linked.{IsAdmitted, IsWellLinked}
use Rattle.pliron_theory.specs.Renaming.{IsRenamed}
use Rattle.pliron_theory.specs.Sweeping.{IsSwept, AreNotLive}
use Rattle.pliron_theory.specs.Rebranching.{IsRebranched}
use Rattle.pliron_theory.specs.Splicing.{IsSpliced}
use Rattle.pliron_theory.specs.Dropping.{EdgesLose}
use Rattle.pliron_rewrite_blocks.specs.Cutting.{AreCut}

-- the tree is well linked at each root where it was
abbrev pub KeepsLinks : Meaning → (t t' : Tree) → Type 0
KeepsLinks m t t' = (root : ℕ) → IsWellLinked m t root → IsWellLinked m t' root

-- operands name other values
abbrev pub RenamedLinksLaw : Type 0
RenamedLinksLaw = (m : Meaning) (t t' : Tree) (rename : ℕ → ℕ) → IsRenamed t t' rename → KeepsLinks m t t'

abbrev pub ReplacedLinksLaw : Type 0
ReplacedLinksLaw = (m : Meaning) (t : Tree) (old new : ℕ) → KeepsLinks m t (after_replacing t old new)

-- operations and blocks that nothing which is left names were erased
abbrev pub SweptLinksLaw : Type 0
SweptLinksLaw = (m : Meaning) (t t' : Tree) (dead dead_block : ℕ → Bool) → IsTree t → IsTree t' → IsSwept t t' dead dead_block → AreNotLive t' dead dead_block → KeepsLinks m t t'

abbrev pub ErasedLinksLaw : Type 0
ErasedLinksLaw = (m : Meaning) (t : Tree) (op : ℕ) → IsTree t → IsTree (after_erasing t op) → IsLive t op → IsSelfContained t op → KeepsLinks m t (after_erasing t op)

-- blocks were erased with their contents, whatever named them
abbrev pub CutLinksLaw : Type 0
CutLinksLaw = (m : Meaning) (t v : Tree) (region : ℕ) (bs : List ℕ) → IsTree t → IsTree v → AreCut t v region bs → KeepsLinks m t v

-- a block was merged into the end of its only predecessor
abbrev pub JoinedLinksLaw : Type 0
JoinedLinksLaw = (m : Meaning) (t t' : Tree) (a b jump : ℕ) (front : List ℕ) → IsTree t → IsTree t' → IsSpliced t t' a b jump front → KeepsLinks m t t'

-- a branch was replaced by another one that the dialect admits
abbrev pub RebranchedLinksLaw : Type 0
RebranchedLinksLaw = (m : Meaning) (t t' : Tree) (a op new : ℕ) (front : List ℕ) → IsTree t → IsTree t' → IsRebranched t t' a op new front → IsAdmitted m t' new → KeepsLinks m t t'

-- these edges lead to the block
abbrev pub LeadThere : Tree → ℕ → List Use → Type 0
LeadThere t block edges = (n : ℕ) (e : Use) → slice_get edges n ≡ Some e → slice_get (successors_of t e.user) e.place ≡ Some block

-- some edges to a block, to which branches alone lead, lost an operand each; then its argument was removed
pub record LosingLinks (m : Meaning) (shortened : Shape → ℕ → ℕ → Head) : Type 0 where
  pub lost : (t u : Tree) (block index : ℕ) (edges : List Use) → IsTree t → LeadThere t block edges → ((k : ℕ) → In block (successors_of t k) → HeadPasses m.is_branch t k) → EdgesLose m shortened index edges t u → KeepsLinks m t u
  pub removed : (t u : Tree) (block index : ℕ) (edges : List Use) → IsTree t → LeadThere t block edges → ((k : ℕ) → In block (successors_of t k) → HeadPasses m.is_branch t k) → EdgesLose m shortened index edges t u → KeepsLinks m t (argument_removed u block index)
