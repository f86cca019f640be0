-- Results and arguments that fold, and trees in which they were folded.
use Rattle.std.specs.Prelude.{◌≡◌, ◌↔◌, ℕ, List, [], ◌∷◌, Some}
use Rattle.pliron_core.specs.declared.attrs.IRStatus.{IRStatus}
use Rattle.pliron_core.specs.declared.attrs.IRStatus.TheVariants.{Changed}
use Rattle.pliron_core.specs.Changes.{IsSameTree}
use Rattle.pliron_core.specs.Tree.{Tree, In, operands_of, parent_of}
use Rattle.pliron_core.specs.Writes.{after_replacing}
use Rattle.pliron_laws.specs.Datum.{Meaning}
use Rattle.pliron_laws.specs.declared.operand_folds.OpFoldResult.{OpFoldResult}
use Rattle.pliron_rewrite_operands.specs.Answers.{Folding}
use Rattle.pliron_rewrite_operands.specs.Answered.{HasAnswer, IsMade, after_folding}
use Rattle.pliron_rewrite_arguments.specs.OneValue.{IsOneValue}
use Rattle.pliron_graph_order.specs.Seen.{IsSeen, IsUsed}

-- an operation that is seen is in the block
abbrev pub IsSeenBlock : Tree → (root block : ℕ) → Type 0
IsSeenBlock t root block = (k : ℕ) × IsSeen t root k × (parent_of t k ≡ Some block)

-- the result at i is used, and folds to this answer
pub record IsFold (x : Folding) (t : Tree) (k i : ℕ) (answer : OpFoldResult) : Type 0 where
  pub has : HasAnswer x t k i answer
  pub made : IsMade x answer
  pub used : IsUsed t has.value

-- the argument of the block at i is used, and is this one value
pub record IsArgumentFold (m : Meaning) (t : Tree) (block i v : ℕ) : Type 0 where
  pub one : IsOneValue m t block i v
  pub used : IsUsed t one.argument

-- a result of an operation and what it folds to, or an argument of a block and the value that it is
pub data Fold : Type 0 where
  OfResult : (op index : ℕ) (answer : OpFoldResult) → Fold
  OfArgument : (block index value : ℕ) → Fold

-- what folds is seen, and its uses become uses of what it folds to
abbrev pub FoldsTo : Folding → ℕ → Fold → (t t' : Tree) → Type 0
FoldsTo x root (OfResult k i answer) t t' = IsSeen t root k × ((is : IsFold x t k i answer) × (t' ≡ after_folding x t k is.has.value answer))
FoldsTo x root (OfArgument block i v) t t' = IsSeenBlock t root block × ((is : IsArgumentFold x.meaning t block i v) × (t' ≡ after_replacing t is.one.argument v))

-- these fold, one after the other
abbrev pub FoldInTurn : Folding → ℕ → List Fold → (t t' : Tree) → Type 0
FoldInTurn x root [] t t' = t' ≡ t
FoldInTurn x root (f ∷ fs) t t' = (u : Tree) × FoldsTo x root f t u × FoldInTurn x root fs u t'

-- these were folded, and then handles may have been erased
abbrev pub AreFolded : Folding → ℕ → List Fold → (t t' : Tree) → Type 0
AreFolded x root fs t t' = (u : Tree) × FoldInTurn x root fs t u × IsSameTree u t'

-- something that is seen folds
abbrev pub HasFolds : Folding → Tree → ℕ → Type 0
HasFolds x t root = (f : Fold) × (u : Tree) × FoldsTo x root f t u

-- `Changed` exactly if something folds
abbrev pub ReportsFolds : Folding → Tree → ℕ → IRStatus → Type 0
ReportsFolds x t root status = (status ≡ Changed) ↔ HasFolds x t root
