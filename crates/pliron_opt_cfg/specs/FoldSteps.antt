-- What holds while branches are folded one after the other.
use Rattle.std.specs.Prelude.{◌≡◌, ◌≢◌, ℕ, Bool, List, None, drop}
use Rattle.pliron_core.specs.declared.attrs.IRStatus.{IRStatus}
use Rattle.pliron_core.specs.declared.attrs.IRStatus.TheVariants.{Changed, Unchanged}
use Rattle.pliron_core.specs.Status.{changed_by_either}
use Rattle.pliron_core.specs.Lists.{IsDistinct}
use Rattle.pliron_core.specs.Tree.{Tree, In, IsLive, IsInside, head_of, block_parent_of}
use Rattle.pliron_core.specs.Invariant.{IsTree}
use Rattle.pliron_core.specs.Changes.{IsSameTree}
use Rattle.pliron_laws.specs.Datum.{Head, Meaning}
use Rattle.pliron_laws.specs.Folding.{Constants}
use Rattle.pliron_laws.specs.InPlace.{Outcome}
use Rattle.pliron_laws.specs.Answers.{HeadPasses}
use Rattle.pliron_theory.specs.Change.{IsWholeChange}
use Rattle.pliron_opt_cfg.specs.Folded.{FoldsAll, FoldsSome}

-- `Unchanged` says that the tree is the same but for erased handles, `Changed` that an operation was erased
abbrev pub ReportsAnyErased : IRStatus → Tree → Tree → Type 0
ReportsAnyErased Unchanged t u = IsSameTree t u
ReportsAnyErased Changed t u = (k : ℕ) × IsLive t k × (head_of u k ≡ None)

-- the operation is inside the root and folds as a branch
abbrev pub IsBranchInside : (Head → Bool) → Tree → (root k : ℕ) → Type 0
IsBranchInside can_fold_branch t root k = IsInside t root k × HeadPasses can_fold_branch t k

-- what one fold, or a part of it, does: a pass would do no more, blocks stay, and other branches that fold
pub record IsBranchFoldStep (m : Meaning) (can_fold_branch : Head → Bool) (t u : Tree) (root op : ℕ) : Type 0 where
  pub tree : IsTree u
  pub change : IsWholeChange m t u root
  pub blocks : (b : ℕ) → block_parent_of u b ≡ block_parent_of t b
  pub others : (k : ℕ) → k ≢ op → IsBranchInside can_fold_branch t root k → IsBranchInside can_fold_branch u root k

-- the branches before index i are folded, and the others are still live: what folds these from here folds all
-- from the start
pub record IsFoldingBranches (m : Meaning) (can_fold can_fold_branch : Head → Bool) (constants : Constants) (outcome : Outcome) (root : ℕ) (start : Tree) (branches : List ℕ) (i : ℕ) (status : IRStatus) (now : Tree) : Type 0 where
  pub tree : IsTree now
  pub change : IsWholeChange m start now root
  pub blocks : (b : ℕ) → block_parent_of now b ≡ block_parent_of start b
  pub waiting : (k : ℕ) → In k (drop i branches) → IsBranchInside can_fold_branch now root k
  pub distinct : IsDistinct (drop i branches)
  pub all : (u : Tree) (rest : IRStatus) → FoldsAll m can_fold constants outcome (drop i branches) now u rest → FoldsAll m can_fold constants outcome branches start u (changed_by_either status rest)
  pub some : (u : Tree) → FoldsSome m can_fold constants outcome (drop i branches) now u → FoldsSome m can_fold constants outcome branches start u
  pub reported : ReportsAnyErased status start now
