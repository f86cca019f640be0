-- Folding in place by what every run reads of the operands.
use Rattle.std.specs.Prelude.{◌≡◌, ◌≤◌, ◌⊎◌, ℕ, Bool, List, Option, Some, length}
use Rattle.pliron_core.specs.declared.attrs.AttrObj.{AttrObj}
use Rattle.pliron_core.specs.declared.attrs.IRStatus.{IRStatus}
use Rattle.pliron_core.specs.Tree.{Tree, IsLive, IsInside, operands_of, parent_of}
use Rattle.pliron_core.specs.Invariant.{IsTree}
use Rattle.pliron_core.specs.Changes.{IsSameTree}
use Rattle.pliron_laws.specs.Datum.{Head, Meaning}
use Rattle.pliron_laws.specs.InPlace.{Outcome}
use Rattle.pliron_laws.specs.Answers.{HeadPasses}
use Rattle.pliron_laws.specs.Linked.{IsWellLinked}
use Rattle.pliron_theory.specs.Keeps.{KeepsRuns}
use Rattle.pliron_theory.specs.Refolded.{AreReadAs}
use Rattle.pliron_theory.specs.Rebranching.{IsRebranched}

-- each outcome of folding a branch keeps runs, also after a refusal, where the branch is inside a root at
-- which the tree is well linked, and the known constants are what every run reads of its operands
abbrev pub BranchFoldsLaw : Meaning → (Head → Bool) → Outcome → Type 0
BranchFoldsLaw m can_fold_branch outcome = (t t' : Tree) (root op : ℕ) (known : List (Option AttrObj)) (answer : Option IRStatus) → IsTree t → IsTree t' → length t.operations ≤ length t'.operations → IsWellLinked m t root → IsInside t root op → HeadPasses can_fold_branch t op → length known ≡ length (operands_of t op) → AreReadAs m t op known → outcome t t' op known answer → KeepsRuns m t t'

-- each outcome of folding an operation by constants keeps runs, also after a refusal, where the known
-- constants are what every run reads of its operands
abbrev pub ConstantFoldsLaw : Meaning → (Head → Bool) → Outcome → Type 0
ConstantFoldsLaw m can_fold outcome = (t t' : Tree) (op block : ℕ) (known : List (Option AttrObj)) (answer : Option IRStatus) → IsTree t → IsTree t' → length t.operations ≤ length t'.operations → parent_of t op ≡ Some block → HeadPasses can_fold t op → length known ≡ length (operands_of t op) → AreReadAs m t op known → outcome t t' op known answer → KeepsRuns m t t'

-- after each outcome of folding such a branch the tree is well linked at each root where it was, and which is
-- still live
abbrev pub BranchLinksLaw : Meaning → (Head → Bool) → Outcome → Type 0
BranchLinksLaw m can_fold_branch outcome = (t t' : Tree) (root other op : ℕ) (known : List (Option AttrObj)) (answer : Option IRStatus) → IsTree t → IsTree t' → IsWellLinked m t root → IsInside t root op → HeadPasses can_fold_branch t op → outcome t t' op known answer → IsWellLinked m t other → IsLive t other → IsLive t' other → IsWellLinked m t' other

-- each outcome of folding such a branch is the same tree but for erased handles, or another branch is in its
-- place
abbrev pub BranchOutcomesLaw : Meaning → (Head → Bool) → Outcome → Type 0
BranchOutcomesLaw m can_fold_branch outcome = (t t' : Tree) (root op : ℕ) (known : List (Option AttrObj)) (answer : Option IRStatus) → IsTree t → IsTree t' → IsWellLinked m t root → IsInside t root op → HeadPasses can_fold_branch t op → outcome t t' op known answer → IsSameTree t t' ⊎ ((a new : ℕ) × (front : List ℕ) × IsRebranched t t' a op new front)
