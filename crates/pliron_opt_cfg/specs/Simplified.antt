-- Trees whose control flow was simplified.
use Rattle.std.specs.Prelude.{◌≡◌, ◌⊎◌, ℕ, Bool, Some}
use Rattle.pliron_core.specs.declared.attrs.IRStatus.{IRStatus}
use Rattle.pliron_core.specs.Status.{changed_by_either}
use Rattle.pliron_core.specs.Tree.{Tree}
use Rattle.pliron_laws.specs.declared.fault.OptError.{OptError}
use Rattle.pliron_laws.specs.declared.fault.OptError.TheVariants.{Memory}
use Rattle.pliron_laws.specs.Datum.{Head, Meaning}
use Rattle.pliron_laws.specs.Folding.{Constants}
use Rattle.pliron_laws.specs.InPlace.{Outcome, ReportsChange}
use Rattle.pliron_opt_cfg.specs.Visited.{OfOperation, IsUnreachable}
use Rattle.pliron_opt_cfg.specs.Folded.{branches_of, FoldsAll, FoldsSome}
use Rattle.pliron_opt_cfg.specs.Removed.{RemovesAll, RemovalFails}
use Rattle.pliron_opt_cfg.specs.Merged.{HasPair, MergesAll, MergesPartly}

-- the branches were folded, then the unreachable blocks were erased, then blocks were merged; the answer says
-- whether the tree changed, and no unreachable block and no mergeable pair is left
pub record Simplifies (m : Meaning) (can_fold can_fold_branch : Head → Bool) (constants : Constants) (outcome : Outcome) (op : ℕ) (t t' : Tree) (status : IRStatus) : Type 0 where
  pub folded : Tree
  pub removed : Tree
  pub fold_status : IRStatus
  pub removal_status : IRStatus
  pub merge_status : IRStatus
  pub folds : FoldsAll m can_fold constants outcome (branches_of can_fold_branch t op) t folded fold_status
  pub removes : RemovesAll (OfOperation op) folded removed removal_status
  pub merges : MergesAll (OfOperation op) m removed t' merge_status
  pub answer : status ≡ changed_by_either (changed_by_either fold_status removal_status) merge_status
  pub reports_change : ReportsChange (Some status) t t'
  pub none_unreachable : (b : ℕ) → IsUnreachable (OfOperation op) t' b → ⊥
  pub no_pair : HasPair (OfOperation op) m t' → ⊥

-- all unreachable blocks were erased, and merging gave up
pub record StopsAtMerging (m : Meaning) (op : ℕ) (u t' : Tree) : Type 0 where
  pub removed : Tree
  pub removal_status : IRStatus
  pub removes : RemovesAll (OfOperation op) u removed removal_status
  pub merges : MergesPartly (OfOperation op) m removed t'

-- all branches were folded, and removal or merging gave up
pub record StopsAfterFolding (m : Meaning) (can_fold can_fold_branch : Head → Bool) (constants : Constants) (outcome : Outcome) (op : ℕ) (t t' : Tree) (e : OptError) : Type 0 where
  pub folded : Tree
  pub fold_status : IRStatus
  pub folds : FoldsAll m can_fold constants outcome (branches_of can_fold_branch t op) t folded fold_status
  pub stops : RemovalFails (OfOperation op) folded t' e ⊎ ((e ≡ Memory) × StopsAtMerging m op folded t')

-- why it gave up, and the whole rewrites that were done then: some folds; all of them, and a first part of the
-- removal; all of both, and a first part of the merging
abbrev pub SimplifyFails : Meaning → (can_fold can_fold_branch : Head → Bool) → Constants → Outcome → ℕ → (t t' : Tree) → OptError → Type 0
SimplifyFails m can_fold can_fold_branch constants outcome op t t' e = ((e ≡ Memory) × FoldsSome m can_fold constants outcome (branches_of can_fold_branch t op) t t') ⊎ StopsAfterFolding m can_fold can_fold_branch constants outcome op t t' e
