-- What holds while regions lose their unreachable blocks one after the other.
use Rattle.std.specs.Prelude.{◌≡◌, ◌⊎◌, ℕ, List}
use Rattle.pliron_core.specs.declared.attrs.IRStatus.{IRStatus}
use Rattle.pliron_core.specs.declared.attrs.IRStatus.TheVariants.{Changed, Unchanged}
use Rattle.pliron_core.specs.Tree.{Tree, In}
use Rattle.pliron_core.specs.Invariant.{IsTree}
use Rattle.pliron_laws.specs.Datum.{Meaning}
use Rattle.pliron_theory.specs.Change.{IsWholeChange}
use Rattle.pliron_rewrite_blocks.specs.Links.{KeepsLinks}
use Rattle.pliron_opt_cfg.specs.Visited.{Start, IsCutOff, IsUnreachable}
use Rattle.pliron_opt_cfg.specs.Visits.{AreVisits}
use Rattle.pliron_opt_cfg.specs.declared.removal.scope.RemovalScope.{RemovalScope}
use Rattle.pliron_opt_cfg.specs.Removed.{RemovesSome, IsWithout}
use Rattle.pliron_opt_cfg.specs.Internal.Scopes.{start_of_scope, IsScopeLive, IsHolder}

-- the status after one more part of the work
abbrev pub status_after_more : (more status : IRStatus) → IRStatus
status_after_more Changed status = Changed
status_after_more Unchanged status = status

abbrev pub ReportsLoss : Start → (t u : Tree) → IRStatus → Type 0
ReportsLoss start t u Changed = (b : ℕ) × IsUnreachable start t b
ReportsLoss start t u Unchanged = u ≡ t

-- the block was unreachable, and is not any more
abbrev pub Went : Start → (t u : Tree) → ℕ → Type 0
Went start t u b = IsUnreachable start t b × (IsUnreachable start u b → ⊥)

-- of the regions rs those in `left` are still to be done, and the others have lost their unreachable blocks
pub record AreCleared (m : Meaning) (t u : Tree) (scope : RemovalScope) (root : ℕ) (rs ks left : List ℕ) (status : IRStatus) : Type 0 where
  pub liveness : IsScopeLive u scope
  pub holder : IsHolder u scope root
  pub first : IsTree t
  pub some : RemovesSome (start_of_scope scope) t u
  pub without : IsWithout t u (Went (start_of_scope scope) t u)
  pub were : (b : ℕ) → IsUnreachable (start_of_scope scope) u b → IsUnreachable (start_of_scope scope) t b
  pub visits : AreVisits u (start_of_scope scope u) rs ks
  pub change : IsWholeChange m t u root
  pub links : KeepsLinks m t u
  pub among : (r : ℕ) → In r left → In r rs
  pub cleared : (r : ℕ) → In r rs → In r left ⊎ ((b : ℕ) → IsCutOff u r b → ⊥)
  pub accurate : ReportsLoss (start_of_scope scope) t u status
