-- What the pass of the simplification of control flow tells is so.
use Rattle.std.proofs.Common.{ℕ, Bool, false, Some, subst}
use Rattle.std.proofs.lemmas.Bool.{false≢true}
use Rattle.pliron_core.specs.Tree.{Tree}
use Rattle.pliron_core.specs.declared.attrs.IRStatus.{IRStatus}
use Rattle.pliron_laws.specs.Datum.{Head, Meaning}
use Rattle.pliron_laws.specs.Folding.{Constants}
use Rattle.pliron_laws.specs.InPlace.{Outcome, ReportsChange}
use Rattle.pliron_opt_cfg.specs.Simplified.{Simplifies}
use Rattle.pliron_pass_pipeline.specs.Optimising.{IsAccurateAnswer}

pub simplified_truly : (m : Meaning) (can_fold can_fold_branch : Head → Bool) (constants : Constants) (outcome : Outcome) (op : ℕ) (t t' : Tree) (status : IRStatus) → Simplifies m can_fold can_fold_branch constants outcome op t t' status → IsAccurateAnswer t t' (record { status = status; keeps_edges = false })
simplified_truly m can_fold can_fold_branch constants outcome op t t' status is = record {
  same = λ e. subst (λ s. ReportsChange (Some s) t t') e is.reports_change;
  edges = λ e. absurd (false≢true e);
}
