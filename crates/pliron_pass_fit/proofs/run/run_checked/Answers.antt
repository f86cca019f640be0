use Rattle.std.proofs.Common.{ap, Err, ◌∙◌, refl, sym, subst}
use Rattle.pliron_core.proofs.InsideLemmas.{inside_refl}
use Rattle.pliron_theory.proofs.Simulation.{agree_refl}
use Rattle.pliron_pass_fit.proofs.FitLemmas.{handed_on}
use Rattle.pliron_pass_fit.specs.declared.run.RunError.TheVariants.{Fault}
use Rattle.pliron_pass_fit.specs.Checked.{RunsOnce}
use Rattle.pliron_pass_fit.proofs.run.run_checked.Goals as goal

pub returns-in_err-check_linked-clause-same : goal.returns-in_err-check_linked-clause-same
returns-in_err-check_linked-clause-same g c = λ root fit live. (agree_refl _ _ root, fit)

pub returns-in_err-check_linked-clause-inside : goal.returns-in_err-check_linked-clause-inside
returns-in_err-check_linked-clause-inside g c = inside_refl _ _

pub returns-in_err-check_linked-clause-refused : goal.returns-in_err-check_linked-clause-refused
returns-in_err-check_linked-clause-refused g c = (λ e. c.in_err-check_linked.ensures.refused.1, λ n. handed_on c.from_residual.result c.in_err-check_linked.field-0.0 c.from_residual.ensures.1 ∙ ap Err c.in_err-check_linked.ensures.refused.0)

pub returns-in_err-check_linked-clause-change : goal.returns-in_err-check_linked-clause-change
returns-in_err-check_linked-clause-change g c = λ linked. absurd (c.in_err-check_linked.ensures.refused.1 linked)

pub returns-in_err-check_linked-clause-untouched : goal.returns-in_err-check_linked-clause-untouched
returns-in_err-check_linked-clause-untouched g c = λ n. (refl, refl, refl)

pub returns-in_err-check_linked-clause-outcome : goal.returns-in_err-check_linked-clause-outcome
returns-in_err-check_linked-clause-outcome g c = λ linked. absurd (c.in_err-check_linked.ensures.refused.1 linked)

pub returns-in_err-status-clause-outcome : goal.returns-in_err-status-clause-outcome
returns-in_err-status-clause-outcome g c = λ linked.
    subst (RunsOnce _ _ _ _ _ _ _) (sym (handed_on c.from_residual-in_err-status.result (Fault c.in_err-status.field-0.0) c.from_residual-in_err-status.ensures.1)) c.in_err-status.ensures.outcome
