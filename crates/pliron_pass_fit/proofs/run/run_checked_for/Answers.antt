use Rattle.std.proofs.Common.{ap, Err, ◌∙◌, inl, inr, refl, sym, subst}
use Rattle.pliron_core.proofs.InsideLemmas.{inside_refl}
use Rattle.pliron_theory.proofs.Simulation.{agree_refl}
use Rattle.pliron_theory.proofs.ChangeLemmas.{change_refl}
use Rattle.pliron_pass_fit.proofs.FitLemmas.{handed_on, chosen_is}
use Rattle.pliron_pass_fit.specs.declared.run.RunError.TheVariants.{Fault}
use Rattle.pliron_pass_fit.specs.Checked.{RunsOnceFor}
use Rattle.pliron_pass_fit.proofs.run.run_checked_for.Goals as goal

pub returns-in_err-check_linked-clause-same : goal.returns-in_err-check_linked-clause-same
returns-in_err-check_linked-clause-same g c = λ root fit live. (agree_refl _ _ root, fit)

pub returns-in_err-check_linked-clause-inside : goal.returns-in_err-check_linked-clause-inside
returns-in_err-check_linked-clause-inside g c = inside_refl _ _

pub returns-in_err-check_linked-clause-refused : goal.returns-in_err-check_linked-clause-refused
returns-in_err-check_linked-clause-refused g c = (λ e. c.in_err-check_linked.ensures.refused.1, λ n. handed_on c.from_residual.result c.in_err-check_linked.field-0.0 c.from_residual.ensures.1 ∙ ap Err c.in_err-check_linked.ensures.refused.0)

pub returns-in_err-check_linked-clause-change : goal.returns-in_err-check_linked-clause-change
returns-in_err-check_linked-clause-change g c = λ linked. absurd (c.in_err-check_linked.ensures.refused.1 linked)

pub returns-in_err-fit-clause-same : goal.returns-in_err-fit-clause-same
returns-in_err-fit-clause-same g c = λ root fit live. (agree_refl _ _ root, fit)

pub returns-in_err-fit-clause-inside : goal.returns-in_err-fit-clause-inside
returns-in_err-fit-clause-inside g c = inside_refl _ _

pub returns-in_err-fit-clause-change : goal.returns-in_err-fit-clause-change
returns-in_err-fit-clause-change g c = λ linked. change_refl _ _ _ c.requires linked

pub returns-clause-kept : goal.returns-clause-kept
returns-clause-kept g c = λ root i live. c.in_ok-ran.ensures.same root (chosen_is _ _ _ c.in_ok-fit.ensures.fit root i) live

pub returns-in_err-check_linked-clause-untouched : goal.returns-in_err-check_linked-clause-untouched
returns-in_err-check_linked-clause-untouched g c = λ n. (refl, refl, refl)

pub returns-in_err-check_linked-clause-outcome : goal.returns-in_err-check_linked-clause-outcome
returns-in_err-check_linked-clause-outcome g c = λ linked. absurd (c.in_err-check_linked.ensures.refused.1 linked)

pub returns-in_err-fit-clause-outcome : goal.returns-in_err-fit-clause-outcome
returns-in_err-fit-clause-outcome g c = λ linked.
    subst (RunsOnceFor _ _ _ _ _ _ _) (sym (handed_on c.from_residual-in_err-fit.result (Fault c.in_err-fit.field-0.0) c.from_residual-in_err-fit.ensures.1)) (inr (c.in_err-fit.ensures.memory, refl, refl))

pub returns-in_err-ran-clause-outcome : goal.returns-in_err-ran-clause-outcome
returns-in_err-ran-clause-outcome g c = λ linked.
    subst (RunsOnceFor _ _ _ _ _ _ _) (sym (handed_on c.from_residual-in_err-ran.result (Fault c.in_err-ran.field-0.0) c.from_residual-in_err-ran.ensures.1)) (inl c.in_err-ran.ensures.outcome)
