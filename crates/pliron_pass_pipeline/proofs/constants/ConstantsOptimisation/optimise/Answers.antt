use Rattle.std.proofs.Common.{◌≡◌, Some, Err, refl, rules, subst}
use Rattle.pliron_laws.specs.InPlace.{ReportsChange}
use Rattle.pliron_pass_pipeline.proofs.constants.ConstantsOptimisation.optimise.Goals as goal

pub returns-clause-change : goal.returns-clause-change
returns-clause-change g c = c.in_ok-status.ensures.propagates.1.change

pub returns-clause-accurate : goal.returns-clause-accurate
returns-clause-accurate g c =
    let p = c.in_ok-status.ensures.propagates in
    record { same = λ e. subst (λ s. ReportsChange (Some s) c.args.ctx.now.tree c.sccp.new.ctx.tree) e p.1.accurate; edges = λ e. p.1.edges }

pub returns-clause-outcome : goal.returns-clause-outcome
returns-clause-outcome g c =
    let p = c.in_ok-status.ensures.propagates in
    ((p.0, p.1.propagated), p.1.accurate, refl)

pub returns-in_err-status-clause-change : goal.returns-in_err-status-clause-change
returns-in_err-status-clause-change g c = c.in_err-status.ensures.propagates.1.change

pub returns-in_err-status-clause-outcome : goal.returns-in_err-status-clause-outcome
returns-in_err-status-clause-outcome g c =
    let p = c.in_err-status.ensures.propagates in
    let is : c.from_residual.result ≡ Err c.in_err-status.field-0.0 = search rules in
    rw is (p.1.memory, p.1.partly)
