use Rattle.std.proofs.Common.{refl, sym, ◌∙◌}
use Rattle.pliron_dialect.specs.Roles.{fit_data}
use Rattle.pliron_evaluator.specs.Evaluator.{datum_of_value}
use Rattle.pliron_evaluator.proofs.EvaluatorLemmas.{fitted_more, fitted_done}
use Rattle.pliron_role_runs.proofs.ListReads.{first_datum, nothing_begins, read_at}
use Rattle.pliron_role_runs.proofs.data.fitted_to.Goals as goal

pub loop-i-preserved : goal.loop-i-preserved
loop-i-preserved c =
    let here = read_at c.args.input.now c.loop-i.i (datum_of_value c.in_ok-nth_datum.field-0) c.in_ok-nth_datum.ensures in
    c.loop-i.invariant ∙ fitted_more fit_data first_datum nothing_begins c.args.count c.loop-i.i c.args.input.now c.loop-i.data.items c.push.new.self.items c.in_ok-nth_datum.field-0 c.loop-i-test.true here c.in_ok-push.ensures.items

pub returns : goal.returns
returns c = sym (c.loop-i.invariant ∙ fitted_done fit_data first_datum (λ ds. refl) c.args.count c.loop-i.i c.args.input.now c.loop-i.data.items c.loop-i-test.false)
