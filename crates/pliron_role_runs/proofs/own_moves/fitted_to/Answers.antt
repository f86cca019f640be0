use Rattle.std.proofs.Common.{refl, sym, ◌∙◌}
use Rattle.pliron_role_runs.specs.Visits.{first_or_zero}
use Rattle.pliron_dialect_bench.specs.BenchMoves.{fit_with_zeros}
use Rattle.pliron_evaluator.proofs.EvaluatorLemmas.{fitted_more, fitted_done}
use Rattle.pliron_role_runs.proofs.ListReads.{zero_begins}
use Rattle.pliron_role_runs.proofs.own_moves.fitted_to.Goals as goal

pub loop-i-preserved : goal.loop-i-preserved
loop-i-preserved c =
    c.loop-i.invariant ∙ fitted_more fit_with_zeros first_or_zero zero_begins c.args.count c.loop-i.i c.args.input.now c.loop-i.data.items c.push.new.self.items c.in_ok-datum_or_zero.field-0 c.loop-i-test.true c.in_ok-datum_or_zero.ensures c.in_ok-push.ensures.items

pub returns : goal.returns
returns c = sym (c.loop-i.invariant ∙ fitted_done fit_with_zeros first_or_zero (λ ds. refl) c.args.count c.loop-i.i c.args.input.now c.loop-i.data.items c.loop-i-test.false)
