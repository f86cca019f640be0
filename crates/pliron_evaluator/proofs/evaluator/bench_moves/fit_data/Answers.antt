use Rattle.std.proofs.Common.{refl, sym, ◌∙◌}
use Rattle.pliron_dialect_bench.specs.BenchMoves.{datum_at, fit_with_zeros}
use Rattle.pliron_evaluator.proofs.EvaluatorLemmas.{fitted_more, fitted_done}
use Rattle.pliron_evaluator.proofs.BenchActs.{fitted_begins, datum_behind}
use Rattle.pliron_evaluator.proofs.evaluator.bench_moves.fit_data.Goals as goal

pub loop-i-preserved : goal.loop-i-preserved
loop-i-preserved c =
    let here = c.in_ok-datum_at.ensures ∙ datum_behind c.args.input.now c.loop-i.i in
    c.loop-i.invariant ∙ fitted_more fit_with_zeros (λ ds. datum_at ds 0) fitted_begins c.args.count c.loop-i.i c.args.input.now c.loop-i.data.items c.push.new.self.items c.in_ok-datum_at.field-0 c.loop-i-test.true here c.in_ok-push.ensures.items

pub returns : goal.returns
returns c = sym (c.loop-i.invariant ∙ fitted_done fit_with_zeros (λ ds. datum_at ds 0) (λ ds. refl) c.args.count c.loop-i.i c.args.input.now c.loop-i.data.items c.loop-i-test.false)
