use Rattle.std.proofs.Common.{map, ap, ◌∙◌}
use Rattle.pliron_laws.specs.Machine.{step, Reached}
use Rattle.pliron_evaluator.specs.Evaluator.{datum_of_value}
use Rattle.pliron_evaluator.proofs.EvaluatorSteps.{run_starts, run_goes, run_over, run_reached}
use Rattle.pliron_evaluator.proofs.evaluator.evaluate_noting.Goals as goal

pub loop-init : goal.loop-init
loop-init g c = run_starts (step g.D.HasMeaning.meaning c.args.ctx.now.tree) c.args.given.fuel c.in_ok-state.state _ c.in_ok-state.ensures

pub loop-preserved : goal.loop-preserved
loop-preserved g c = run_goes (step g.D.HasMeaning.meaning c.args.ctx.now.tree) c.args.given.fuel c.loop.counter c.loop.state _ c.loop-test.true c.loop.invariant c.in_ok-next.field-0 c.in-Continues.next c.in_ok-next.ensures c.in-Continues.is

pub returns-in-Over : goal.returns-in-Over
returns-in-Over g c = run_over (step g.D.HasMeaning.meaning c.args.ctx.now.tree) c.args.given.fuel c.loop.counter c.loop.state _ c.loop-test.true c.loop.invariant c.in_ok-next.field-0 c.in-Over.sight c.in_ok-next.ensures c.in-Over.is

pub returns : goal.returns
returns g c = ap (λ z. Reached (map datum_of_value z)) c.from.ensures.0 ∙ run_reached (step g.D.HasMeaning.meaning c.args.ctx.now.tree) c.args.given.fuel c.loop.counter c.loop.state _ c.loop-test.false c.loop.invariant
