use Rattle.std.proofs.Common.{refl, sym, ◌∙◌}
use Rattle.pliron_evaluator.specs.Tiny.{fitted_or_empty}
use Rattle.pliron_dialect.specs.Roles.{first_datum}
use Rattle.pliron_evaluator.proofs.EvaluatorLemmas.{tiny_begins, fitted_more, fitted_done}
use Rattle.pliron_evaluator.proofs.evaluator.tiny_moves.fit_data.Goals as goal

pub loop-i-preserved : goal.loop-i-preserved
loop-i-preserved c =
    c.loop-i.invariant ∙ fitted_more fitted_or_empty first_datum tiny_begins c.args.count c.loop-i.i c.args.input.now c.loop-i.data.items c.push.new.self.items c.in_ok-datum_or_empty.field-0 c.loop-i-test.true c.in_ok-datum_or_empty.ensures c.in_ok-push.ensures.items

pub returns : goal.returns
returns c = sym (c.loop-i.invariant ∙ fitted_done fitted_or_empty first_datum (λ ds. refl) c.args.count c.loop-i.i c.args.input.now c.loop-i.data.items c.loop-i-test.false)
