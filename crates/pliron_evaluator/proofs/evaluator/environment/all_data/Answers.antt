use Rattle.std.proofs.Common.{◌≡◌, subst, ◌∙◌}
use Rattle.std.specs.Option.{option_map}
use Rattle.pliron_evaluator.specs.Evaluator.{datum_of_value, environment_of}
use Rattle.pliron_evaluator.proofs.EvaluatorLemmas.{data_more}
use Rattle.pliron_evaluator.proofs.evaluator.environment.all_data.Goals as goal

pub loop-value-preserved : goal.loop-value-preserved
loop-value-preserved c =
    let env = environment_of c.args.environment.now in
    let found = subst (λ o. option_map datum_of_value o ≡ env c.value-item.result) c.in-Some.is c.in_ok-datum.ensures in
    c.loop-value.invariant ∙ data_more env c.args.values.now c.loop-value.value-index c.value-item.result c.in-Some.datum c.loop-value.data.items c.push.new.self.items c.loop-value-test.true c.value-item.is found c.in_ok-push.ensures.items
