use Rattle.pliron_evaluator.proofs.EvaluatorLemmas.{bound_so}
use Rattle.pliron_evaluator.proofs.evaluator.environment.bind_one.Goals as goal

pub returns : goal.returns
returns c = bound_so c.args.environment.now c.insert.new.self c.args.value c.in_ok-copy.copy c.args.datum.now c.in_ok-copy.ensures c.in_ok-insert.ensures.updates
