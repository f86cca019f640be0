use Rattle.pliron_show_commands.proofs.StrictLemmas.{either_way, rejected_strictly}
use Rattle.pliron_show_commands.proofs.strict.opt_with_check.Goals as goal

pub returns-then-is_strict-clause-answer : goal.returns-then-is_strict-clause-answer
returns-then-is_strict-clause-answer g c = rejected_strictly _ _ c.args.is_strict c.opt_if_fit.result c.if-is_strict.true c.opt_if_fit.ensures.answer

pub returns-in-Ok-clause-answer : goal.returns-in-Ok-clause-answer
returns-in-Ok-clause-answer g c = either_way _ _ c.opt_after.result c.opt_after.ensures
