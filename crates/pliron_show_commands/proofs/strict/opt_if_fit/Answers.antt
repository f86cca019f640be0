use Rattle.pliron_show_commands.proofs.StrictLemmas.{either_way}
use Rattle.pliron_show_commands.proofs.strict.opt_if_fit.Goals as goal

pub returns-in-Ok-Some-Whole-clause-answer : goal.returns-in-Ok-Some-Whole-clause-answer
returns-in-Ok-Some-Whole-clause-answer g c = either_way _ _ c.opt.result c.opt.ensures

pub returns-in-Ok-Some-ByParts-clause-answer : goal.returns-in-Ok-Some-ByParts-clause-answer
returns-in-Ok-Some-ByParts-clause-answer g c = either_way _ _ c.opt-in-Ok-Some-ByParts.result c.opt-in-Ok-Some-ByParts.ensures
