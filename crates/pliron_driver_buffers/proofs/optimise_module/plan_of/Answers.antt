use Rattle.pliron_driver_buffers.proofs.ModuleLemmas.{asks_same}
use Rattle.pliron_driver_buffers.proofs.optimise_module.plan_of.Goals as goal

pub returns-in-Ok-read_plan-clause-asked : goal.returns-in-Ok-read_plan-clause-asked
returns-in-Ok-read_plan-clause-asked c =
    asks_same c.args.word.now c.in-Ok.word.now _ _ _ c.in-Ok.ensures.cases.0 c.in-Ok-read_plan.ensures
