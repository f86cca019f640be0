use Rattle.pliron_driver_modules.proofs.OutcomeLemmas.{ends_planned}
use Rattle.pliron_driver_modules.proofs.outcome.run_passes.Goals as goal

pub returns-in-Some : goal.returns-in-Some
returns-in-Some g c = ends_planned _ _ _ _ _ c.in-Some.pipeline _ c.run_pipeline.result c.in-Some.is c.in_ok-pipeline.ensures c.run_pipeline.ensures
