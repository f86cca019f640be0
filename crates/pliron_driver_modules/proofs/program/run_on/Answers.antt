use Rattle.pliron_driver_modules.proofs.StreamLemmas.{with_outcome}
use Rattle.pliron_driver_modules.proofs.program.run_on.Goals as goal

pub returns-in-Ok : goal.returns-in-Ok
returns-in-Ok g c = with_outcome _ _ _ _ _ _ c.in-Ok.ensures c.write_outcome.ensures
