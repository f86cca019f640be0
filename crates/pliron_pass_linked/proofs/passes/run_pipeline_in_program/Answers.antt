use Rattle.pliron_pass_linked.proofs.KeepsLinked.{pass_keeps}
use Rattle.pliron_pass_linked.proofs.passes.run_pipeline_in_program.Goals as goal

pub returns-clause-programs : goal.returns-clause-programs
returns-clause-programs g c = pass_keeps _ _ _ _ c.run_pipeline.ensures.change
