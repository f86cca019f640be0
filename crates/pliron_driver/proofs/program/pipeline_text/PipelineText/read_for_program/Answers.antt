use Rattle.std.proofs.Common.{map}
use Rattle.pliron_driver.proofs.WordLemmas.{plans_plainly}
use Rattle.pliron_driver.proofs.program.pipeline_text.PipelineText.read_for_program.Goals as goal

pub returns-in-Ok : goal.returns-in-Ok
returns-in-Ok c = plans_plainly c.args.word.now c.in-Ok.plan.runs c.in-Ok.plan.nested (map (λ name. name.now) c.in-Ok.plan.names.items) c.in-Ok.ensures
