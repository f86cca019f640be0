use Rattle.pliron_driver.proofs.WordLemmas.{behind, begins_otherwise}
use Rattle.pliron_driver.proofs.program.pipeline_text.text_behind.Goals as goal

pub returns-in-Some-clause-some : goal.returns-in-Some-clause-some
returns-in-Some-clause-some c = behind c.args.start.now c.args.text.now c.in-Some.rest.now c.in-Some.ensures.cases

pub returns-in-None-clause-none : goal.returns-in-None-clause-none
returns-in-None-clause-none c = begins_otherwise c.args.start.now c.args.text.now c.in-None.ensures.cases
