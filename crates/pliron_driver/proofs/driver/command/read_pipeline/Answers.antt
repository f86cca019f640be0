use Rattle.pliron_driver.proofs.AskLemmas.{planned}
use Rattle.pliron_driver.proofs.driver.command.read_pipeline.Goals as goal

pub returns-in-Some : goal.returns-in-Some
returns-in-Some g c =
    planned c.args.word.now c.in-Some.text.runs c.in-Some.text.nested _ c.build_pipeline.result (rw c.in-Some.is at c.in_ok-text.ensures) c.build_pipeline.ensures
