use Rattle.pliron_driver_modules.proofs.StreamLemmas.{of_input, of_unread}
use Rattle.pliron_driver_modules.proofs.program.outcome_of_input.Goals as goal

pub returns-in-Err : goal.returns-in-Err
returns-in-Err g c = of_unread _ _ _ _ c.unread_outcome.result c.unread_outcome.ensures

pub returns : goal.returns
returns g c = of_input _ _ _ _ _ c.run_word.result c.in-Ok-2.ensures.bytes c.new-text.ensures.items c.deref.ensures.value c.run_word.ensures
