use Rattle.pliron_show_commands.proofs.CommandLemmas.{are_compared, ends_badly}
use Rattle.pliron_show_commands.proofs.PartLemmas.{some_when}
use Rattle.pliron_show_commands.proofs.comparing.compare_in.Goals as goal

pub returns-in-Ok-Some : goal.returns-in-Ok-Some
returns-in-Ok-Some g c = are_compared _ _ _ _ _ g.N.ShownNotation.faults _ _ _ _ c.in-Ok-Some.seen.sights c.outcome_of.result (some_when _ _ _ c.in-Ok-Some.field-0-is c.in-Ok-Some.ensures) c.outcome_of.ensures

pub returns-in-Ok-None : goal.returns-in-Ok-None
returns-in-Ok-None g c = ends_badly _ _ _ c.failure_outcome.result c.failure_outcome.ensures
