use Rattle.pliron_show_commands.proofs.CommandLemmas.{is_planned}
use Rattle.pliron_show_commands.proofs.optimising.opt_by.Goals as goal

pub returns-in-Some : goal.returns-in-Some
returns-in-Some g c = is_planned _ _ _ _ _ c.in-Some.pipeline _ c.opt_with.result c.in-Some.is c.in_ok-pipeline.ensures c.opt_with.ensures
