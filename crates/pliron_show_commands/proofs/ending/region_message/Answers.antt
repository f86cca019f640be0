use Rattle.pliron_show_commands.proofs.EndingLemmas.{region_first}
use Rattle.pliron_show_commands.proofs.ending.region_message.Goals as goal

pub returns : goal.returns
returns c = region_first _ _ _ _ c.in_ok-report.ensures.ok c.in_ok-push_str.ensures.bytes
