use Rattle.pliron_show_commands.proofs.EndingLemmas.{refused_first}
use Rattle.pliron_show_commands.proofs.outcome.refusal_report.Goals as goal

pub returns : goal.returns
returns c = refused_first _ _ _ c.in_ok-report.ensures.ok c.in_ok-push_str.ensures.bytes
