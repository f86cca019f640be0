use Rattle.std.specs.Prelude.{string_bytes}
use Rattle.pliron_show_commands.proofs.EndingLemmas.{told_still}
use Rattle.pliron_show_commands.proofs.refusal.refusal_message_in.Goals as goal

pub returns : goal.returns
returns g c = told_still (string_bytes c.in_ok-message.message) _ _ c.in_ok-message.ensures c.in_ok-push_str.ensures.bytes
