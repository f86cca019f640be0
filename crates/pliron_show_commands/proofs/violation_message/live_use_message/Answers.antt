use Rattle.std.proofs.Common.{◌∙◌}
use Rattle.pliron_show_commands.proofs.EndingLemmas.{told_use}
use Rattle.pliron_show_commands.proofs.violation_message.live_use_message.Goals as goal

pub returns-then-is_some : goal.returns-then-is_some
returns-then-is_some g c = told_use c.in_ok-words.words.message.now _ (c.in_ok-words.ensures ∙ c.unreached_words.ensures) c.in_ok-message.ensures

pub returns : goal.returns
returns g c = told_use c.in_ok-words.words.message.now _ (c.in_ok-words.ensures ∙ c.unreached_words.ensures) c.in_ok-message-2.ensures
