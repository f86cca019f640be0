use Rattle.std.proofs.Common.{sym, subst}
use Rattle.pliron_show_commands.specs.Reports.{TellsRefusal}
use Rattle.pliron_show_commands.proofs.EndingLemmas.{told_between}
use Rattle.pliron_show_commands.proofs.optimising.refusal_outcome.Goals as goal

pub refusing_outcome-requires : goal.refusing_outcome-requires
refusing_outcome-requires g c = told_between _ c.as_str.result.now _ _ _ (subst TellsRefusal (sym c.as_str.ensures.value) c.in_ok-refused.ensures.told) c.in_ok-push_str.ensures.bytes c.in_ok-push_str-2.ensures.bytes
