use Rattle.std.proofs.Common.{codes}
use Rattle.pliron_show.specs.Faults.{error_line}
use Rattle.pliron_show_commands.proofs.EndingLemmas.{begins_still}
use Rattle.pliron_show_commands.proofs.graph_fault.graph_fault_message.Goals as goal

pub returns : goal.returns
returns c = begins_still (error_line (codes "unreadable graph")) _ _ _ c.in_ok-reported.ensures c.in_ok-push_str.ensures.bytes
