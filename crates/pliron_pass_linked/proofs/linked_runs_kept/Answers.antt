use Rattle.pliron_pass_linked.proofs.KeepsLinked.{keeping_laws}
use Rattle.pliron_pass_linked.proofs.linked_runs_kept.Goals as goal

pub returns : goal.returns
returns c = keeping_laws
