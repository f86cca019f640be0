use Rattle.pliron_rewrite_inlining.proofs.KeepsLinkedBy.{linked_by_laws}
use Rattle.pliron_rewrite_inlining.proofs.linked_runs_kept_by_name.Goals as goal

pub returns : goal.returns
returns c = linked_by_laws
