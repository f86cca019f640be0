use Rattle.pliron_rewrite_inlining.proofs.KeepsLinkedBy.{inlining_keeps}
use Rattle.pliron_rewrite_inlining.proofs.inlined_calls_keep_linked_runs.Goals as goal

pub returns : goal.returns
returns c = inlining_keeps
