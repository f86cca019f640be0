use Rattle.pliron_core.proofs.EdgeLemmas.{IsSeen}
use Rattle.pliron_core.proofs.context.edge_reads.Ptr+BasicBlock.has_single_predecessor.Given as goal

abbrev pub invariant-loop-i : goal.invariant-loop-i
invariant-loop-i l = IsSeen l.ctx l.self l.i l.found
