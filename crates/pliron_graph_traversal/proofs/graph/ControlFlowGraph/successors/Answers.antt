use Rattle.pliron_graph_traversal.proofs.graph.ControlFlowGraph.successors.Goals as goal
use Rattle.pliron_graph_traversal.proofs.UnwindingLemmas.{take_next}

pub loop-i-preserved : goal.loop-i-preserved
loop-i-preserved g c = (cc (c.in_ok-push.ensures.items, c.loop-i.invariant, take_next _ _ _ c.get_successor.ensures))
