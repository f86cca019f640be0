use Rattle.std.proofs.Common.{length}
use Rattle.pliron_graph_components.proofs.numbered_graph.lines.Given as goal

abbrev pub decreases-loop-rest : goal.decreases-loop-rest
decreases-loop-rest l = length l.rest
