use Rattle.pliron_graph_traversal.specs.Internal.Sources.{AreSourcesSoFar}
use Rattle.pliron_graph_traversal.proofs.region.edge_sources.Given as goal

abbrev pub invariant-loop-i : goal.invariant-loop-i
invariant-loop-i l = AreSourcesSoFar l.ctx l.block l.i l.sources.items
