use Rattle.pliron_opt_dce.specs.Incoming.{edges_of}
use Rattle.pliron_opt_dce.proofs.TakeLemmas.{AreForwardedSoFar}
use Rattle.pliron_opt_dce.proofs.erase.operands_to.Given as goal

abbrev pub invariant-loop-edge : goal.invariant-loop-edge
invariant-loop-edge g l = AreForwardedSoFar g.D.HasMeaning.meaning l.ctx.tree l.index (edges_of l.edges) l.edge-index l.used.items
