use Rattle.std.proofs.Common.{arith}
use Rattle.pliron_text_llvm_edges.specs.Successors.{is_successor_at}
use Rattle.pliron_text_llvm_edges.proofs.NumberLemmas.{passing_more}
use Rattle.pliron_text_llvm_edges.proofs.edges.push_successors.Goals as goal

pub loop-hole-preserved : goal.loop-hole-preserved
loop-hole-preserved c = (
  passing_more (is_successor_at c.args.reading.now.body.holes.items) c.args.from c.loop-hole.hole c.args.line.now.end_hole _ _ _ (omega arith) c.loop-hole.invariant.0 c.in_ok-push_edge.ensures.sources,
  c.in_ok-push_edge.ensures.leads,
)
