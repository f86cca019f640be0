use Rattle.std.proofs.Common.{arith}
use Rattle.pliron_text_llvm_edges.specs.Phis.{is_phi_at}
use Rattle.pliron_text_llvm_edges.proofs.NumberLemmas.{passing_more}
use Rattle.pliron_text_llvm_edges.proofs.phis.push_phis_of_block.Goals as goal

pub loop-line-preserved : goal.loop-line-preserved
loop-line-preserved c = (
  passing_more (is_phi_at c.args.reading.now.body.lines.items) c.args.block.number c.loop-line.line c.args.block.lines.end _ _ _ (omega arith) c.loop-line.invariant.0 c.in_ok-push_phi.ensures.places,
  c.in_ok-push_phi.ensures.fit,
)
