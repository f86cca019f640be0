use Rattle.std.proofs.Common.{arith, rules}
use Rattle.pliron_text_llvm_edges.proofs.PhiLemmas.{first_more}
use Rattle.pliron_text_llvm_edges.proofs.phis.phi_behind.Goals as goal

pub loop-line-preserved : goal.loop-line-preserved
loop-line-preserved c =
    first_more c.args.reading.now.body.lines.items _ c.loop-line.at_head c.at_head_behind-at_head.result c.loop-line.line c.args.block.end (omega arith) c.loop-line.invariant (search rules) (search rules)
