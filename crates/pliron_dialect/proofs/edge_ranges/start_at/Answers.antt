use Rattle.pliron_dialect.proofs.EdgeLemmas.{start_more}
use Rattle.pliron_dialect.proofs.edge_ranges.start_at.Goals as goal

pub loop-j-preserved : goal.loop-j-preserved
loop-j-preserved c = start_more c.args.edges c.loop-j.j c.args.most c.loop-j.start c.count_at.result c.sum_up_to-start.result c.args.attrs.now c.loop-j.invariant c.count_at.ensures c.sum_up_to-start.ensures
