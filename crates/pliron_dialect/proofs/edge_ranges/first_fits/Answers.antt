use Rattle.pliron_dialect.specs.Counted.{first_edge_count}
use Rattle.pliron_dialect.proofs.EdgeLemmas.{first_below}
use Rattle.pliron_dialect.proofs.edge_ranges.first_fits.Goals as goal

pub returns : goal.returns
returns c = first_below (first_edge_count c.args.attrs.now) c.args.operands c.first_count.result c.first_count.ensures
