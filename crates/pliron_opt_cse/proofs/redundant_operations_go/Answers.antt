use Rattle.pliron_opt_cse.proofs.Merged.{merging}
use Rattle.pliron_opt_cse.proofs.redundant_operations_go.Goals as goal

pub returns : goal.returns
returns g c = merging _ _ g.met.D.Dialect.keeps_counts g.met.D.Dialect.gives_at_once
