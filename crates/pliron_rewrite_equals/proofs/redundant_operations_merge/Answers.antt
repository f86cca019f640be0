use Rattle.pliron_rewrite_equals.proofs.Merging.{merging}
use Rattle.pliron_rewrite_equals.proofs.redundant_operations_merge.Goals as goal

pub returns : goal.returns
returns g c = merging _ _ g.met.D.Dialect.keeps_counts g.met.D.Dialect.gives_at_once
