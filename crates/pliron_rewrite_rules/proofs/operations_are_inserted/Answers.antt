use Rattle.pliron_rewrite_rules.proofs.Inserted.{inserted_laws}
use Rattle.pliron_rewrite_rules.proofs.operations_are_inserted.Goals as goal

pub returns : goal.returns
returns g c = inserted_laws _ g.met.D.Dialect.keeps_counts
