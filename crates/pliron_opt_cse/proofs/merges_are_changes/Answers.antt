use Rattle.pliron_opt_cse.proofs.Changing.{changing}
use Rattle.pliron_opt_cse.proofs.merges_are_changes.Goals as goal

pub returns : goal.returns
returns g c = changing _ _ g.met.D.Dialect.keeps_counts g.met.D.Dialect.gives_at_once
