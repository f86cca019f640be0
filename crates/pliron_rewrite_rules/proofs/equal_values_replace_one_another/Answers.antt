use Rattle.pliron_rewrite_rules.proofs.Equations.{equations_keep}
use Rattle.pliron_rewrite_rules.proofs.equal_values_replace_one_another.Goals as goal

pub returns : goal.returns
returns g c = equations_keep _ _ g.met.D.Dialect.keeps_counts g.met.D.Dialect.gives_at_once
