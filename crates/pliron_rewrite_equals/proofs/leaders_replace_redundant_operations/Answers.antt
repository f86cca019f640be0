use Rattle.pliron_rewrite_equals.proofs.Redundancy.{leaders_stand}
use Rattle.pliron_rewrite_equals.proofs.leaders_replace_redundant_operations.Goals as goal

pub returns : goal.returns
returns g c = leaders_stand _ _ g.met.D.Dialect.keeps_counts g.met.D.Dialect.gives_at_once
