use Rattle.pliron_rewrite_equals.proofs.Redundancy.{alike_keep}
use Rattle.pliron_rewrite_equals.proofs.alike_results_replace_one_another.Goals as goal

pub returns : goal.returns
returns g c = alike_keep _ _ g.met.D.Dialect.keeps_counts g.met.D.Dialect.gives_at_once
