use Rattle.pliron_rewrite_rules.proofs.Replacements.{leaves_keep}
use Rattle.pliron_rewrite_rules.proofs.leaves_replace_results.Goals as goal

pub returns : goal.returns
returns g c = leaves_keep _ _ g.met.D.Dialect.keeps_counts g.met.D.Dialect.gives_at_once
