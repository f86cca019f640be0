use Rattle.pliron_rewrite_rules.proofs.Replacements.{results_keep}
use Rattle.pliron_rewrite_rules.proofs.results_before_replace_results.Goals as goal

pub returns : goal.returns
returns g c = results_keep _ _ g.met.D.Dialect.keeps_counts g.met.D.Dialect.gives_at_once
