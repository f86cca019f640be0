use Rattle.pliron_rewrite_equals.proofs.Current.{results_current}
use Rattle.pliron_rewrite_equals.proofs.results_are_current.Goals as goal

pub returns : goal.returns
returns c = results_current
