use Rattle.pliron_rewrite_equals.proofs.Given.{results_given}
use Rattle.pliron_rewrite_equals.proofs.results_are_as_given.Goals as goal

pub returns : goal.returns
returns c = results_given
