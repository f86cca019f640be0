use Rattle.pliron_rewrite_equals.proofs.Passing.{passing}
use Rattle.pliron_rewrite_equals.proofs.operands_replace_results.Goals as goal

pub returns : goal.returns
returns c = passing
