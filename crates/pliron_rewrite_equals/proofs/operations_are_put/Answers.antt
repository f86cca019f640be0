use Rattle.pliron_rewrite_equals.proofs.PutKeeps.{inserting}
use Rattle.pliron_rewrite_equals.proofs.operations_are_put.Goals as goal

pub returns : goal.returns
returns c = inserting
