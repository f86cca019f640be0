use Rattle.pliron_pass_linked.proofs.LinkedAgree.{tables_agree}
use Rattle.pliron_pass_linked.proofs.linked_runs_agree_on_inputs.Goals as goal

pub returns : goal.returns
returns c = tables_agree
