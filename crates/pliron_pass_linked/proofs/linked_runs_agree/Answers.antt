use Rattle.pliron_pass_linked.proofs.LinkedAgree.{linked_agree}
use Rattle.pliron_pass_linked.proofs.linked_runs_agree.Goals as goal

pub returns : goal.returns
returns c = linked_agree
