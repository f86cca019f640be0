use Rattle.pliron_theory.proofs.RebranchedStays.{rebranched_keeps}
use Rattle.pliron_theory.proofs.theory.branches_are_replaced.Goals as goal

pub returns : goal.returns
returns c = rebranched_keeps
