use Rattle.pliron_theory.proofs.Refolded.{refolded}
use Rattle.pliron_theory.proofs.theory.branches_are_refolded.Goals as goal

pub returns : goal.returns
returns c = refolded
