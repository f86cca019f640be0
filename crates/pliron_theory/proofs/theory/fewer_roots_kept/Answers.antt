use Rattle.pliron_theory.proofs.FewerRoots.{keeps_fewer}
use Rattle.pliron_theory.proofs.theory.fewer_roots_kept.Goals as goal

pub returns : goal.returns
returns c = keeps_fewer
