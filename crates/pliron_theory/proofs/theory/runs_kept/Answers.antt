use Rattle.pliron_theory.proofs.Keeping.{keeps_refl, keeps_trans}
use Rattle.pliron_theory.proofs.SweptKeeps.{same_keeps}
use Rattle.pliron_theory.proofs.theory.runs_kept.Goals as goal

pub returns : goal.returns
returns c = record { reflexive = keeps_refl; transitive = keeps_trans; same = same_keeps }
