use Rattle.pliron_theory.proofs.WholeChanges.{whole_refl, whole_trans, same_whole, whole_widen}
use Rattle.pliron_theory.proofs.theory.whole_passes_compose.Goals as goal

pub returns : goal.returns
returns c = record { reflexive = whole_refl; transitive = whole_trans; same = same_whole; held = whole_widen }
