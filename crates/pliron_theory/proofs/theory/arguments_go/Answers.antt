use Rattle.pliron_theory.proofs.DroppedStays.{dropped_keeps}
use Rattle.pliron_theory.proofs.theory.arguments_go.Goals as goal

pub returns : goal.returns
returns c = dropped_keeps
