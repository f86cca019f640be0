use Rattle.pliron_theory.proofs.SplicedStays.{spliced_keeps}
use Rattle.pliron_theory.proofs.theory.blocks_are_joined.Goals as goal

pub returns : goal.returns
returns c = spliced_keeps
