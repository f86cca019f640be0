use Rattle.pliron_opt_inline.proofs.InTurnLemmas.{in_turn_laws}
use Rattle.pliron_opt_inline.proofs.laws.calls_are_inlined_in_turn.Goals as goal

pub returns : goal.returns
returns c = in_turn_laws
