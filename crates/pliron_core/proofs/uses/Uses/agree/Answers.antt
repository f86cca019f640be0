use Rattle.pliron_core.proofs.PlaceLemmas.{agree-linked}
use Rattle.pliron_core.proofs.uses.Uses.agree.Goals as goal

pub returns : goal.returns
returns c = rw (← c.self.view_is) (agree-linked _ _ c.self.invariant.linked)
