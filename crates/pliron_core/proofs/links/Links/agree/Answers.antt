use Rattle.pliron_core.proofs.OwnLemmas.{owned-sound}
use Rattle.pliron_core.proofs.links.Links.agree.Goals as goal

pub returns : goal.returns
returns c = rw (← c.self.view_is) (owned-sound _ _ c.self.invariant)
