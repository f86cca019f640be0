use Rattle.pliron_core.proofs.OpLemmas.{first_owned}
use Rattle.pliron_core.proofs.links.Links.head.Goals as goal

pub returns-clause-owned : goal.returns-clause-owned
returns-clause-owned c =
    let r = rw (← c.self.view_is) at c.requires in
    rw (← c.self.view_is, c.get.ensures) (first_owned _ _ c.self.invariant _ _ r c.index.ensures)
