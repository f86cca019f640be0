use Rattle.pliron_core.proofs.OpLemmas.{owner_within}
use Rattle.pliron_core.proofs.links.Links.owner.Goals as goal

pub returns-clause-within : goal.returns-clause-within
returns-clause-within c =
    let r = rw (← c.self.view_is) at c.requires in
    rw (← c.self.view_is, c.get.ensures) (owner_within _ _ c.self.invariant _ _ r c.index.ensures)
