use Rattle.std.proofs.Common.{◌∙◌, sym}
use Rattle.pliron_core.proofs.OpLemmas.{prev_of-is, prev_owned}
use Rattle.pliron_core.proofs.links.Links.prev.Goals as goal

pub returns-in-Some-clause-prev : goal.returns-in-Some-clause-prev
returns-in-Some-clause-prev c =
    let r = rw (← c.self.view_is) at c.requires in
    rw (← c.self.view_is, c.get-in-Some.ensures) (prev_of-is _ _ c.self.invariant _ _ _ 0 0 r c.index.ensures (sym c.get.ensures ∙ c.in-Some.is))

pub returns-in-Some-clause-same_owner : goal.returns-in-Some-clause-same_owner
returns-in-Some-clause-same_owner c =
    let r = rw (← c.self.view_is) at c.requires in
    rw (← c.self.view_is, c.get-in-Some.ensures) (prev_owned _ _ c.self.invariant _ _ _ r c.index.ensures (sym c.get.ensures ∙ c.in-Some.is))
