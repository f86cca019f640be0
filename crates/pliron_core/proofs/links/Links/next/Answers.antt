use Rattle.std.proofs.Common.{◌∙◌, sym}
use Rattle.pliron_core.proofs.OpLemmas.{next_of-is, next_owned}
use Rattle.pliron_core.proofs.links.Links.next.Goals as goal

pub returns-in-Some-clause-next : goal.returns-in-Some-clause-next
returns-in-Some-clause-next c =
    let r = rw (← c.self.view_is) at c.requires in
    rw (← c.self.view_is, c.get-in-Some.ensures) (next_of-is _ _ c.self.invariant _ _ _ 0 0 r c.index.ensures (sym c.get.ensures ∙ c.in-Some.is))

pub returns-in-Some-clause-same_owner : goal.returns-in-Some-clause-same_owner
returns-in-Some-clause-same_owner c =
    let r = rw (← c.self.view_is) at c.requires in
    rw (← c.self.view_is, c.get-in-Some.ensures) (next_owned _ _ c.self.invariant _ _ _ r c.index.ensures (sym c.get.ensures ∙ c.in-Some.is))
