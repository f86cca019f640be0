use Rattle.std.proofs.Common.{refl, sym, arith, rules}
use Rattle.pliron_core.proofs.OpLemmas.{view_of, removed, InRange-links, InRange-longer}
use Rattle.pliron_core.proofs.StepLemmas.{length-with_next}
use Rattle.pliron_core.proofs.links.Links.remove.Goals as goal

pub index-requires-2 : goal.index-requires-2
index-requires-2 c = let r = rw (← c.self.view_is) at c.requires.held in let h = InRange-links _ _ c.self.invariant _ _ _ r c.index.ensures in search (rules, h.2)

pub link_next-requires : goal.link_next-requires
link_next-requires c = let r = rw (← c.self.view_is) at c.requires.held in (InRange-links _ _ c.self.invariant _ _ _ r c.index.ensures).0

pub link_prev-requires : goal.link_prev-requires
link_prev-requires c =
    let r = rw (← c.self.view_is) at c.requires.held in
    rw c.link_next.ensures.nodes (InRange-longer _ _ _ (sym (length-with_next _ _ _)) (InRange-links _ _ c.self.invariant _ _ _ r c.index.ensures).1)

pub index_mut-requires : goal.index_mut-requires
index_mut-requires c = let r = rw (← c.self.view_is) at c.requires.held in let h = InRange-links _ _ c.self.invariant _ _ _ r c.index.ensures in search (rules, h.2)

pub invariant_of-self : goal.invariant_of-self
invariant_of-self c =
    let r = rw (← c.self.view_is) at c.requires.held in
    rw (c.none.ensures, c.none-2.ensures, c.none-3.ensures) (removed _ _ c.self.invariant _ _ _ _ _ _ _ _ r c.index.ensures c.index-2.ensures c.link_next.ensures.nodes c.link_next.ensures.ends c.link_prev.ensures.nodes c.link_prev.ensures.ends).sound

pub returns : goal.returns
returns c =
    let r = rw (← c.self.view_is) at c.requires.held in
    let done = removed _ _ c.self.invariant _ _ _ _ _ _ _ _ r c.index.ensures c.index-2.ensures c.link_next.ensures.nodes c.link_next.ensures.ends c.link_prev.ensures.nodes c.link_prev.ensures.ends in
    rw (c.none.ensures, c.none-2.ensures, c.none-3.ensures, ← c.self.view_is) (view_of done.lists_is done.owners_is (omega (arith, c.link_next.ensures.len, c.link_next.ensures.capacity, c.link_prev.ensures.len, c.link_prev.ensures.capacity)) refl)
