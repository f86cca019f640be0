use Rattle.std.proofs.Common.{refl, sym, arith, rules}
use Rattle.std.proofs.lemmas.List.{length-set}
use Rattle.pliron_core.proofs.OpLemmas.{view_of, inserted, InRange-links, InRange-longer}
use Rattle.pliron_core.proofs.links.Links.insert_before.Goals as goal

pub index-requires-2 : goal.index-requires-2
index-requires-2 c = let r = rw (← c.self.view_is) at c.requires.held in let h = InRange-links _ _ c.self.invariant _ _ _ r c.index.ensures in search (rules, h.2)

pub some-requires : goal.some-requires
some-requires c = let r = rw (← c.self.view_is) at c.requires.held in let h = InRange-links _ _ c.self.invariant _ _ _ r c.index.ensures in omega (arith, h.2, c.self.invariant.few)

pub link_next-requires : goal.link_next-requires
link_next-requires c = let r = rw (← c.self.view_is) at c.requires.held in InRange-longer _ _ _ (sym (length-set _ _ _)) (InRange-links _ _ c.self.invariant _ _ _ r c.index.ensures).0

pub index_mut-requires-2 : goal.index_mut-requires-2
index_mut-requires-2 c = let r = rw (← c.self.view_is) at c.requires.held in let h = InRange-links _ _ c.self.invariant _ _ _ r c.index.ensures in search (rules, h.2)

pub invariant_of-self : goal.invariant_of-self
invariant_of-self c =
    let r = rw (← c.self.view_is) at c.requires in
    let nodes = rw (c.some.ensures, c.some-2.ensures, c.some-added.ensures) at c.link_next.ensures.nodes in
    let behind = rw (c.some-3.ensures, c.some-added.ensures) at c.link_prev.ensures.nodes in
    let headed = rw c.some-added.ensures at c.link_next.ensures.ends in
    let ended = rw c.some-3.ensures at c.link_prev.ensures.ends in
    (inserted _ _ c.self.invariant _ _ _ _ _ _ _ _ _ r.held r.node r.free c.index.ensures c.index-2.ensures nodes behind headed ended).sound

pub returns : goal.returns
returns c =
    let r = rw (← c.self.view_is) at c.requires in
    let nodes = rw (c.some.ensures, c.some-2.ensures, c.some-added.ensures) at c.link_next.ensures.nodes in
    let behind = rw (c.some-3.ensures, c.some-added.ensures) at c.link_prev.ensures.nodes in
    let headed = rw c.some-added.ensures at c.link_next.ensures.ends in
    let ended = rw c.some-3.ensures at c.link_prev.ensures.ends in
    let done = inserted _ _ c.self.invariant _ _ _ _ _ _ _ _ _ r.held r.node r.free c.index.ensures c.index-2.ensures nodes behind headed ended in
    rw (← c.self.view_is) (view_of done.lists_is done.owners_is (omega (arith, c.link_next.ensures.len, c.link_next.ensures.capacity, c.link_prev.ensures.len, c.link_prev.ensures.capacity)) refl)
