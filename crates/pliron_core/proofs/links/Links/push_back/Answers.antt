use Rattle.std.proofs.Common.{refl, sym, arith}
use Rattle.std.proofs.lemmas.List.{length-set}
use Rattle.pliron_core.proofs.OpLemmas.{view_of, pushed, InRange-tail, InRange-longer}
use Rattle.pliron_core.proofs.links.Links.push_back.Goals as goal

pub link_next-requires : goal.link_next-requires
link_next-requires c =
    let r = rw (← c.self.view_is) at c.requires.list in
    InRange-longer _ _ _ (sym (length-set _ _ _)) (InRange-tail _ _ c.self.invariant _ _ r c.index.ensures)

pub invariant_of-self : goal.invariant_of-self
invariant_of-self c =
    let r = rw (← c.self.view_is) at c.requires in
    let nodes = rw (c.some.ensures, c.none.ensures, c.some-added.ensures) at c.link_next.ensures.nodes in
    let behind = rw c.none-2.ensures at c.link_prev.ensures.nodes in
    let headed = rw c.some-added.ensures at c.link_next.ensures.ends in
    let ended = rw (c.none-2.ensures, c.some-added.ensures) at c.link_prev.ensures.ends in
    (pushed _ _ c.self.invariant _ _ _ _ _ _ _ r.list r.node r.free c.index.ensures nodes behind headed ended).sound

pub returns : goal.returns
returns c =
    let r = rw (← c.self.view_is) at c.requires in
    let nodes = rw (c.some.ensures, c.none.ensures, c.some-added.ensures) at c.link_next.ensures.nodes in
    let behind = rw c.none-2.ensures at c.link_prev.ensures.nodes in
    let headed = rw c.some-added.ensures at c.link_next.ensures.ends in
    let ended = rw (c.none-2.ensures, c.some-added.ensures) at c.link_prev.ensures.ends in
    let done = pushed _ _ c.self.invariant _ _ _ _ _ _ _ r.list r.node r.free c.index.ensures nodes behind headed ended in
    rw (← c.self.view_is) (view_of done.lists_is done.owners_is (omega (arith, c.link_next.ensures.len, c.link_next.ensures.capacity, c.link_prev.ensures.len, c.link_prev.ensures.capacity)) refl)
