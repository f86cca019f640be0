use Rattle.std.proofs.Common.{refl, arith}
use Rattle.pliron_core.proofs.OpLemmas.{view_of, pushed_front}
use Rattle.pliron_core.proofs.links.Links.push_front.Goals as goal

pub invariant_of-self : goal.invariant_of-self
invariant_of-self c =
    let r = rw (← c.self.view_is) at c.requires in
    let nodes = rw (c.some.ensures, c.none.ensures, c.none-2.ensures) at c.link_next.ensures.nodes in
    let behind = rw c.some-added.ensures at c.link_prev.ensures.nodes in
    let headed = rw (c.none-2.ensures, c.some-added.ensures) at c.link_next.ensures.ends in
    let ended = rw c.some-added.ensures at c.link_prev.ensures.ends in
    (pushed_front _ _ c.self.invariant _ _ _ _ _ _ _ r.list r.node r.free c.index.ensures nodes behind headed ended).sound

pub returns : goal.returns
returns c =
    let r = rw (← c.self.view_is) at c.requires in
    let nodes = rw (c.some.ensures, c.none.ensures, c.none-2.ensures) at c.link_next.ensures.nodes in
    let behind = rw c.some-added.ensures at c.link_prev.ensures.nodes in
    let headed = rw (c.none-2.ensures, c.some-added.ensures) at c.link_next.ensures.ends in
    let ended = rw c.some-added.ensures at c.link_prev.ensures.ends in
    let done = pushed_front _ _ c.self.invariant _ _ _ _ _ _ _ r.list r.node r.free c.index.ensures nodes behind headed ended in
    rw (← c.self.view_is) (view_of done.lists_is done.owners_is (omega (arith, c.link_next.ensures.len, c.link_next.ensures.capacity, c.link_prev.ensures.len, c.link_prev.ensures.capacity)) refl)
