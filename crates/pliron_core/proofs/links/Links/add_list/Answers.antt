use Rattle.std.proofs.Common.{◌<◌, length, refl, arith}
use Rattle.pliron_core.specs.Keys.{key_limit}
use Rattle.pliron_core.proofs.OpLemmas.{list_added, view_of}
use Rattle.pliron_core.proofs.links.Links.add_list.Goals as goal

pub invariant_of-self : goal.invariant_of-self
invariant_of-self c =
    let r = rw (← c.self.view_is) at c.requires in
    let room : length c.self.inside.ends.items < key_limit = omega (arith, r.few, c.self.invariant.count) in
    rw (c.push_reserved.ensures.items, c.none.ensures, c.none-2.ensures) (list_added _ _ room c.self.invariant).sound

pub returns-clause-added : goal.returns-clause-added
returns-clause-added c =
    let r = rw (← c.self.view_is) at c.requires in
    let room : length c.self.inside.ends.items < key_limit = omega (arith, r.few, c.self.invariant.count) in
    let done = list_added _ _ room c.self.invariant in
    rw (c.push_reserved.ensures.items, c.none.ensures, c.none-2.ensures, ← c.self.view_is) (view_of done.lists_is done.owners_is refl (omega (arith, c.push_reserved.ensures.len, c.push_reserved.ensures.capacity)))
