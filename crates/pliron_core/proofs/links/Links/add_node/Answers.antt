use Rattle.std.proofs.Common.{◌<◌, length, refl, arith}
use Rattle.std.proofs.lemmas.List.{length-map}
use Rattle.pliron_core.specs.Keys.{key_limit}
use Rattle.pliron_core.proofs.OpLemmas.{node_added, view_of}
use Rattle.pliron_core.proofs.links.Links.add_node.Goals as goal

pub invariant_of-self : goal.invariant_of-self
invariant_of-self c =
    let r = rw (← c.self.view_is) at c.requires in
    let room : length c.self.inside.nodes.items < key_limit = omega (arith, r.few, length-map c.self.inside.nodes.items (λ n. n.owner)) in
    rw (c.push_reserved.ensures.items, c.none.ensures, c.none-2.ensures, c.none-3.ensures) (node_added _ _ room c.self.invariant).sound

pub returns-clause-added : goal.returns-clause-added
returns-clause-added c =
    let r = rw (← c.self.view_is) at c.requires in
    let room : length c.self.inside.nodes.items < key_limit = omega (arith, r.few, length-map c.self.inside.nodes.items (λ n. n.owner)) in
    let done = node_added _ _ room c.self.invariant in
    rw (c.push_reserved.ensures.items, c.none.ensures, c.none-2.ensures, c.none-3.ensures, ← c.self.view_is) (view_of done.lists_is done.owners_is (omega (arith, c.push_reserved.ensures.len, c.push_reserved.ensures.capacity)) refl)
