use Rattle.std.proofs.Common.{◌≡◌, ◌∙◌, sym, ap, length, subst}
use Rattle.std.proofs.lemmas.Result.{IfOk-weaker}
use Rattle.pliron_graph_order.specs.Numbering.{tables_of}
use Rattle.pliron_graph_order.specs.Preorder.{AreAtPlaces, HaveIndices, ListsInPlace}
use Rattle.pliron_graph_dominance.specs.TreeIntervals.{GivesAbove, AreIntervals}
use Rattle.pliron_graph_order.proofs.PreorderLemmas.{have_places, order_made, distinct_keys}
use Rattle.pliron_graph_order.proofs.preorder.in_preorder.Goals as goal

pub list_by_place-requires-clause-placed : goal.list_by_place-requires-clause-placed
list_by_place-requires-clause-placed c =
    let n = tables_of c.args.numbering.now in
    let p = c.in_ok-places.places in
    let gives : GivesAbove n.parents p = rw (sym c.deref.ensures.value) c.in_ok-places.ensures.gives in
    let intervals : AreIntervals n.parents p = rw (sym c.deref.ensures.value) c.in_ok-places.ensures.intervals in
    let at : AreAtPlaces (length n.parents) p.places c.in_ok-numbers.numbers.items = rw (sym c.deref-2.ensures.value) c.in_ok-numbers.ensures.numbers in
    rw c.deref-3.ensures.value (have_places c.args.ctx.now.tree n c.requires.numbered c.requires.all (distinct_keys n.ops c.as_slice.ensures.unique) p gives intervals c.in_ok-numbers.numbers.items at)

pub returns-clause-order : goal.returns-clause-order
returns-clause-order c =
    let n = tables_of c.args.numbering.now in
    let p = c.in_ok-places.places in
    let gives : GivesAbove n.parents p = rw (sym c.deref.ensures.value) c.in_ok-places.ensures.gives in
    let intervals : AreIntervals n.parents p = rw (sym c.deref.ensures.value) c.in_ok-places.ensures.intervals in
    let at : AreAtPlaces (length n.parents) p.places c.in_ok-numbers.numbers.items = rw (sym c.deref-2.ensures.value) c.in_ok-numbers.ensures.numbers in
    IfOk-weaker c.list_by_place.result _ _
    (λ o lists. order_made c.args.ctx.now.tree n c.requires.numbered c.requires.all (distinct_keys n.ops c.as_slice.ensures.unique) p gives intervals c.in_ok-numbers.numbers.items at o.operations.items o.ends.items
    (rw (sym c.deref-3.ensures.value, sym c.as_slice.ensures.keys) lists))
    c.list_by_place.ensures.listed
