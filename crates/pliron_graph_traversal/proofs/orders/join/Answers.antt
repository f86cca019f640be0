use Rattle.std.proofs.Common.{◌≡◌, ◌<◌, ◌++◌, length, ap, arith, refl, ◌∙◌}
use Rattle.std.proofs.lemmas.List.{map_push}
use Rattle.pliron_graph_traversal.proofs.WalkLemmas.{next_take, joined_push}
use Rattle.pliron_graph_traversal.proofs.orders.join.Goals as goal

pub loop-list-preserved : goal.loop-list-preserved
loop-list-preserved g c =
    let lists = c.args.lists.now in
    let within : c.loop-list.list-index < length c.args.lists.now = omega arith in
    let added : c.extend_from_slice.new.self.items ≡ c.loop-list.all.items ++ c.list-item.result.items =
    c.in_ok-extend_from_slice.ensures.items ∙ ap (λ x. c.loop-list.all.items ++ x) c.deref.ensures.value in
    rw (next_take lists lists c.loop-list.list-index c.list-item.result refl within c.list-item.is, map_push, joined_push)
    (added ∙ ap (λ x. x ++ c.list-item.result.items) c.loop-list.invariant)
