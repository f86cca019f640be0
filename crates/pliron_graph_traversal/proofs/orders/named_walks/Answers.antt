use Rattle.std.proofs.Common.{◌≡◌, ◌<◌, Some, length, map, slice_get, take, refl, subst, arith}
use Rattle.pliron_graph_traversal.proofs.NumberedLemmas.{lists_named_more}
use Rattle.pliron_graph_traversal.proofs.WalkLemmas.{next_take}
use Rattle.pliron_graph_traversal.proofs.orders.named_walks.Goals as goal

pub loop-walk-preserved : goal.loop-walk-preserved
loop-walk-preserved g c =
    let nodes = c.args.nodes.now in
    let walks = c.args.walks.now in
    let i = c.loop-walk.walk-index in
    let within : c.loop-walk.walk-index < length c.args.walks.now = omega arith in
    let items : map Some c.in_ok-nodes_by_number.field-0.items ≡ map (λ k. slice_get c.args.nodes.now k) c.walk-item.result.items =
    subst (λ ks. map Some c.in_ok-nodes_by_number.field-0.items ≡ map (λ k. slice_get c.args.nodes.now k) ks) c.deref.ensures.value c.in_ok-nodes_by_number.ensures.named in
    rw (c.in_ok-push.ensures.items, next_take walks walks i c.walk-item.result refl within c.walk-item.is)
    (lists_named_more (λ w. w.items) (λ w. w.items) nodes c.loop-walk.all.items (take i walks) c.in_ok-nodes_by_number.field-0 c.walk-item.result c.loop-walk.invariant items)
