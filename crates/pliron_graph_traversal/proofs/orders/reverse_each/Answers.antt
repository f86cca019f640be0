use Rattle.std.proofs.Common.{◌<◌, length, arith}
use Rattle.pliron_graph_traversal.proofs.WalkLemmas.{reversed_more}
use Rattle.pliron_graph_traversal.proofs.orders.reverse_each.Goals as goal

pub loop-list-preserved : goal.loop-list-preserved
loop-list-preserved g c =
    let within : c.loop-list.list-index < length c.args.lists.now = omega arith in
    reversed_more (λ w. w.items) c.args.lists.now c.loop-list.list-items c.loop-list.list-index c.reverse.new.self c.list-item.result within c.loop-list.auto.list-items c.reverse.ensures.items c.loop-list.invariant
