use Rattle.std.proofs.Common.{◌≡◌, ◌<◌, length, sym, false, refl, arith, subst}
use Rattle.std.specs.List.{list_any}
use Rattle.pliron_graph_traversal.proofs.InsertLemmas.{goes_last}
use Rattle.pliron_graph_traversal.proofs.PlaceLemmas.{unlisted_before}
use Rattle.pliron_graph_traversal.proofs.WalkLemmas.{next_take}
use Rattle.pliron_graph_traversal.proofs.traversal.index_nodes.Goals as goal

pub loop-node-preserved : goal.loop-node-preserved
loop-node-preserved g c =
    let eq = g.N.PartialEq.eq in
    let order = c.args.order.now in
    let within : c.loop-node.node-index < length c.args.order.now = omega arith in
    let unlisted : list_any (g.N.PartialEq.eq c.node-item.result) c.loop-node.places.keys ≡ false =
    subst (λ x. list_any (g.N.PartialEq.eq c.node-item.result) x ≡ false) (sym c.loop-node.invariant) (unlisted_before eq g.met.N.Eq.laws order c.loop-node.node-index c.node-item.result c.requires within c.node-item.is) in
    let keys = goes_last eq c.loop-node.places.keys c.insert.new.self.keys c.node-item.result unlisted c.in_ok-insert.ensures.keys in
    rw (next_take order order c.loop-node.node-index c.node-item.result refl within c.node-item.is, ← c.loop-node.invariant) keys
