use Rattle.std.proofs.Common.{◌≡◌, false, refl, sym, subst}
use Rattle.std.specs.List.{list_any}
use Rattle.pliron_graph_traversal.proofs.InsertLemmas.{goes_last}
use Rattle.pliron_graph_traversal.proofs.PlaceLemmas.{unlisted_before}
use Rattle.pliron_graph_traversal.proofs.WalkLemmas.{next_take}
use Rattle.pliron_graph_components.proofs.pre_sentinels.listed_set.Goals as goal

pub loop-node-preserved : goal.loop-node-preserved
loop-node-preserved g c =
    let eq = g.N.PartialEq.eq in
    let nodes = c.args.nodes.now in
    let set = g.S.ListedSet.listed c.loop-node.set in
    let unlisted : list_any (g.N.PartialEq.eq c.node-item.result) (g.S.ListedSet.listed c.loop-node.set) ≡ false =
    subst (λ x. list_any (g.N.PartialEq.eq c.node-item.result) x ≡ false) (sym c.loop-node.invariant) (unlisted_before eq g.met.N.Eq.laws nodes c.loop-node.node-index c.node-item.result c.requires c.loop-node-test.true c.node-item.is) in
    let keys = goes_last eq set (g.S.ListedSet.listed c.insert.new.self) c.node-item.result unlisted c.in_ok-insert.ensures.keys in
    rw (next_take nodes nodes c.loop-node.node-index c.node-item.result refl c.loop-node-test.true c.node-item.is, ← c.loop-node.invariant) keys
