use Rattle.std.proofs.Common.{◌≡◌, ◌+◌, ◌∷◌, ◌++◌, [], map, take, ◌∙◌, ap}
use Rattle.std.proofs.lemmas.List.{map_push}
use Rattle.pliron_graph_components.specs.declared.reverse_node.ReverseNode.TheVariants.{Real}
use Rattle.pliron_graph_traversal.proofs.UnwindingLemmas.{take_next}
use Rattle.pliron_graph_components.proofs.reverse_graph.predecessor_list.Goals as goal

pub loop-i-preserved : goal.loop-i-preserved
loop-i-preserved g c =
    let succ = (g.G.ControlFlowGraph.graph c.args.graph.now c.args.ctx.now).succ c.args.node.now in
    let more : map Real (take (c.loop-i.i + 1) ((g.G.ControlFlowGraph.graph c.args.graph.now c.args.ctx.now).succ c.args.node.now))
    ≡ map Real (take c.loop-i.i ((g.G.ControlFlowGraph.graph c.args.graph.now c.args.ctx.now).succ c.args.node.now)) ++ Real c.get_successor.result ∷ [] =
    ap (map Real) (take_next succ c.loop-i.i c.get_successor.result c.get_successor.ensures) ∙ map_push Real (take c.loop-i.i succ) c.get_successor.result in
    rw (more, ← c.loop-i.invariant) c.in_ok-push.ensures.items
