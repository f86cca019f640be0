use Rattle.std.proofs.Common.{◌≡◌, length, map, ap, subst, sym, ◌∙◌}
use Rattle.std.proofs.lemmas.Result.{IfOk-weaker}
use Rattle.pliron_graph_traversal.specs.Internal.Walked.{AreFoundWalks, AreNamedLists}
use Rattle.pliron_graph_traversal.specs.Walks.{AreWalks}
use Rattle.pliron_graph_traversal.proofs.NumberedLemmas.{all_low, low_walks, walks_named}
use Rattle.pliron_graph_traversal.proofs.WalkLemmas.{are_walks}
use Rattle.pliron_graph_traversal.proofs.orders.post_order_by_component.Goals as goal

pub returns-in_default-clause-walks : goal.returns-in_default-clause-walks
returns-in_default-clause-walks g c =
    let eq = g.G.Node.PartialEq.eq in
    let graph = g.G.ControlFlowGraph.graph c.args.graph.now c.args.ctx.now in
    let lawful = g.met.G.ControlFlowGraph.laws c.args.graph.now c.args.ctx.now c.requires in
    IfOk-weaker c.find_walks.result (λ r. AreFoundWalks eq graph (map (λ w. w.items) r.items)) (λ r. AreWalks eq graph (map (λ w. w.items) r.items))
    (λ r h. are_walks eq graph lawful.same g.met.G.Node.Eq.laws.refl h.0 (map (λ w. w.items) r.items) h.1) c.find_walks.ensures.found

pub named_walks-requires : goal.named_walks-requires
named_walks-requires g c =
    let eq = g.G.Node.PartialEq.eq in
    let graph = g.G.ControlFlowGraph.graph c.args.graph.now c.args.ctx.now in
    let lawful = g.met.G.ControlFlowGraph.laws c.args.graph.now c.args.ctx.now c.requires in
    let lists = c.in-Some.lists.now in
    let count : length c.in-Some.lists.now.succ ≡ length c.deref.result.now = c.in-Some.ensures.same_count ∙ sym (ap length (c.deref.ensures.value ∙ c.in_ok-nodes.ensures.list)) in
    rw c.deref-2.ensures.value (all_low (λ w. w.items) c.in_ok-found.found.items (length c.deref.result.now) (length c.in-Some.lists.now.succ) count
    (low_walks eq g.met.G.Node.Eq.laws graph lists lawful c.in-Some.ensures (map (λ w. w.items) c.in_ok-found.found.items) c.in_ok-found.ensures.found))

pub returns-clause-walks : goal.returns-clause-walks
returns-clause-walks g c =
    let eq = g.G.Node.PartialEq.eq in
    let graph = g.G.ControlFlowGraph.graph c.args.graph.now c.args.ctx.now in
    let lawful = g.met.G.ControlFlowGraph.laws c.args.graph.now c.args.ctx.now c.requires in
    let nodes : c.deref.result.now ≡ graph.nodes = c.deref.ensures.value ∙ c.in_ok-nodes.ensures.list in
    IfOk-weaker c.named_walks.result (λ r. AreNamedLists c.deref.result.now (map (λ w. w.items) c.deref-2.result.now) (map (λ w. w.items) r.items)) (λ r. AreWalks eq graph (map (λ w. w.items) r.items))
    (λ r h.
    let named = subst (λ ns. AreNamedLists ns (map (λ w. w.items) c.in_ok-found.found.items) (map (λ w. w.items) r.items)) nodes (subst (λ ws. AreNamedLists c.deref.result.now (map (λ w. w.items) ws) (map (λ w. w.items) r.items)) c.deref-2.ensures.value h) in
    let found = walks_named eq g.met.G.Node.Eq.laws graph c.in-Some.lists.now lawful c.in-Some.ensures (map (λ w. w.items) c.in_ok-found.found.items) (map (λ w. w.items) r.items) c.in_ok-found.ensures.found named in
    are_walks eq graph lawful.same g.met.G.Node.Eq.laws.refl found.0 (map (λ w. w.items) r.items) found.1)
    c.named_walks.ensures.named
