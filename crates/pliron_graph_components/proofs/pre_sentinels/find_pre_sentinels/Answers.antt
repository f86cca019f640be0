use Rattle.std.proofs.Common.{◌≡◌, ◌∙◌, ap, sym, length, map, subst, slice_get, Some}
use Rattle.std.proofs.lemmas.Result.{IfOk-weaker}
use Rattle.pliron_graph_components.specs.Reverse.{ArePreSentinels}
use Rattle.pliron_graph_components.proofs.SinkLemmas.{found_are, starts_distinct, starts_low, starts_named}
use Rattle.pliron_graph_components.proofs.pre_sentinels.find_pre_sentinels.Goals as goal

pub index_nodes-requires : goal.index_nodes-requires
index_nodes-requires g c =
    let eq = g.G.Node.PartialEq.eq in
    let graph = g.G.ControlFlowGraph.graph c.args.graph.now c.args.ctx.now in
    let lawful = g.met.G.ControlFlowGraph.laws c.args.graph.now c.args.ctx.now c.requires in
    let starts = c.in_ok-sinks.sinks.items in
    rw c.deref.ensures.value (starts_distinct eq lawful.same g.met.G.Node.Eq.laws.refl graph starts (found_are eq graph starts c.in_ok-sinks.ensures.found))

pub nodes_by_number-requires : goal.nodes_by_number-requires
nodes_by_number-requires g c =
    let graph = g.G.ControlFlowGraph.graph c.args.graph.now c.args.ctx.now in
    let lawful = g.met.G.ControlFlowGraph.laws c.args.graph.now c.args.ctx.now c.requires in
    rw c.deref-3.ensures.value (starts_low g.G.Node.PartialEq.eq g.met.G.Node.Eq.laws graph c.in-Some.lists.now lawful c.in-Some.ensures c.in_ok-last.last.items c.in_ok-last.ensures.found
    (length c.deref-2.result.now) (ap length (c.deref-2.ensures.value ∙ c.in_ok-nodes.ensures.list)))

pub index_nodes-requires-2 : goal.index_nodes-requires-2
index_nodes-requires-2 g c =
    let eq = g.G.Node.PartialEq.eq in
    let graph = g.G.ControlFlowGraph.graph c.args.graph.now c.args.ctx.now in
    let lawful = g.met.G.ControlFlowGraph.laws c.args.graph.now c.args.ctx.now c.requires in
    let starts = c.in_ok-last.last.items in
    let found = c.in_ok-found.found.items in
    let nodes = c.deref-2.ensures.value ∙ c.in_ok-nodes.ensures.list in
    let named = subst (λ ns. map Some found ≡ map (λ k. slice_get ns k) starts) nodes (subst (λ ks. map Some found ≡ map (λ k. slice_get c.deref-2.result.now k) ks) c.deref-3.ensures.value c.in_ok-found.ensures.named) in
    rw c.deref-4.ensures.value (starts_distinct eq lawful.same g.met.G.Node.Eq.laws.refl graph found
    (starts_named eq g.met.G.Node.Eq.laws graph c.in-Some.lists.now lawful c.in-Some.ensures starts c.in_ok-last.ensures.found found named))

pub returns-clause-found : goal.returns-clause-found
returns-clause-found g c =
    let eq = g.G.Node.PartialEq.eq in
    let graph = g.G.ControlFlowGraph.graph c.args.graph.now c.args.ctx.now in
    let lawful = g.met.G.ControlFlowGraph.laws c.args.graph.now c.args.ctx.now c.requires in
    let starts = c.in_ok-last.last.items in
    let found = c.in_ok-found.found.items in
    let nodes = c.deref-2.ensures.value ∙ c.in_ok-nodes.ensures.list in
    let named = subst (λ ns. map Some found ≡ map (λ k. slice_get ns k) starts) nodes (subst (λ ks. map Some found ≡ map (λ k. slice_get c.deref-2.result.now k) ks) c.deref-3.ensures.value c.in_ok-found.ensures.named) in
    IfOk-weaker c.index_nodes-2.result (λ r. r.keys ≡ c.deref-4.result.now) (λ r. ArePreSentinels eq graph r.keys)
    (λ r h. subst (ArePreSentinels eq graph) (sym (h ∙ c.deref-4.ensures.value))
    (starts_named eq g.met.G.Node.Eq.laws graph c.in-Some.lists.now lawful c.in-Some.ensures starts c.in_ok-last.ensures.found found named))
    c.index_nodes-2.ensures.keys
