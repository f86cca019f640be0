use Rattle.std.proofs.Common.{◌≡◌, length, ap, subst, sym, ◌∙◌}
use Rattle.std.proofs.lemmas.Result.{IfOk-weaker}
use Rattle.pliron_graph_components.specs.Components.{AreComponents}
use Rattle.pliron_graph_components.specs.Internal.Named.{AreNamed, AreNamedComponents}
use Rattle.pliron_graph_components.proofs.NamedLemmas.{components_named}
use Rattle.pliron_graph_components.proofs.components.sccs_in_topological_order.Goals as goal

pub take_named_components-requires-clause-counted : goal.take_named_components-requires-clause-counted
take_named_components-requires-clause-counted g c = ap length (c.deref.ensures.value ∙ c.in_ok-nodes.ensures.list) ∙ sym c.in-Some.ensures.same_count

pub returns-clause-components : goal.returns-clause-components
returns-clause-components g c =
    let eq = g.G.Node.PartialEq.eq in
    let graph = g.G.ControlFlowGraph.graph c.args.graph.now c.args.ctx.now in
    let lawful = g.met.G.ControlFlowGraph.laws c.args.graph.now c.args.ctx.now c.requires in
    let nodes : c.deref.result.now ≡ graph.nodes = c.deref.ensures.value ∙ c.in_ok-nodes.ensures.list in
    IfOk-weaker c.take_named_components.result (λ r. AreNamedComponents c.in-Some.lists.now c.deref.result.now r.items) (λ r. AreComponents eq graph r.items)
    (λ r h. components_named eq g.met.G.Node.Eq.laws graph c.in-Some.lists.now lawful c.in-Some.ensures h.numbered r.items h.found (subst (λ ns. AreNamed ns h.numbered r.items) nodes h.named))
    c.take_named_components.ensures.named
