use Rattle.std.proofs.Common.{◌≡◌, Some, sym, ◌∙◌, ap, subst, true≢false}
use Rattle.pliron_graph_components.specs.Internal.Picking.{IsListedFrom}
use Rattle.pliron_graph_components.specs.Reverse.{IsLastListed}
use Rattle.pliron_graph_components.proofs.StayLemmas.{sink_by_test, last_in_graph}
use Rattle.pliron_graph_components.proofs.PreSentinelLemmas.{last_once}
use Rattle.pliron_graph_components.proofs.pre_sentinels.last_of_sink.Goals as goal

pub returns-then-not-is_sink : goal.returns-then-not-is_sink
returns-then-not-is_sink g c =
    let eq = g.G.Node.PartialEq.eq in
    let graph = g.G.ControlFlowGraph.graph c.args.graph.now c.args.ctx.now in
    let lawful = g.met.G.ControlFlowGraph.laws c.args.graph.now c.args.ctx.now c.requires.lawful in
    let sink = sink_by_test eq graph lawful (IsListedFrom g.G.Node.PartialEq.eq (g.S.ListedSet.listed c.args.held.now) c.args.first) c.args.members.now c.requires.nodes c.requires.stand in
    λ v. ((λ e. absurd (cc e)), (λ h. absurd (true≢false (sym (c.is_sink.ensures.1 (sink.1 h.0)) ∙ c.if-not-is_sink.true))))

pub returns : goal.returns
returns g c =
    let eq = g.G.Node.PartialEq.eq in
    let graph = g.G.ControlFlowGraph.graph c.args.graph.now c.args.ctx.now in
    let lawful = g.met.G.ControlFlowGraph.laws c.args.graph.now c.args.ctx.now c.requires.lawful in
    let members = c.args.members.now in
    let last = c.last_listed.result in
    let sink = (sink_by_test eq graph lawful (IsListedFrom g.G.Node.PartialEq.eq (g.S.ListedSet.listed c.args.held.now) c.args.first) members c.requires.nodes c.requires.stand).0 (c.is_sink.ensures.0 c.if-not-is_sink.false) in
    let is_last : IsLastListed g.G.Node.PartialEq.eq (g.G.ControlFlowGraph.graph c.args.graph.now c.args.ctx.now) c.args.members.now c.last_listed.result =
    last_in_graph eq graph lawful (g.S.ListedSet.listed c.args.places.now) c.requires.places members last c.last_listed.ensures.among c.last_listed.ensures.last in
    λ v. (
      (λ e. let one : c.last_listed.result ≡ v = cc e in (sink, subst (IsLastListed eq graph members) one is_last)),
      (λ h. ap Some (last_once eq lawful.same g.met.G.Node.Eq.laws.refl graph members last v c.requires.nodes is_last h.1)),
    )
