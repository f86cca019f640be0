use Rattle.std.proofs.Common.{sym, ◌∙◌, refl, Contains, true≢false}
use Rattle.std.specs.List.{All}
use Rattle.pliron_graph_components.specs.Internal.Picking.{IsListedFrom}
use Rattle.pliron_graph_components.proofs.PreSentinelLemmas.{all_more, all_at, all_end}
use Rattle.pliron_graph_components.proofs.pre_sentinels.is_sink.Goals as goal

pub stays_inside-requires-clause-member : goal.stays_inside-requires-clause-member
stays_inside-requires-clause-member g c =
    let graph = g.G.ControlFlowGraph.graph c.args.graph.now c.args.ctx.now in
    all_at (λ v. Contains graph.nodes v) c.args.members.now c.loop-node.node-index c.node-item.result c.loop-node-test.true c.node-item.is c.requires.nodes

pub returns-then-not-stays_inside : goal.returns-then-not-stays_inside
returns-then-not-stays_inside g c =
    let graph = g.G.ControlFlowGraph.graph c.args.graph.now c.args.ctx.now in (
      λ e. absurd (true≢false (sym e)),
      λ h. absurd (true≢false (sym (c.stays_inside.ensures.1
          (all_at (λ u. All (IsListedFrom g.G.Node.PartialEq.eq (g.S.ListedSet.listed c.args.held.now) c.args.first) (graph.succ u)) c.args.members.now c.loop-node.node-index c.node-item.result c.loop-node-test.true c.node-item.is h)) ∙ c.if-not-stays_inside.true)),
    )

pub loop-node-preserved : goal.loop-node-preserved
loop-node-preserved g c =
    let graph = g.G.ControlFlowGraph.graph c.args.graph.now c.args.ctx.now in
    all_more (λ u. All (IsListedFrom g.G.Node.PartialEq.eq (g.S.ListedSet.listed c.args.held.now) c.args.first) (graph.succ u)) c.args.members.now c.loop-node.node-index c.node-item.result c.loop-node-test.true c.node-item.is c.loop-node.invariant
    (c.stays_inside.ensures.0 c.if-not-stays_inside.false)

pub returns : goal.returns
returns g c =
    let graph = g.G.ControlFlowGraph.graph c.args.graph.now c.args.ctx.now in (
      λ _. all_end (λ u. All (IsListedFrom g.G.Node.PartialEq.eq (g.S.ListedSet.listed c.args.held.now) c.args.first) (graph.succ u)) c.args.members.now c.loop-node.node-index c.loop-node-test.false c.loop-node.invariant,
      λ _. refl,
    )
