use Rattle.std.proofs.Common.{sym, refl, arith, ◌∙◌, true≢false}
use Rattle.std.proofs.lemmas.Option.{slice_get_within, get_or_from_slice_get}
use Rattle.pliron_graph_components.specs.Internal.Picking.{IsListedFrom}
use Rattle.pliron_graph_components.proofs.PreSentinelLemmas.{all_more, all_at, all_end}
use Rattle.pliron_graph_components.proofs.pre_sentinels.stays_inside.Goals as goal

pub returns-then-not-is_listed_from : goal.returns-then-not-is_listed_from
returns-then-not-is_listed_from g c =
    let succ = (g.G.ControlFlowGraph.graph c.args.graph.now c.args.ctx.now).succ c.args.node.now in
    let within = slice_get_within succ c.loop-i.i c.get_successor.result c.get_successor.ensures in
    let item = sym (get_or_from_slice_get succ c.loop-i.i c.get_successor.result c.get_successor.result c.get_successor.ensures) in (
      λ e. absurd (true≢false (sym e)),
      λ h. absurd (true≢false (sym (c.is_listed_from.ensures.1 (all_at (IsListedFrom g.G.Node.PartialEq.eq (g.S.ListedSet.listed c.args.held.now) c.args.first) succ c.loop-i.i c.get_successor.result within item h)) ∙ c.if-not-is_listed_from.true)),
    )

pub loop-i-preserved : goal.loop-i-preserved
loop-i-preserved g c =
    let succ = (g.G.ControlFlowGraph.graph c.args.graph.now c.args.ctx.now).succ c.args.node.now in
    let within = slice_get_within succ c.loop-i.i c.get_successor.result c.get_successor.ensures in
    let item = sym (get_or_from_slice_get succ c.loop-i.i c.get_successor.result c.get_successor.result c.get_successor.ensures) in
    all_more (IsListedFrom g.G.Node.PartialEq.eq (g.S.ListedSet.listed c.args.held.now) c.args.first) succ c.loop-i.i c.get_successor.result within item c.loop-i.invariant (c.is_listed_from.ensures.0 c.if-not-is_listed_from.false)

pub returns : goal.returns
returns g c =
    let succ = (g.G.ControlFlowGraph.graph c.args.graph.now c.args.ctx.now).succ c.args.node.now in (
      λ _. all_end (IsListedFrom g.G.Node.PartialEq.eq (g.S.ListedSet.listed c.args.held.now) c.args.first) succ c.loop-i.i (omega (arith, c.loop-i-test.false, c.num_successors-i-end.ensures)) c.loop-i.invariant,
      λ _. refl,
    )
