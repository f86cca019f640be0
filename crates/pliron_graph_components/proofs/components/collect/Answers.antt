use Rattle.std.proofs.Common.{◌<◌, ◌≤◌, length, arith, rules}
use Rattle.pliron_graph_traversal.proofs.InsertLemmas.{goes_last}
use Rattle.pliron_graph_components.proofs.CollectLemmas.{read_item, collects_root, collects_next, collected, few, item_inside}
use Rattle.pliron_graph_components.proofs.components.collect.Goals as goal

pub loop-next-init : goal.loop-next-init
loop-next-init g c =
    let eq = g.G.Node.PartialEq.eq in
    let graph = g.G.ControlFlowGraph.graph c.args.graph.now c.args.ctx.now in
    let lawful = g.met.G.ControlFlowGraph.laws c.args.graph.now c.args.ctx.now c.requires.lawful in
    let keys = goes_last eq (g.S.ListedSet.listed c.args.held.now) (g.S.ListedSet.listed c.insert.new.self) c.args.root c.requires.unheld c.in_ok-insert.ensures.keys in
    rw c.len-next.ensures.len (collects_root eq g.met.G.Node.Eq.laws lawful.same graph lawful c.args.root (g.S.ListedSet.listed c.args.held.now) (g.S.ListedSet.listed c.insert.new.self) c.requires.member c.requires.unheld keys c.in_ok-insert.ensures.unique)

pub hold_predecessors-requires-clause-member : goal.hold_predecessors-requires-clause-member
hold_predecessors-requires-clause-member g c =
    let eq = g.G.Node.PartialEq.eq in
    let graph = g.G.ControlFlowGraph.graph c.args.graph.now c.args.ctx.now in
    let lawful = g.met.G.ControlFlowGraph.laws c.args.graph.now c.args.ctx.now c.requires.lawful in
    let within : c.loop-next.next < length (g.S.ListedSet.listed c.loop-next.held) = search rules in
    let at = read_item (g.S.ListedSet.listed c.loop-next.held) c.as_slice.result.now c.loop-next.next c.index-as_slice-next.result c.as_slice.ensures.keys within c.index-as_slice-next.is in
    item_inside eq g.met.G.Node.Eq.laws lawful.same graph lawful c.args.root (g.S.ListedSet.listed c.args.held.now) (g.S.ListedSet.listed c.loop-next.held) c.loop-next.next c.loop-next.invariant c.index-as_slice-next.result at

pub loop-next-smaller : goal.loop-next-smaller
loop-next-smaller g c =
    let eq = g.G.Node.PartialEq.eq in
    let graph = g.G.ControlFlowGraph.graph c.args.graph.now c.args.ctx.now in
    let lawful = g.met.G.ControlFlowGraph.laws c.args.graph.now c.args.ctx.now c.requires.lawful in
    let within : c.loop-next.next < length (g.S.ListedSet.listed c.loop-next.held) = search rules in
    omega (arith, within, few eq g.met.G.Node.Eq.laws lawful.same graph lawful c.args.root (g.S.ListedSet.listed c.args.held.now) (g.S.ListedSet.listed c.loop-next.held) c.loop-next.next c.loop-next.invariant)

pub loop-next-preserved : goal.loop-next-preserved
loop-next-preserved g c =
    let eq = g.G.Node.PartialEq.eq in
    let graph = g.G.ControlFlowGraph.graph c.args.graph.now c.args.ctx.now in
    let lawful = g.met.G.ControlFlowGraph.laws c.args.graph.now c.args.ctx.now c.requires.lawful in
    let within : c.loop-next.next < length (g.S.ListedSet.listed c.loop-next.held) = search rules in
    let at = read_item (g.S.ListedSet.listed c.loop-next.held) c.as_slice.result.now c.loop-next.next c.index-as_slice-next.result c.as_slice.ensures.keys within c.index-as_slice-next.is in
    collects_next eq g.met.G.Node.Eq.laws lawful.same graph lawful c.args.root (g.S.ListedSet.listed c.args.held.now) (g.S.ListedSet.listed c.loop-next.held) c.loop-next.next c.loop-next.invariant (g.S.ListedSet.listed c.hold_predecessors.new.held) c.index-as_slice-next.result at c.in_ok-hold_predecessors.ensures.holds

pub returns-clause-collected : goal.returns-clause-collected
returns-clause-collected g c =
    let eq = g.G.Node.PartialEq.eq in
    let graph = g.G.ControlFlowGraph.graph c.args.graph.now c.args.ctx.now in
    let lawful = g.met.G.ControlFlowGraph.laws c.args.graph.now c.args.ctx.now c.requires.lawful in
    let done : length (g.S.ListedSet.listed c.loop-next.held) ≤ c.loop-next.next = search rules in
    collected eq g.met.G.Node.Eq.laws lawful.same graph lawful c.args.root (g.S.ListedSet.listed c.args.held.now) (g.S.ListedSet.listed c.loop-next.held) c.loop-next.next c.loop-next.invariant done
