use Rattle.std.proofs.Common.{◌≤◌, length, arith}
use Rattle.pliron_graph_traversal.proofs.search.step.Goals as goal
use Rattle.pliron_graph_traversal.proofs.UnwindingLemmas.{step_visited, step_skipped, step_left}
use Rattle.pliron_graph_traversal.proofs.InsertLemmas.{was_new, was_there}

pub returns-in_ok-push-2-clause-step : goal.returns-in_ok-push-2-clause-step
returns-in_ok-push-2-clause-step g c =
    let graph = g.G.ControlFlowGraph.graph c.args.graph.now c.args.ctx.now in
    let lawful = g.met.G.ControlFlowGraph.laws c.args.graph.now c.args.ctx.now c.requires.lawful in
    let new = was_new g.G.Node.PartialEq.eq (g.S.ListedSet.listed c.args.seen.now) (g.S.ListedSet.listed c.insert.new.self) c.get_successor-next.result _ c.in_ok-insert.ensures.added c.in_ok-insert.ensures.keys c.if-branch.true in
    rw (c.in_ok-push-2.ensures.items, c.in_ok-push.ensures.items, new.1)
    (step_visited g.G.Node.PartialEq.eq graph g.met.G.Node.Eq.laws.refl lawful.succ_in c.args.stack.now.items c.args.top.0 c.get_successor-next.result c.args.top.1 (g.S.ListedSet.listed c.args.seen.now) c.args.post.now.items c.requires.member c.get_successor-next.ensures new.0)

pub returns-else-branch-clause-step : goal.returns-else-branch-clause-step
returns-else-branch-clause-step g c =
    let graph = g.G.ControlFlowGraph.graph c.args.graph.now c.args.ctx.now in
    let lawful = g.met.G.ControlFlowGraph.laws c.args.graph.now c.args.ctx.now c.requires.lawful in
    let old = was_there g.G.Node.PartialEq.eq (g.S.ListedSet.listed c.args.seen.now) (g.S.ListedSet.listed c.insert.new.self) c.get_successor-next.result _ c.in_ok-insert.ensures.added c.in_ok-insert.ensures.keys c.if-branch.false in
    rw (c.in_ok-push.ensures.items, old.1)
    (step_skipped g.G.Node.PartialEq.eq graph g.met.G.Node.Eq.laws.refl lawful.succ_in c.args.stack.now.items c.args.top.0 c.get_successor-next.result c.args.top.1 (g.S.ListedSet.listed c.args.seen.now) c.args.post.now.items c.get_successor-next.ensures old.0)

pub returns-in_ok-push-3-clause-step : goal.returns-in_ok-push-3-clause-step
returns-in_ok-push-3-clause-step g c =
    let graph = g.G.ControlFlowGraph.graph c.args.graph.now c.args.ctx.now in
    let lawful = g.met.G.ControlFlowGraph.laws c.args.graph.now c.args.ctx.now c.requires.lawful in
    let past : length (graph.succ c.args.top.0) ≤ c.args.top.1 = omega arith in
    rw c.in_ok-push-3.ensures.items (step_left g.G.Node.PartialEq.eq graph g.met.G.Node.Eq.laws.refl lawful.succ_in c.args.stack.now.items c.args.top.0 c.args.top.1 (g.S.ListedSet.listed c.args.seen.now) c.args.post.now.items past)
