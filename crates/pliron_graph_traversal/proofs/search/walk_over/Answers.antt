use Rattle.std.proofs.Common.{[], Contains, ℕ}
use Rattle.std.proofs.lemmas.List.Elements.{All-nil, All-push}
use Rattle.pliron_graph_traversal.proofs.UnwindingLemmas.{started, last_in, before_step}
use Rattle.pliron_graph_traversal.proofs.InsertLemmas.{goes_last}
use Rattle.pliron_graph_traversal.proofs.search.walk_over.Goals as goal

pub loop-top-init : goal.loop-top-init
loop-top-init g c =
    let graph = g.G.ControlFlowGraph.graph c.args.graph.now c.args.ctx.now in
    let keys = goes_last g.G.Node.PartialEq.eq (g.S.ListedSet.listed c.args.seen.now) (g.S.ListedSet.listed c.insert.new.self) c.args.root c.requires.unseen c.in_ok-insert.ensures.keys in
    let all = All-push (λ (x : g.row.G-Node.Denot × ℕ). Contains graph.nodes x.0) [] (c.args.root, 0) (All-nil (λ (x : g.row.G-Node.Denot × ℕ). Contains graph.nodes x.0)) c.requires.member in
    rw (c.in_ok-push.ensures.items, c.requires.empty, keys) (record {
      rest = λ p q u. started g.G.Node.PartialEq.eq graph c.args.root (g.S.ListedSet.listed c.args.seen.now) c.args.post.now.items p q c.requires.unseen u;
      nodes = all;
    })

pub step-requires-clause-member : goal.step-requires-clause-member
step-requires-clause-member g c = last_in (g.G.ControlFlowGraph.graph c.args.graph.now c.args.ctx.now).nodes c.pop.new.self.items c.loop-top.stack.items _ c.in-Some.ensures.items c.loop-top.invariant.nodes

pub loop-top-preserved : goal.loop-top-preserved
loop-top-preserved g c =
    let step = before_step g.G.Node.PartialEq.eq (g.G.ControlFlowGraph.graph c.args.graph.now c.args.ctx.now) c.pop.new.self.items c.loop-top.stack.items _ _ _ _ _ _ c.in-Some.ensures.items c.in_ok-step.ensures.step in
    record {
      rest = λ p q u. c.loop-top.invariant.rest p q (step.rest p q u);
      nodes = step.nodes c.loop-top.invariant.nodes;
    }
