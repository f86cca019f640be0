use Rattle.std.proofs.Common.{◌≡◌, ◌<◌, ◌≤◌, [], ◌∷◌, ◌∙◌, sym, subst, map, take, length, arith, true, false}
use Rattle.std.proofs.lemmas.List.{map_push}
use Rattle.std.specs.List.{list_any}
use Rattle.pliron_graph_traversal.specs.Internal.Forest.{Grew}
use Rattle.pliron_graph_traversal.proofs.WalkLemmas.{walked_none, walked_past, walked_more, walked_all, next_take}
use Rattle.pliron_graph_traversal.proofs.orders.find_walks.Goals as goal

pub loop-node-init : goal.loop-node-init
loop-node-init g c =
    let graph = g.G.ControlFlowGraph.graph c.args.graph.now c.args.ctx.now in
    record {
      nodes = c.deref-node-items.ensures.value ∙ c.in_ok-nodes.ensures.list;
      empty = c.new-stack.ensures.items;
      walked = rw (c.empty-seen.ensures.empty, c.new-walks.ensures.items) (walked_none g.G.Node.PartialEq.eq graph);
    }

pub loop-node-preserved-then-contains : goal.loop-node-preserved-then-contains
loop-node-preserved-then-contains g c =
    let graph = g.G.ControlFlowGraph.graph c.args.graph.now c.args.ctx.now in
    let eq = g.G.Node.PartialEq.eq in
    let items : c.deref-node-items.result.now ≡ graph.nodes = c.loop-node.invariant.nodes in
    let within : c.loop-node.node-index < length c.deref-node-items.result.now = omega arith in
    let there : list_any (eq c.node-item.result) (g.S.ListedSet.listed c.loop-node.seen) ≡ true = sym c.contains.ensures ∙ c.if-contains.true in
    record {
      nodes = items;
      empty = c.loop-node.invariant.empty;
      walked = rw (next_take c.deref-node-items.result.now graph.nodes c.loop-node.node-index c.node-item.result items within c.node-item.is)
          (walked_past eq graph (take c.loop-node.node-index graph.nodes) (g.S.ListedSet.listed c.loop-node.seen) (map (λ w. w.items) c.loop-node.walks.items) c.node-item.result there c.loop-node.invariant.walked);
    }

pub loop-node-preserved : goal.loop-node-preserved
loop-node-preserved g c =
    let graph = g.G.ControlFlowGraph.graph c.args.graph.now c.args.ctx.now in
    let eq = g.G.Node.PartialEq.eq in
    let items : c.deref-node-items.result.now ≡ graph.nodes = c.loop-node.invariant.nodes in
    let within : c.loop-node.node-index < length c.deref-node-items.result.now = omega arith in
    let unseen : list_any (eq c.node-item.result) (g.S.ListedSet.listed c.loop-node.seen) ≡ false = sym c.contains.ensures ∙ c.if-contains.false in
    let grew : Grew eq graph (c.node-item.result ∷ []) (g.S.ListedSet.listed c.loop-node.seen) [] (g.S.ListedSet.listed c.walk_over.new.seen) c.walk_over.new.post.items =
    subst (λ x. Grew eq graph (c.node-item.result ∷ []) (g.S.ListedSet.listed c.loop-node.seen) x (g.S.ListedSet.listed c.walk_over.new.seen) c.walk_over.new.post.items) c.new-post.ensures.items c.in_ok-walk_over.ensures.grew in
    record {
      nodes = items;
      empty = c.in_ok-walk_over.ensures.empty;
      walked = rw (next_take c.deref-node-items.result.now graph.nodes c.loop-node.node-index c.node-item.result items within c.node-item.is, c.in_ok-push.ensures.items, map_push)
          (walked_more eq graph (take c.loop-node.node-index graph.nodes) (g.S.ListedSet.listed c.loop-node.seen) (g.S.ListedSet.listed c.walk_over.new.seen) c.walk_over.new.post.items (map (λ w. w.items) c.loop-node.walks.items) c.node-item.result unseen grew c.loop-node.invariant.walked);
    }

pub returns-clause-found : goal.returns-clause-found
returns-clause-found g c =
    let graph = g.G.ControlFlowGraph.graph c.args.graph.now c.args.ctx.now in
    let eq = g.G.Node.PartialEq.eq in
    let items : c.deref-node-items.result.now ≡ graph.nodes = c.loop-node.invariant.nodes in
    let past : length c.deref-node-items.result.now ≤ c.loop-node.node-index = omega arith in (
      g.S.ListedSet.listed c.loop-node.seen,
      walked_all eq graph c.deref-node-items.result.now (g.S.ListedSet.listed c.loop-node.seen) (map (λ w. w.items) c.loop-node.walks.items) c.loop-node.node-index items past c.loop-node.invariant.walked,
    )
