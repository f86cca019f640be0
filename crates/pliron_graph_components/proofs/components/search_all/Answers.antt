use Rattle.std.proofs.Common.{◌≡◌, ◌<◌, ◌≤◌, [], ◌∙◌, sym, subst, length, arith, true}
use Rattle.std.specs.List.{list_any}
use Rattle.pliron_graph_components.specs.Components.{entry_then_nodes}
use Rattle.pliron_graph_components.proofs.CollectLemmas.{read_item}
use Rattle.pliron_graph_components.proofs.SearchAllLemmas.{grew_none, grew_over, grew_more, grew_all}
use Rattle.pliron_graph_components.proofs.components.search_all.Goals as goal

pub loop-root-init : goal.loop-root-init
loop-root-init g c =
    let graph = g.G.ControlFlowGraph.graph c.args.graph.now c.args.ctx.now in
    record {
      roots = c.deref-root-items.ensures.value ∙ c.in_ok-roots.ensures.list;
      empty = c.new-stack.ensures.items;
      grew = rw (c.empty-pre.ensures.empty, c.new-post.ensures.items) (grew_none g.G.Node.PartialEq.eq graph [] []);
    }

pub loop-root-preserved-then-contains : goal.loop-root-preserved-then-contains
loop-root-preserved-then-contains g c =
    let graph = g.G.ControlFlowGraph.graph c.args.graph.now c.args.ctx.now in
    let eq = g.G.Node.PartialEq.eq in
    let roots : c.deref-root-items.result.now ≡ entry_then_nodes graph = c.loop-root.invariant.roots in
    let within : c.loop-root.root-index < length c.deref-root-items.result.now = omega arith in
    let there : list_any (eq c.root-item.result) (g.S.ListedSet.listed c.loop-root.pre) ≡ true = sym c.contains.ensures ∙ c.if-contains.true in
    let at = read_item (entry_then_nodes graph) c.deref-root-items.result.now c.loop-root.root-index c.root-item.result roots (subst (λ xs. c.loop-root.root-index < length xs) roots within) c.root-item.is in
    record {
      roots = roots;
      empty = c.loop-root.invariant.empty;
      grew = grew_over eq graph (entry_then_nodes graph) c.loop-root.root-index c.root-item.result at (g.S.ListedSet.listed c.loop-root.pre) c.loop-root.post.items there c.loop-root.invariant.grew;
    }

pub loop-root-preserved : goal.loop-root-preserved
loop-root-preserved g c =
    let graph = g.G.ControlFlowGraph.graph c.args.graph.now c.args.ctx.now in
    let eq = g.G.Node.PartialEq.eq in
    let roots : c.deref-root-items.result.now ≡ entry_then_nodes graph = c.loop-root.invariant.roots in
    let within : c.loop-root.root-index < length c.deref-root-items.result.now = omega arith in
    let at = read_item (entry_then_nodes graph) c.deref-root-items.result.now c.loop-root.root-index c.root-item.result roots (subst (λ xs. c.loop-root.root-index < length xs) roots within) c.root-item.is in
    record {
      roots = roots;
      empty = c.in_ok-walk_over.ensures.empty;
      grew = grew_more eq graph (entry_then_nodes graph) c.loop-root.root-index c.root-item.result at (g.S.ListedSet.listed c.loop-root.pre) c.loop-root.post.items (g.S.ListedSet.listed c.walk_over.new.seen) c.walk_over.new.post.items c.in_ok-walk_over.ensures.grew c.loop-root.invariant.grew;
    }

pub returns-clause-grew : goal.returns-clause-grew
returns-clause-grew g c =
    let graph = g.G.ControlFlowGraph.graph c.args.graph.now c.args.ctx.now in
    let eq = g.G.Node.PartialEq.eq in
    let roots : c.deref-root-items.result.now ≡ entry_then_nodes graph = c.loop-root.invariant.roots in
    let past : length c.deref-root-items.result.now ≤ c.loop-root.root-index = omega arith in
    grew_all eq graph (entry_then_nodes graph) (g.S.ListedSet.listed c.loop-root.pre) c.loop-root.post.items c.loop-root.root-index (subst (λ xs. length xs ≤ c.loop-root.root-index) roots past) c.loop-root.invariant.grew
