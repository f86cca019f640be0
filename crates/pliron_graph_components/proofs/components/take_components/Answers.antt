use Rattle.std.proofs.Common.{rules, ◌≡◌, [], ◌∷◌, ◌++◌, sym, ◌∙◌, ap, subst, append-nil, append_assoc, length, true, false}
use Rattle.std.specs.List.{list_any}
use Rattle.pliron_graph_components.specs.Components.{entry_then_nodes}
use Rattle.pliron_graph_traversal.specs.Search.{number_in}
use Rattle.pliron_graph_traversal.proofs.NumberingLemmas.{search_from_growth, found_once}
use Rattle.pliron_graph_components.proofs.ComponentLemmas.{AreTaken}
use Rattle.pliron_graph_components.proofs.TakingLemmas.{all_listed, start, root_member, over, more, finish}
use Rattle.pliron_graph_components.proofs.components.take_components.Goals as goal

pub loop-root-init : goal.loop-root-init
loop-root-init g c =
    let eq = g.G.Node.PartialEq.eq in
    let graph = g.G.ControlFlowGraph.graph c.args.graph.now c.args.ctx.now in
    let lawful = g.met.G.ControlFlowGraph.laws c.args.graph.now c.args.ctx.now c.requires.lawful in
    record {
      deleted = [];
      left = sym (append-nil c.args.post.items);
      taken = rw (c.empty-held.ensures.empty, c.new-components.ensures.items) (start eq graph lawful g.met.G.Node.Eq.laws (g.S.ListedSet.listed c.args.pre.now) c.args.post.items (search_from_growth g.G.Node.PartialEq.eq lawful.same g.met.G.Node.Eq.laws.refl graph (entry_then_nodes graph) (g.S.ListedSet.listed c.args.pre.now) c.args.post.items c.requires.grew));
    }

pub loop-root-preserved-then-contains : goal.loop-root-preserved-then-contains
loop-root-preserved-then-contains g c =
    let eq = g.G.Node.PartialEq.eq in
    let graph = g.G.ControlFlowGraph.graph c.args.graph.now c.args.ctx.now in
    let lawful = g.met.G.ControlFlowGraph.laws c.args.graph.now c.args.ctx.now c.requires.lawful in
    let there : list_any (eq c.in-Some.root) (g.S.ListedSet.listed c.loop-root.held) ≡ true = sym c.contains.ensures ∙ c.if-contains.true in
    record {
      deleted = c.in-Some.root ∷ c.loop-root.invariant.deleted;
      left = c.loop-root.invariant.left ∙ ap (λ xs. xs ++ c.loop-root.invariant.deleted) c.in-Some.ensures.items ∙ append_assoc c.pop.new.self.items (c.in-Some.root ∷ []) c.loop-root.invariant.deleted;
      taken = over eq graph lawful g.met.G.Node.Eq.laws (g.S.ListedSet.listed c.args.pre.now) c.args.post.items (search_from_growth g.G.Node.PartialEq.eq lawful.same g.met.G.Node.Eq.laws.refl graph (entry_then_nodes graph) (g.S.ListedSet.listed c.args.pre.now) c.args.post.items c.requires.grew) c.pop.new.self.items c.loop-root.invariant.deleted c.loop-root.post.items c.in-Some.root c.in-Some.ensures.items c.loop-root.invariant.left (g.S.ListedSet.listed c.loop-root.held) c.loop-root.components.items there c.loop-root.invariant.taken;
    }

pub take_component-requires-clause-member : goal.take_component-requires-clause-member
take_component-requires-clause-member g c =
    let eq = g.G.Node.PartialEq.eq in
    let graph = g.G.ControlFlowGraph.graph c.args.graph.now c.args.ctx.now in
    let lawful = g.met.G.ControlFlowGraph.laws c.args.graph.now c.args.ctx.now c.requires.lawful in
    root_member eq graph lawful g.met.G.Node.Eq.laws (g.S.ListedSet.listed c.args.pre.now) c.args.post.items (search_from_growth g.G.Node.PartialEq.eq lawful.same g.met.G.Node.Eq.laws.refl graph (entry_then_nodes graph) (g.S.ListedSet.listed c.args.pre.now) c.args.post.items c.requires.grew) c.pop.new.self.items c.loop-root.invariant.deleted c.loop-root.post.items c.in-Some.root c.in-Some.ensures.items c.loop-root.invariant.left

pub take_component-requires-clause-listed : goal.take_component-requires-clause-listed
take_component-requires-clause-listed g c =
    let graph = g.G.ControlFlowGraph.graph c.args.graph.now c.args.ctx.now in
    let lawful = g.met.G.ControlFlowGraph.laws c.args.graph.now c.args.ctx.now c.requires.lawful in
    all_listed g.G.Node.PartialEq.eq graph lawful g.met.G.Node.Eq.laws (g.S.ListedSet.listed c.args.pre.now) c.args.post.items (search_from_growth g.G.Node.PartialEq.eq lawful.same g.met.G.Node.Eq.laws.refl graph (entry_then_nodes graph) (g.S.ListedSet.listed c.args.pre.now) c.args.post.items c.requires.grew)

pub take_component-requires-clause-once : goal.take_component-requires-clause-once
take_component-requires-clause-once g c =
    let graph = g.G.ControlFlowGraph.graph c.args.graph.now c.args.ctx.now in
    let lawful = g.met.G.ControlFlowGraph.laws c.args.graph.now c.args.ctx.now c.requires.lawful in
    found_once g.G.Node.PartialEq.eq lawful.same g.met.G.Node.Eq.laws.refl graph (entry_then_nodes graph) (g.S.ListedSet.listed c.args.pre.now) c.args.post.items c.requires.grew

pub loop-root-preserved : goal.loop-root-preserved
loop-root-preserved g c =
    let eq = g.G.Node.PartialEq.eq in
    let graph = g.G.ControlFlowGraph.graph c.args.graph.now c.args.ctx.now in
    let lawful = g.met.G.ControlFlowGraph.laws c.args.graph.now c.args.ctx.now c.requires.lawful in
    let unheld : list_any (eq c.in-Some.root) (g.S.ListedSet.listed c.loop-root.held) ≡ false = sym c.contains.ensures ∙ c.if-contains.false in
    record {
      deleted = c.in-Some.root ∷ c.loop-root.invariant.deleted;
      left = c.loop-root.invariant.left ∙ ap (λ xs. xs ++ c.loop-root.invariant.deleted) c.in-Some.ensures.items ∙ append_assoc c.pop.new.self.items (c.in-Some.root ∷ []) c.loop-root.invariant.deleted;
      taken = rw c.in_ok-push.ensures.items (more eq graph lawful g.met.G.Node.Eq.laws (g.S.ListedSet.listed c.args.pre.now) c.args.post.items (search_from_growth g.G.Node.PartialEq.eq lawful.same g.met.G.Node.Eq.laws.refl graph (entry_then_nodes graph) (g.S.ListedSet.listed c.args.pre.now) c.args.post.items c.requires.grew) c.pop.new.self.items c.loop-root.invariant.deleted c.loop-root.post.items c.in-Some.root c.in-Some.ensures.items c.loop-root.invariant.left (g.S.ListedSet.listed c.loop-root.held) (g.S.ListedSet.listed c.take_component.new.held) c.loop-root.components.items _ unheld c.in_ok-is_cyclic.ensures.taken c.loop-root.invariant.taken);
    }

pub returns-clause-found : goal.returns-clause-found
returns-clause-found g c =
    let eq = g.G.Node.PartialEq.eq in
    let graph = g.G.ControlFlowGraph.graph c.args.graph.now c.args.ctx.now in
    let lawful = g.met.G.ControlFlowGraph.laws c.args.graph.now c.args.ctx.now c.requires.lawful in
    let empty : length c.loop-root.post.items ≡ 0 = search rules in
    finish eq graph lawful g.met.G.Node.Eq.laws (g.S.ListedSet.listed c.args.pre.now) c.args.post.items (search_from_growth g.G.Node.PartialEq.eq lawful.same g.met.G.Node.Eq.laws.refl graph (entry_then_nodes graph) (g.S.ListedSet.listed c.args.pre.now) c.args.post.items c.requires.grew) c.requires.grew (g.S.ListedSet.listed c.loop-root.held) c.loop-root.components.items
    (subst (AreTaken graph (entry_then_nodes graph) (number_in eq (g.S.ListedSet.listed c.args.pre.now)) (number_in eq c.args.post.items) (g.S.ListedSet.listed c.loop-root.held) c.loop-root.components.items) empty c.loop-root.invariant.taken)
