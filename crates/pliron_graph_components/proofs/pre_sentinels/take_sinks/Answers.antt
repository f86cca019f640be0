use Rattle.std.proofs.Common.{rules, ◌≡◌, [], ◌∷◌, ◌++◌, sym, ◌∙◌, ap, subst, append-nil, append_assoc, length, true, false, Contains}
use Rattle.std.specs.List.{All, list_any}
use Rattle.pliron_graph_traversal.specs.Internal.Membership.{not_in_from_any}
use Rattle.pliron_graph_components.specs.Reverse.{IsSink, IsLastListed}
use Rattle.pliron_graph_components.specs.declared.components.Scc.{Scc}
use Rattle.pliron_graph_components.proofs.PartLemmas.{taken_stand, taken_nodes, taken_filled}
use Rattle.pliron_graph_components.proofs.PreSentinelLemmas.{last_once, nothing_yet, passed_over, one_added}
use Rattle.pliron_graph_components.specs.Components.{entry_then_nodes}
use Rattle.pliron_graph_traversal.specs.Search.{number_in}
use Rattle.pliron_graph_traversal.proofs.NumberingLemmas.{search_from_growth, found_once}
use Rattle.pliron_graph_components.proofs.ComponentLemmas.{AreTaken}
use Rattle.pliron_graph_components.proofs.TakingLemmas.{all_listed, start, root_member, over, more, finish}
use Rattle.pliron_graph_components.proofs.pre_sentinels.take_sinks.Goals as goal

pub loop-root-init : goal.loop-root-init
loop-root-init g c =
    let eq = g.G.Node.PartialEq.eq in
    let graph = g.G.ControlFlowGraph.graph c.args.graph.now c.args.ctx.now in
    let lawful = g.met.G.ControlFlowGraph.laws c.args.graph.now c.args.ctx.now c.requires.lawful in
    record {
      deleted = [];
      components = [];
      left = sym (append-nil c.args.post.items);
      taken = rw (c.empty-held.ensures.empty) (start eq graph lawful g.met.G.Node.Eq.laws (g.S.ListedSet.listed c.args.pre.now) c.args.post.items (search_from_growth g.G.Node.PartialEq.eq lawful.same g.met.G.Node.Eq.laws.refl graph (entry_then_nodes graph) (g.S.ListedSet.listed c.args.pre.now) c.args.post.items c.requires.grew));
      last = nothing_yet eq lawful.same g.met.G.Node.Eq.laws.refl graph c.new-found.result.items c.new-found.ensures.items;
    }

pub loop-root-preserved-then-contains : goal.loop-root-preserved-then-contains
loop-root-preserved-then-contains g c =
    let eq = g.G.Node.PartialEq.eq in
    let graph = g.G.ControlFlowGraph.graph c.args.graph.now c.args.ctx.now in
    let lawful = g.met.G.ControlFlowGraph.laws c.args.graph.now c.args.ctx.now c.requires.lawful in
    let there : list_any (eq c.in-Some.root) (g.S.ListedSet.listed c.loop-root.held) ≡ true = sym c.contains.ensures ∙ c.if-contains.true in
    record {
      deleted = c.in-Some.root ∷ c.loop-root.invariant.deleted;
      components = c.loop-root.invariant.components;
      left = c.loop-root.invariant.left ∙ ap (λ xs. xs ++ c.loop-root.invariant.deleted) c.in-Some.ensures.items ∙ append_assoc c.pop.new.self.items (c.in-Some.root ∷ []) c.loop-root.invariant.deleted;
      taken = over eq graph lawful g.met.G.Node.Eq.laws (g.S.ListedSet.listed c.args.pre.now) c.args.post.items (search_from_growth g.G.Node.PartialEq.eq lawful.same g.met.G.Node.Eq.laws.refl graph (entry_then_nodes graph) (g.S.ListedSet.listed c.args.pre.now) c.args.post.items c.requires.grew) c.pop.new.self.items c.loop-root.invariant.deleted c.loop-root.post.items c.in-Some.root c.in-Some.ensures.items c.loop-root.invariant.left (g.S.ListedSet.listed c.loop-root.held) c.loop-root.invariant.components there c.loop-root.invariant.taken;
      last = c.loop-root.invariant.last;
    }

pub take_component-requires-clause-member : goal.take_component-requires-clause-member
take_component-requires-clause-member g c =
    let eq = g.G.Node.PartialEq.eq in
    let graph = g.G.ControlFlowGraph.graph c.args.graph.now c.args.ctx.now in
    let lawful = g.met.G.ControlFlowGraph.laws c.args.graph.now c.args.ctx.now c.requires.lawful in
    root_member eq graph lawful g.met.G.Node.Eq.laws (g.S.ListedSet.listed c.args.pre.now) c.args.post.items (search_from_growth g.G.Node.PartialEq.eq lawful.same g.met.G.Node.Eq.laws.refl graph (entry_then_nodes graph) (g.S.ListedSet.listed c.args.pre.now) c.args.post.items c.requires.grew) c.pop.new.self.items c.loop-root.invariant.deleted c.loop-root.post.items c.in-Some.root c.in-Some.ensures.items c.loop-root.invariant.left

pub take_component-requires-clause-listed : goal.take_component-requires-clause-listed
take_component-requires-clause-listed g c =
    let graph = g.G.ControlFlowGraph.graph c.args.graph.now c.args.ctx.now in
    let lawful = g.met.G.ControlFlowGraph.laws c.args.graph.now c.args.ctx.now c.requires.lawful in
    all_listed g.G.Node.PartialEq.eq graph lawful g.met.G.Node.Eq.laws (g.S.ListedSet.listed c.args.pre.now) c.args.post.items (search_from_growth g.G.Node.PartialEq.eq lawful.same g.met.G.Node.Eq.laws.refl graph (entry_then_nodes graph) (g.S.ListedSet.listed c.args.pre.now) c.args.post.items c.requires.grew)

pub take_component-requires-clause-once : goal.take_component-requires-clause-once
take_component-requires-clause-once g c =
    let graph = g.G.ControlFlowGraph.graph c.args.graph.now c.args.ctx.now in
    let lawful = g.met.G.ControlFlowGraph.laws c.args.graph.now c.args.ctx.now c.requires.lawful in
    found_once g.G.Node.PartialEq.eq lawful.same g.met.G.Node.Eq.laws.refl graph (entry_then_nodes graph) (g.S.ListedSet.listed c.args.pre.now) c.args.post.items c.requires.grew

pub last_of_sink-requires-clause-stand : goal.last_of_sink-requires-clause-stand
last_of_sink-requires-clause-stand g c =
    let eq = g.G.Node.PartialEq.eq in
    let graph = g.G.ControlFlowGraph.graph c.args.graph.now c.args.ctx.now in
    let lawful = g.met.G.ControlFlowGraph.laws c.args.graph.now c.args.ctx.now c.requires.lawful in
    let scc : Scc g.row.G-Node.Denot = record { nodes = c.take_component.new.nodes; is_cyclic = c.in_ok-take_component.field-0 } in
    λ v h. rw c.deref.ensures.value (taken_stand eq g.met.G.Node.Eq.laws lawful.same graph (g.S.ListedSet.listed c.args.pre.now) c.in-Some.root (g.S.ListedSet.listed c.loop-root.held) (g.S.ListedSet.listed c.take_component.new.held) scc c.in_ok-take_component.ensures.taken c.len-first.result c.len-first.ensures.len v)

pub last_of_sink-requires-clause-not_empty : goal.last_of_sink-requires-clause-not_empty
last_of_sink-requires-clause-not_empty g c =
    let eq = g.G.Node.PartialEq.eq in
    let graph = g.G.ControlFlowGraph.graph c.args.graph.now c.args.ctx.now in
    let lawful = g.met.G.ControlFlowGraph.laws c.args.graph.now c.args.ctx.now c.requires.lawful in
    let unheld : list_any (eq c.in-Some.root) (g.S.ListedSet.listed c.loop-root.held) ≡ false = sym c.contains.ensures ∙ c.if-contains.false in
    let scc : Scc g.row.G-Node.Denot = record { nodes = c.take_component.new.nodes; is_cyclic = c.in_ok-take_component.field-0 } in
    rw c.deref.ensures.value (taken_filled eq g.met.G.Node.Eq.laws lawful.same graph (g.S.ListedSet.listed c.args.pre.now) c.in-Some.root (g.S.ListedSet.listed c.loop-root.held) (g.S.ListedSet.listed c.take_component.new.held) scc c.in_ok-take_component.ensures.taken (root_member eq graph lawful g.met.G.Node.Eq.laws (g.S.ListedSet.listed c.args.pre.now) c.args.post.items (search_from_growth g.G.Node.PartialEq.eq lawful.same g.met.G.Node.Eq.laws.refl graph (entry_then_nodes graph) (g.S.ListedSet.listed c.args.pre.now) c.args.post.items c.requires.grew) c.pop.new.self.items c.loop-root.invariant.deleted c.loop-root.post.items c.in-Some.root c.in-Some.ensures.items c.loop-root.invariant.left) (not_in_from_any eq lawful.same g.met.G.Node.Eq.laws.refl (g.S.ListedSet.listed c.loop-root.held) c.in-Some.root unheld))

pub last_of_sink-requires-clause-nodes : goal.last_of_sink-requires-clause-nodes
last_of_sink-requires-clause-nodes g c =
    let eq = g.G.Node.PartialEq.eq in
    let graph = g.G.ControlFlowGraph.graph c.args.graph.now c.args.ctx.now in
    let lawful = g.met.G.ControlFlowGraph.laws c.args.graph.now c.args.ctx.now c.requires.lawful in
    let scc : Scc g.row.G-Node.Denot = record { nodes = c.take_component.new.nodes; is_cyclic = c.in_ok-take_component.field-0 } in
    rw c.deref.ensures.value (taken_nodes eq g.met.G.Node.Eq.laws lawful.same graph (g.S.ListedSet.listed c.args.pre.now) c.in-Some.root (g.S.ListedSet.listed c.loop-root.held) (g.S.ListedSet.listed c.take_component.new.held) scc c.in_ok-take_component.ensures.taken)

pub loop-root-preserved-in_default-last_of_sink : goal.loop-root-preserved-in_default-last_of_sink
loop-root-preserved-in_default-last_of_sink g c =
    let eq = g.G.Node.PartialEq.eq in
    let graph = g.G.ControlFlowGraph.graph c.args.graph.now c.args.ctx.now in
    let lawful = g.met.G.ControlFlowGraph.laws c.args.graph.now c.args.ctx.now c.requires.lawful in
    let unheld : list_any (eq c.in-Some.root) (g.S.ListedSet.listed c.loop-root.held) ≡ false = sym c.contains.ensures ∙ c.if-contains.false in
    let scc : Scc g.row.G-Node.Denot = record { nodes = c.take_component.new.nodes; is_cyclic = c.in_ok-take_component.field-0 } in
    record {
      deleted = c.in-Some.root ∷ c.loop-root.invariant.deleted;
      components = c.loop-root.invariant.components ++ scc ∷ [];
      left = c.loop-root.invariant.left ∙ ap (λ xs. xs ++ c.loop-root.invariant.deleted) c.in-Some.ensures.items ∙ append_assoc c.pop.new.self.items (c.in-Some.root ∷ []) c.loop-root.invariant.deleted;
      taken = more eq graph lawful g.met.G.Node.Eq.laws (g.S.ListedSet.listed c.args.pre.now) c.args.post.items (search_from_growth g.G.Node.PartialEq.eq lawful.same g.met.G.Node.Eq.laws.refl graph (entry_then_nodes graph) (g.S.ListedSet.listed c.args.pre.now) c.args.post.items c.requires.grew) c.pop.new.self.items c.loop-root.invariant.deleted c.loop-root.post.items c.in-Some.root c.in-Some.ensures.items c.loop-root.invariant.left (g.S.ListedSet.listed c.loop-root.held) (g.S.ListedSet.listed c.take_component.new.held) c.loop-root.invariant.components scc unheld c.in_ok-take_component.ensures.taken c.loop-root.invariant.taken;
      last = passed_over eq lawful.same g.met.G.Node.Eq.laws.refl graph c.loop-root.invariant.components scc c.loop-root.found.items
          (λ v sink is_last. c.in_default-last_of_sink.not-Some v ((c.last_of_sink.ensures v).1 (subst (IsSink graph) (sym c.deref.ensures.value) sink, subst (λ nodes. IsLastListed eq graph nodes v) (sym c.deref.ensures.value) is_last)))
          c.loop-root.invariant.last;
    }

pub loop-root-preserved : goal.loop-root-preserved
loop-root-preserved g c =
    let eq = g.G.Node.PartialEq.eq in
    let graph = g.G.ControlFlowGraph.graph c.args.graph.now c.args.ctx.now in
    let lawful = g.met.G.ControlFlowGraph.laws c.args.graph.now c.args.ctx.now c.requires.lawful in
    let unheld : list_any (eq c.in-Some.root) (g.S.ListedSet.listed c.loop-root.held) ≡ false = sym c.contains.ensures ∙ c.if-contains.false in
    let scc : Scc g.row.G-Node.Denot = record { nodes = c.take_component.new.nodes; is_cyclic = c.in_ok-take_component.field-0 } in
    let inside : All (λ v. Contains graph.nodes v) scc.nodes.items = taken_nodes eq g.met.G.Node.Eq.laws lawful.same graph (g.S.ListedSet.listed c.args.pre.now) c.in-Some.root (g.S.ListedSet.listed c.loop-root.held) (g.S.ListedSet.listed c.take_component.new.held) scc c.in_ok-take_component.ensures.taken in
    let node = c.in-Some-last_of_sink.node in
    let fact = (c.last_of_sink.ensures node).0 c.in-Some-last_of_sink.is in
    let sink = subst (IsSink graph) c.deref.ensures.value fact.0 in
    let is_last = subst (λ nodes. IsLastListed eq graph nodes node) c.deref.ensures.value fact.1 in
    record {
      deleted = c.in-Some.root ∷ c.loop-root.invariant.deleted;
      components = c.loop-root.invariant.components ++ scc ∷ [];
      left = c.loop-root.invariant.left ∙ ap (λ xs. xs ++ c.loop-root.invariant.deleted) c.in-Some.ensures.items ∙ append_assoc c.pop.new.self.items (c.in-Some.root ∷ []) c.loop-root.invariant.deleted;
      taken = more eq graph lawful g.met.G.Node.Eq.laws (g.S.ListedSet.listed c.args.pre.now) c.args.post.items (search_from_growth g.G.Node.PartialEq.eq lawful.same g.met.G.Node.Eq.laws.refl graph (entry_then_nodes graph) (g.S.ListedSet.listed c.args.pre.now) c.args.post.items c.requires.grew) c.pop.new.self.items c.loop-root.invariant.deleted c.loop-root.post.items c.in-Some.root c.in-Some.ensures.items c.loop-root.invariant.left (g.S.ListedSet.listed c.loop-root.held) (g.S.ListedSet.listed c.take_component.new.held) c.loop-root.invariant.components scc unheld c.in_ok-take_component.ensures.taken c.loop-root.invariant.taken;
      last = rw c.in_ok-push.ensures.items (one_added eq lawful.same g.met.G.Node.Eq.laws.refl graph c.loop-root.invariant.components scc c.loop-root.found.items node sink is_last
          (λ v h. last_once eq lawful.same g.met.G.Node.Eq.laws.refl graph scc.nodes.items node v inside is_last h) c.loop-root.invariant.last);
    }

pub returns-clause-found : goal.returns-clause-found
returns-clause-found g c =
    let eq = g.G.Node.PartialEq.eq in
    let graph = g.G.ControlFlowGraph.graph c.args.graph.now c.args.ctx.now in
    let lawful = g.met.G.ControlFlowGraph.laws c.args.graph.now c.args.ctx.now c.requires.lawful in
    let empty : length c.loop-root.post.items ≡ 0 = search rules in
    record {
      components = c.loop-root.invariant.components;
      numbered = finish eq graph lawful g.met.G.Node.Eq.laws (g.S.ListedSet.listed c.args.pre.now) c.args.post.items (search_from_growth g.G.Node.PartialEq.eq lawful.same g.met.G.Node.Eq.laws.refl graph (entry_then_nodes graph) (g.S.ListedSet.listed c.args.pre.now) c.args.post.items c.requires.grew) c.requires.grew (g.S.ListedSet.listed c.loop-root.held) c.loop-root.invariant.components
          (subst (AreTaken graph (entry_then_nodes graph) (number_in eq (g.S.ListedSet.listed c.args.pre.now)) (number_in eq c.args.post.items) (g.S.ListedSet.listed c.loop-root.held) c.loop-root.invariant.components) empty c.loop-root.invariant.taken);
      last = c.loop-root.invariant.last;
    }
