use Rattle.std.proofs.Common.{rules, ℕ, ◌≡◌, [], ◌∷◌, ◌++◌, sym, ◌∙◌, ap, subst, append-nil, append_assoc, length, true, false, nat_eq, Some, map, slice_get, refl}
use Rattle.std.specs.List.{list_any}
use Rattle.pliron_graph_traversal.specs.Adjacency.{graph_of}
use Rattle.pliron_graph_traversal.specs.Internal.AdjacencyLawful.{adjacency_lawful}
use Rattle.pliron_graph_components.proofs.NamedLemmas.{nat_laws, named_none, named_push, numbers_below}
use Rattle.pliron_graph_components.proofs.PartLemmas.{taken_nodes}
use Rattle.pliron_graph_components.specs.declared.components.Scc.{Scc}
use Rattle.pliron_graph_components.specs.Components.{entry_then_nodes}
use Rattle.pliron_graph_traversal.specs.Search.{number_in}
use Rattle.pliron_graph_traversal.proofs.NumberingLemmas.{search_from_growth, found_once}
use Rattle.pliron_graph_components.proofs.ComponentLemmas.{AreTaken}
use Rattle.pliron_graph_components.proofs.TakingLemmas.{all_listed, start, root_member, over, more, finish}
use Rattle.pliron_graph_components.proofs.components.take_named_components.Goals as goal

pub loop-root-init : goal.loop-root-init
loop-root-init g c =
    let graph = graph_of c.args.graph.now in
    let lawful = adjacency_lawful c.args.graph.now c.requires.lawful in
    record {
      deleted = [];
      numbered = [];
      left = sym (append-nil c.args.post.items);
      taken = rw c.empty-held.ensures.empty (start nat_eq graph lawful nat_laws c.args.pre.now c.args.post.items (search_from_growth nat_eq lawful.same nat_laws.refl graph (entry_then_nodes graph) c.args.pre.now c.args.post.items c.requires.grew));
      named = rw c.new-all.ensures.items (named_none c.args.nodes.now);
    }

pub loop-root-preserved-then-contains : goal.loop-root-preserved-then-contains
loop-root-preserved-then-contains g c =
    let graph = graph_of c.args.graph.now in
    let lawful = adjacency_lawful c.args.graph.now c.requires.lawful in
    let there : list_any (nat_eq c.in-Some.root) c.loop-root.held ≡ true = sym c.contains.ensures ∙ c.if-contains.true in
    record {
      deleted = c.in-Some.root ∷ c.loop-root.invariant.deleted;
      numbered = c.loop-root.invariant.numbered;
      left = c.loop-root.invariant.left ∙ ap (λ xs. xs ++ c.loop-root.invariant.deleted) c.in-Some.ensures.items ∙ append_assoc c.pop.new.self.items (c.in-Some.root ∷ []) c.loop-root.invariant.deleted;
      taken = over nat_eq graph lawful nat_laws c.args.pre.now c.args.post.items (search_from_growth nat_eq lawful.same nat_laws.refl graph (entry_then_nodes graph) c.args.pre.now c.args.post.items c.requires.grew) c.pop.new.self.items c.loop-root.invariant.deleted c.loop-root.post.items c.in-Some.root c.in-Some.ensures.items c.loop-root.invariant.left c.loop-root.held c.loop-root.invariant.numbered there c.loop-root.invariant.taken;
      named = c.loop-root.invariant.named;
    }

pub take_component-requires-clause-member : goal.take_component-requires-clause-member
take_component-requires-clause-member g c =
    let graph = graph_of c.args.graph.now in
    let lawful = adjacency_lawful c.args.graph.now c.requires.lawful in
    root_member nat_eq graph lawful nat_laws c.args.pre.now c.args.post.items (search_from_growth nat_eq lawful.same nat_laws.refl graph (entry_then_nodes graph) c.args.pre.now c.args.post.items c.requires.grew) c.pop.new.self.items c.loop-root.invariant.deleted c.loop-root.post.items c.in-Some.root c.in-Some.ensures.items c.loop-root.invariant.left

pub take_component-requires-clause-listed : goal.take_component-requires-clause-listed
take_component-requires-clause-listed g c =
    let graph = graph_of c.args.graph.now in
    let lawful = adjacency_lawful c.args.graph.now c.requires.lawful in
    all_listed nat_eq graph lawful nat_laws c.args.pre.now c.args.post.items (search_from_growth nat_eq lawful.same nat_laws.refl graph (entry_then_nodes graph) c.args.pre.now c.args.post.items c.requires.grew)

pub take_component-requires-clause-once : goal.take_component-requires-clause-once
take_component-requires-clause-once g c =
    let graph = graph_of c.args.graph.now in
    let lawful = adjacency_lawful c.args.graph.now c.requires.lawful in
    found_once nat_eq lawful.same nat_laws.refl graph (entry_then_nodes graph) c.args.pre.now c.args.post.items c.requires.grew

pub nodes_by_number-requires : goal.nodes_by_number-requires
nodes_by_number-requires g c =
    let graph = graph_of c.args.graph.now in
    rw c.deref.ensures.value (numbers_below (length c.args.nodes.now) c.args.graph.now c.take_component.new.nodes.items c.requires.counted
    (taken_nodes nat_eq nat_laws (adjacency_lawful c.args.graph.now c.requires.lawful).same graph c.args.pre.now c.in-Some.root c.loop-root.held c.take_component.new.held (record { nodes = c.take_component.new.nodes; is_cyclic = c.in_ok-is_cyclic.is_cyclic }) c.in_ok-is_cyclic.ensures.taken))

pub loop-root-preserved : goal.loop-root-preserved
loop-root-preserved g c =
    let graph = graph_of c.args.graph.now in
    let lawful = adjacency_lawful c.args.graph.now c.requires.lawful in
    let unheld : list_any (nat_eq c.in-Some.root) c.loop-root.held ≡ false = sym c.contains.ensures ∙ c.if-contains.false in
    let scc : Scc ℕ = record { nodes = c.take_component.new.nodes; is_cyclic = c.in_ok-is_cyclic.is_cyclic } in
    let items : map Some c.in_ok-named.named.items ≡ map (λ k. slice_get c.args.nodes.now k) c.take_component.new.nodes.items = subst (λ ks. map Some c.in_ok-named.named.items ≡ map (λ k. slice_get c.args.nodes.now k) ks) c.deref.ensures.value c.in_ok-named.ensures.named in
    record {
      deleted = c.in-Some.root ∷ c.loop-root.invariant.deleted;
      numbered = c.loop-root.invariant.numbered ++ scc ∷ [];
      left = c.loop-root.invariant.left ∙ ap (λ xs. xs ++ c.loop-root.invariant.deleted) c.in-Some.ensures.items ∙ append_assoc c.pop.new.self.items (c.in-Some.root ∷ []) c.loop-root.invariant.deleted;
      taken = more nat_eq graph lawful nat_laws c.args.pre.now c.args.post.items (search_from_growth nat_eq lawful.same nat_laws.refl graph (entry_then_nodes graph) c.args.pre.now c.args.post.items c.requires.grew) c.pop.new.self.items c.loop-root.invariant.deleted c.loop-root.post.items c.in-Some.root c.in-Some.ensures.items c.loop-root.invariant.left c.loop-root.held c.take_component.new.held c.loop-root.invariant.numbered scc unheld c.in_ok-is_cyclic.ensures.taken c.loop-root.invariant.taken;
      named = rw c.in_ok-push.ensures.items (named_push c.args.nodes.now c.loop-root.invariant.numbered c.loop-root.all.items scc _ (record { members = items; cyclic = refl }) c.loop-root.invariant.named);
    }

pub returns-clause-named : goal.returns-clause-named
returns-clause-named g c =
    let graph = graph_of c.args.graph.now in
    let lawful = adjacency_lawful c.args.graph.now c.requires.lawful in
    let empty : length c.loop-root.post.items ≡ 0 = search rules in
    record {
      numbered = c.loop-root.invariant.numbered;
      found = finish nat_eq graph lawful nat_laws c.args.pre.now c.args.post.items (search_from_growth nat_eq lawful.same nat_laws.refl graph (entry_then_nodes graph) c.args.pre.now c.args.post.items c.requires.grew) c.requires.grew c.loop-root.held c.loop-root.invariant.numbered
          (subst (AreTaken graph (entry_then_nodes graph) (number_in nat_eq c.args.pre.now) (number_in nat_eq c.args.post.items) c.loop-root.held c.loop-root.invariant.numbered) empty c.loop-root.invariant.taken);
      named = c.loop-root.invariant.named;
    }
