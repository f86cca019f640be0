use Rattle.std.proofs.Common.{◌<◌, ◌≤◌, length, true≢false, sym, ◌∙◌, subst}
use Rattle.std.proofs.lemmas.List.{take_all}
use Rattle.std.proofs.lemmas.List.Elements.{All-contains}
use Rattle.pliron_graph_traversal.specs.Search.{IsListed, number_in}
use Rattle.pliron_graph_components.specs.Internal.Picking.{IsListedFrom}
use Rattle.pliron_graph_components.proofs.CollectLemmas.{read_item}
use Rattle.pliron_graph_components.proofs.PreSentinelLemmas.{listed_contains}
use Rattle.pliron_graph_components.proofs.PickLemmas.{IsPicked, pick_none, pick_same, pick_falls, dropped_stand, passed_over, picked_next}
use Rattle.pliron_graph_components.proofs.components.pick_by_falling_number.Goals as goal

pub loop-node-init : goal.loop-node-init
loop-node-init g c =
    let eq = g.N.PartialEq.eq in
    let order = g.S.ListedSet.listed c.args.order.now in
    record {
      items = c.as_slice-node-items.ensures.keys;
      picked = rw c.clear.ensures.items (pick_none (number_in eq order) (IsListedFrom eq (g.S.ListedSet.listed c.args.held.now) c.args.first));
    }

pub loop-node-preserved-then-not-is_listed_from : goal.loop-node-preserved-then-not-is_listed_from
loop-node-preserved-then-not-is_listed_from g c =
    let eq = g.N.PartialEq.eq in
    let order = g.S.ListedSet.listed c.args.order.now in
    let held = g.S.ListedSet.listed c.args.held.now in
    let x = c.node-item.result in
    let i = c.loop-node.node-index in
    let at = read_item order c.as_slice-node-items.result.now i x c.loop-node.invariant.items (subst (λ xs. c.loop-node.node-index < length xs) c.loop-node.invariant.items c.loop-node-test.true) c.node-item.is in
    record {
      items = c.loop-node.invariant.items;
      picked = passed_over eq g.met.N.Eq.laws c.requires.same order held c.args.first i x c.loop-node.nodes.items c.requires.once at c.loop-node.invariant.picked
          (λ s. true≢false (sym (c.is_listed_from.ensures.1 s) ∙ c.if-not-is_listed_from.true));
    }

pub loop-node-preserved : goal.loop-node-preserved
loop-node-preserved g c =
    let eq = g.N.PartialEq.eq in
    let order = g.S.ListedSet.listed c.args.order.now in
    let held = g.S.ListedSet.listed c.args.held.now in
    let x = c.node-item.result in
    let i = c.loop-node.node-index in
    let at = read_item order c.as_slice-node-items.result.now i x c.loop-node.invariant.items (subst (λ xs. c.loop-node.node-index < length xs) c.loop-node.invariant.items c.loop-node-test.true) c.node-item.is in
    record {
      items = c.loop-node.invariant.items;
      picked = rw c.in_ok-push.ensures.items (picked_next eq g.met.N.Eq.laws c.requires.same order held c.args.first i x c.loop-node.nodes.items c.requires.once at c.loop-node.invariant.picked
          (c.is_listed_from.ensures.0 c.if-not-is_listed_from.false));
    }

pub returns-clause-same_nodes : goal.returns-clause-same_nodes
returns-clause-same_nodes g c =
    let eq = g.N.PartialEq.eq in
    let order = g.S.ListedSet.listed c.args.order.now in
    let held = g.S.ListedSet.listed c.args.held.now in
    let past : length (g.S.ListedSet.listed c.args.order.now) ≤ c.loop-node.node-index = subst (λ xs. length xs ≤ c.loop-node.node-index) c.loop-node.invariant.items c.loop-node-test.false in
    let p = subst (λ xs. IsPicked (number_in eq order) (IsListedFrom eq held c.args.first) xs c.loop-node.nodes.items) (take_all c.loop-node.node-index order past) c.loop-node.invariant.picked in
    rw c.reverse.ensures.items (λ v.
    let s = pick_same (number_in eq order) (IsListedFrom eq held c.args.first) order c.loop-node.nodes.items p v in
    let d = dropped_stand eq g.met.N.Eq.laws c.requires.same held c.args.first v c.requires.distinct in (
      λ h. d.1 (s.0 h).1,
      λ h. s.1 (listed_contains eq c.requires.same g.met.N.Eq.laws.refl order v (All-contains (IsListed eq order) _ v c.requires.listed h), d.0 h),
    ))

pub returns-clause-descends : goal.returns-clause-descends
returns-clause-descends g c =
    let eq = g.N.PartialEq.eq in
    let order = g.S.ListedSet.listed c.args.order.now in
    let held = g.S.ListedSet.listed c.args.held.now in
    let past : length (g.S.ListedSet.listed c.args.order.now) ≤ c.loop-node.node-index = subst (λ xs. length xs ≤ c.loop-node.node-index) c.loop-node.invariant.items c.loop-node-test.false in
    let p = subst (λ xs. IsPicked (number_in eq order) (IsListedFrom eq held c.args.first) xs c.loop-node.nodes.items) (take_all c.loop-node.node-index order past) c.loop-node.invariant.picked in
    rw c.reverse.ensures.items (pick_falls (number_in eq order) (IsListedFrom eq held c.args.first) order c.loop-node.nodes.items p)
