use Rattle.std.proofs.Common.{◌≡◌, ◌<◌, ◌∷◌, ◌++◌, [], ℕ, List, Some, length, sym, ap, ◌∙◌, subst, rules}
use Rattle.std.specs.List.{Contains, slice_get}
use Rattle.pliron_graph_components.specs.declared.components.Scc.{Scc}
use Rattle.pliron_graph_components.proofs.PreSentinelLemmas.{item_contained, contains_item, item_pushed, item_kept}
use Rattle.pliron_opt_inline.proofs.inlining.inline_bottom_up.Goals as goal

pub inline_in_all-requires : goal.inline_in_all-requires
inline_in_all-requires g c =
    let items = c.loop-component.components.items in
    let left = c.pop.new.self.items in
    let component = c.in-Some.component in
    let e : items ≡ left ++ component ∷ [] = search (rules, c.in-Some.ensures) in
    let there = item_contained items (length left) component (subst (λ xs. slice_get xs (length left) ≡ Some component) (sym e) (item_pushed left component)) in
    let planned = c.requires.1.1.1.1.0 in
    let way = c.loop-component.invariant.under_way in
    let sizes = c.loop-component.invariant.sizes in
    let nodes : (v : ℕ) → Contains c.deref.result.now v → v < length c.args.plan.now.table.now.functions = λ v h. c.loop-component.invariant.nodes component v there (subst (λ (xs : List ℕ). Contains xs v) c.deref.ensures.value h) in
    search rules

pub loop-component-preserved : goal.loop-component-preserved
loop-component-preserved g c =
    let items = c.loop-component.components.items in
    let left = c.pop.new.self.items in
    let component = c.in-Some.component in
    let e : items ≡ left ++ component ∷ [] = search (rules, c.in-Some.ensures) in
    record {
      under_way = c.in_ok-inline_in_all.ensures.under_way;
      sizes = c.in_ok-inline_in_all.ensures.sizes;
      nodes = λ x v hx hv.
          let at = contains_item left x hx in
          c.loop-component.invariant.nodes x v (item_contained items at.0 x (subst (λ xs. slice_get xs at.0 ≡ Some x) (sym e) (item_kept left component at.0 x at.1))) hv;
      point = c.inline_in_all.ensures.point ∙ c.loop-component.invariant.point;
    }
