use Rattle.std.proofs.Common.{◌≡◌, ◌<◌, ◌≤◌, ◌+◌, ap, ◌∙◌, sym, subst, length, get_or, None, Some, rules, arith}
use Rattle.std.specs.List.{slice_get}
use Rattle.std.proofs.lemmas.Option.{slice_get_within, same_Some}
use Rattle.pliron_core.specs.Tree.{View, IsLive, slot_of, regions_of}
use Rattle.pliron_core.specs.WalkSteps.{first_in_regions}
use Rattle.pliron_core.proofs.WalkLemmas.{regions_live, live_within}
use Rattle.pliron_core.proofs.WalkStepLemmas.{slot_read, row_read, no_region_after}
use Rattle.pliron_core.proofs.context.Context.first_after_region.Goals as goal
use Rattle.pliron_core.proofs.context.Context.first_after_region.Goals.{After-index-2, After-len-count}

place : (c : After-index-2) → (slot_of c.args.self.now.tree c.args.region ≡ Some c.index.result.now) × (slice_get (regions_of c.args.self.now.tree c.index.result.now.op) c.index.result.now.index ≡ Some c.args.region)
place c =
    slot_read c.args.self.now.tree c.well_formed-2.ensures.tree c.args.region c.index.result.now c.requires (c.index.ensures ∙ ap (λ (v : View). get_or v.tree.slots c.args.region c.index.result.now) c.self.view_is)

live : (c : After-index-2) → IsLive c.args.self.now.tree c.index.result.now.op
live c = regions_live c.args.self.now.tree c.well_formed-2.ensures.tree c.index.result.now.op c.index.result.now.index c.args.region (place c).1

count : (c : After-len-count) (a : After-index-2) → IsLive c.args.self.now.tree c.index.result.now.op → c.len-count.result ≡ length (regions_of c.args.self.now.tree c.index.result.now.op)
count c a is =
    let row = row_read c.args.self.now.tree c.well_formed-2.ensures.tree c.index.result.now.op c.index-3.result.now is (c.index-3.ensures ∙ ap (λ k. get_or c.self.inside.operations.items k c.index-3.result.now) c.index-2.ensures ∙ ap (λ (v : View). get_or v.tree.operations c.index.result.now.op c.index-3.result.now) c.self.view_is) in
    c.len-count.ensures ∙ ap (λ r. length r.regions) row

pub index-requires-3 : goal.index-requires-3
index-requires-3 c =
    let lt = live_within c.args.self.now.tree c.well_formed-2.ensures.tree c.index.result.now.op (live c) in
    let h : c.index-2.result < length c.self.inside.operations.items = omega (arith, lt, c.index-2.ensures, ap (λ (v : View). length v.tree.operations) c.self.view_is) in
    search (rules, h)

pub overflow_add-next : goal.overflow_add-next
overflow_add-next c =
    let a = (goal.at.overflow_add-next c).After-index-2 in
    let lt = slice_get_within (regions_of c.args.self.now.tree c.index.result.now.op) c.index.result.now.index c.args.region (place a).1 in
    let h : c.index.result.now.index + 1 ≤ c.len-count.result = omega (arith, lt, count c a (live a)) in
    search (rules, h)

pub first_from_region-requires : goal.first_from_region-requires
first_from_region-requires c = subst (IsLive c.args.self.now.tree) (sym c.index-4.ensures) (live (goal.at.first_from_region-requires c).After-index-2)

pub returns-then-next-count : goal.returns-then-next-count
returns-then-next-count c x e =
    let at = goal.at.returns-then-next-count c in
    let same = same_Some x c.index.result.now (sym e ∙ (place at.After-index-2).0) in
    let last : c.index.result.now.index + 1 ≡ length (regions_of c.args.self.now.tree c.index.result.now.op) = omega (arith, count at.After-len-count at.After-index-2 (live at.After-index-2)) in
    subst (λ z. None ≡ first_in_regions c.args.self.now.tree z.op (z.index + 1)) (sym same) (sym (no_region_after c.args.self.now.tree c.well_formed-2.ensures.tree c.index.result.now.op c.index.result.now.index last))

pub returns : goal.returns
returns c x e =
    let same = same_Some x c.index.result.now (sym e ∙ (place (goal.at.returns c).After-index-2).0) in
    subst (λ z. c.first_from_region.result ≡ first_in_regions c.args.self.now.tree z.op (z.index + 1)) (sym same) (c.first_from_region.ensures ∙ ap (λ k. first_in_regions c.args.self.now.tree k (c.index.result.now.index + 1)) c.index-4.ensures)
