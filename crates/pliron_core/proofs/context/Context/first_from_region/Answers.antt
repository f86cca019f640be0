use Rattle.std.proofs.Common.{◌≡◌, ap, ◌∙◌, sym, length, get_or, [], None, Some, arith}
use Rattle.std.specs.List.{slice_get}
use Rattle.pliron_core.specs.Lists.{first_of}
use Rattle.pliron_core.specs.Tree.{View, regions_of}
use Rattle.pliron_core.specs.Walks.{children_of_region}
use Rattle.pliron_core.proofs.WalkStepLemmas.{row_read, region_within, first_in_region, region_found, region_passed}
use Rattle.pliron_core.proofs.context.Context.first_from_region.Goals as goal
use Rattle.pliron_core.proofs.context.Context.first_from_region.Goals.{After-index-region, After-first_from_block-first}

-- the region at hand
region : (c : After-index-region) → slice_get (regions_of c.args.self.now.tree c.args.op) c.loop-i.i ≡ Some c.index-region.result
region c =
    let row = row_read c.args.self.now.tree c.well_formed-2.ensures.tree c.args.op c.index.result.now c.requires (c.index.ensures ∙ ap (λ (v : View). get_or v.tree.operations c.args.op c.index.result.now) c.self.view_is) in
    ap (λ r. slice_get r.regions c.loop-i.i) (sym row) ∙ c.get.ensures ∙ ap Some (sym c.index-region.ensures)

first : (c : After-first_from_block-first) → c.first_from_block-first.result ≡ first_of (children_of_region c.args.self.now.tree c.index-region.result) None
first c =
    first_in_region _ c.well_formed-2.ensures.tree _ _ _ (c.head.ensures.first ∙ ap (λ (v : View). first_of (get_or v.tree.layouts c.index-region.result []) None) c.self.view_is) c.first_from_block-first.ensures

pub head-requires : goal.head-requires
head-requires c =
    let lt = region_within _ c.well_formed-2.ensures.tree _ _ _ (region c) in
    omega (arith, lt, ap (λ (v : View). length v.tree.layouts) c.self.view_is)

pub returns-then-is_some : goal.returns-then-is_some
returns-then-is_some c =
    let at = goal.at.returns-then-is_some c in
    sym (c.loop-i.invariant ∙ region_found _ c.well_formed-2.ensures.tree _ _ _ _ (region at.After-index-region) (first at.After-first_from_block-first) (sym c.if-is_some.ensures))

pub loop-i-preserved : goal.loop-i-preserved
loop-i-preserved c =
    let at = goal.at.loop-i-preserved c in
    c.loop-i.invariant ∙ region_passed _ c.well_formed-2.ensures.tree _ _ _ _ (region at.After-index-region) (first at.After-first_from_block-first) (sym c.if-is_some.ensures)
