use Rattle.std.proofs.Common.{sym, ◌∙◌, subst, inl}
use Rattle.pliron_theory.specs.Change.{IsWholeChange}
use Rattle.pliron_laws.proofs.FoldLemmas.{on_err}
use Rattle.pliron_core.proofs.HoldingLemmas.{some_is}
use Rattle.pliron_core.proofs.WithinLemmas.{region_has, region_parent_live}
use Rattle.pliron_opt_cfg.proofs.Whole.{region_lasts, region_starts}
use Rattle.pliron_opt_cfg.specs.Visited.{OfRegion}
use Rattle.pliron_opt_cfg.specs.Visits.{AreVisits}
use Rattle.pliron_theory.proofs.WholeChanges.{whole_refl}
use Rattle.std.proofs.lemmas.Result.{IfOk-weaker}
use Rattle.pliron_opt_cfg.specs.Merged.{MergesSome.Nothing}
use Rattle.pliron_opt_cfg.proofs.Whole.{all_linked, all_merged, partly, partly_change, partly_links, either_way, err_weaker, none_new, no_block_new, branch_went, ok_whole}
use Rattle.pliron_opt_cfg.proofs.merging.merge_inside_region.Goals as goal

pub merge_among-requires : goal.merge_among-requires
merge_among-requires g c =
    let t = c.args.ctx.now.tree in
    let w = c.well_formed-2.ensures.tree in
    let x = region_has t c.args.region c.requires.region in
    let root = x.0 in
    let live = region_parent_live t c.args.region root w.joined c.requires.region x.1 in
    let linked = c.requires.linked root x.1 in
    let visits = subst (AreVisits t (OfRegion c.args.region t) c.in_ok-visits.visits.regions.items) (sym c.deref.ensures.value) c.in_ok-visits.ensures.visits in
    record { linked = all_linked _ _ _ _ g.met.D.Dialect.forwards_operands (OfRegion c.args.region) root (region_lasts c.args.region root) t w live linked (region_starts t c.args.region root c.requires.region x.1) _ _ visits }

pub returns-clause-ok : goal.returns-clause-ok
returns-clause-ok g c =
    let t = c.args.ctx.now.tree in
    let w = c.well_formed-2.ensures.tree in
    let x = region_has t c.args.region c.requires.region in
    let root = x.0 in
    let live = region_parent_live t c.args.region root w.joined c.requires.region x.1 in
    let linked = c.requires.linked root x.1 in
    let visits = subst (AreVisits t (OfRegion c.args.region t) c.in_ok-visits.visits.regions.items) (sym c.deref.ensures.value) c.in_ok-visits.ensures.visits in
    IfOk-weaker c.merge_among.result _ _ (λ s y. all_merged _ _ _ _ g.met.D.Dialect.forwards_operands (OfRegion c.args.region) root (region_lasts c.args.region root) t w live linked (region_starts t c.args.region root c.requires.region x.1) _ _ visits c.merge_among.new.ctx.tree s y) c.merge_among.ensures.ok

pub returns-clause-refused : goal.returns-clause-refused
returns-clause-refused g c =
    let t = c.args.ctx.now.tree in
    let w = c.well_formed-2.ensures.tree in
    let x = region_has t c.args.region c.requires.region in
    let root = x.0 in
    let live = region_parent_live t c.args.region root w.joined c.requires.region x.1 in
    let linked = c.requires.linked root x.1 in
    let visits = subst (AreVisits t (OfRegion c.args.region t) c.in_ok-visits.visits.regions.items) (sym c.deref.ensures.value) c.in_ok-visits.ensures.visits in
    err_weaker c.merge_among.result (λ y. partly _ _ _ _ g.met.D.Dialect.forwards_operands (OfRegion c.args.region) root (region_lasts c.args.region root) t w live linked (region_starts t c.args.region root c.requires.region x.1) _ _ visits c.merge_among.new.ctx.tree y) c.merge_among.ensures.refused

pub returns-clause-change : goal.returns-clause-change
returns-clause-change g c =
    let t = c.args.ctx.now.tree in
    let w = c.well_formed-2.ensures.tree in
    let x = region_has t c.args.region c.requires.region in
    let root = x.0 in
    let live = region_parent_live t c.args.region root w.joined c.requires.region x.1 in
    let linked = c.requires.linked root x.1 in
    let visits = subst (AreVisits t (OfRegion c.args.region t) c.in_ok-visits.visits.regions.items) (sym c.deref.ensures.value) c.in_ok-visits.ensures.visits in
    λ holder e. subst (IsWholeChange g.D.HasMeaning.meaning t c.merge_among.new.ctx.tree) (some_is (sym x.1 ∙ e)) (partly_change _ _ _ _ g.met.D.Dialect.forwards_operands (OfRegion c.args.region) root (region_lasts c.args.region root) t w live linked (region_starts t c.args.region root c.requires.region x.1) _ _ visits c.merge_among.new.ctx.tree (either_way g.D.HasMeaning.meaning _ t c.merge_among.new.ctx.tree c.merge_among.result c.merge_among.ensures.ok c.merge_among.ensures.refused))

pub returns-clause-links : goal.returns-clause-links
returns-clause-links g c =
    let t = c.args.ctx.now.tree in
    let w = c.well_formed-2.ensures.tree in
    let x = region_has t c.args.region c.requires.region in
    let root = x.0 in
    let live = region_parent_live t c.args.region root w.joined c.requires.region x.1 in
    let linked = c.requires.linked root x.1 in
    let visits = subst (AreVisits t (OfRegion c.args.region t) c.in_ok-visits.visits.regions.items) (sym c.deref.ensures.value) c.in_ok-visits.ensures.visits in
    partly_links _ _ _ _ g.met.D.Dialect.forwards_operands (OfRegion c.args.region) root (region_lasts c.args.region root) t w live linked (region_starts t c.args.region root c.requires.region x.1) _ _ visits c.merge_among.new.ctx.tree (either_way g.D.HasMeaning.meaning _ t c.merge_among.new.ctx.tree c.merge_among.result c.merge_among.ensures.ok c.merge_among.ensures.refused)

pub returns-in_err-visits-clause-change : goal.returns-in_err-visits-clause-change
returns-in_err-visits-clause-change g c = λ holder e. whole_refl g.D.HasMeaning.meaning c.args.ctx.now.tree holder (region_parent_live c.args.ctx.now.tree c.args.region holder c.well_formed-2.ensures.tree.joined c.requires.region e) (c.requires.linked holder e)

pub returns-in_err-visits-clause-refused : goal.returns-in_err-visits-clause-refused
returns-in_err-visits-clause-refused g c = on_err _ c.from_residual.result (inl Nothing)

pub visits_inside_region-requires-clause-edges : goal.visits_inside_region-requires-clause-edges
visits_inside_region-requires-clause-edges g c = λ holder e. (c.requires.linked holder e).edges

pub returns-clause-loses_operation : goal.returns-clause-loses_operation
returns-clause-loses_operation g c =
    let t = c.args.ctx.now.tree in
    let w = c.well_formed-2.ensures.tree in
    let x = region_has t c.args.region c.requires.region in
    let root = x.0 in
    let live = region_parent_live t c.args.region root w.joined c.requires.region x.1 in
    let linked = c.requires.linked root x.1 in
    let visits = subst (AreVisits t (OfRegion c.args.region t) c.in_ok-visits.visits.regions.items) (sym c.deref.ensures.value) c.in_ok-visits.ensures.visits in
    IfOk-weaker c.merge_among.result _ _ (λ s y. branch_went _ _ _ _ g.met.D.Dialect.forwards_operands (OfRegion c.args.region) root (region_lasts c.args.region root) t w live linked (region_starts t c.args.region root c.requires.region x.1) _ _ visits c.merge_among.new.ctx.tree s y) c.merge_among.ensures.ok

pub returns-clause-unreachable : goal.returns-clause-unreachable
returns-clause-unreachable g c =
    let t = c.args.ctx.now.tree in
    let w = c.well_formed-2.ensures.tree in
    let x = region_has t c.args.region c.requires.region in
    let root = x.0 in
    let live = region_parent_live t c.args.region root w.joined c.requires.region x.1 in
    let linked = c.requires.linked root x.1 in
    let visits = subst (AreVisits t (OfRegion c.args.region t) c.in_ok-visits.visits.regions.items) (sym c.deref.ensures.value) c.in_ok-visits.ensures.visits in
    ok_whole c.merge_among.result _ (λ s y. none_new _ _ _ _ g.met.D.Dialect.forwards_operands (OfRegion c.args.region) root (region_lasts c.args.region root) t w live linked (region_starts t c.args.region root c.requires.region x.1) _ _ visits c.merge_among.new.ctx.tree y.0) c.merge_among.ensures.ok

pub returns-clause-blocks : goal.returns-clause-blocks
returns-clause-blocks g c =
    let t = c.args.ctx.now.tree in
    let w = c.well_formed-2.ensures.tree in
    let x = region_has t c.args.region c.requires.region in
    let root = x.0 in
    let live = region_parent_live t c.args.region root w.joined c.requires.region x.1 in
    let linked = c.requires.linked root x.1 in
    let visits = subst (AreVisits t (OfRegion c.args.region t) c.in_ok-visits.visits.regions.items) (sym c.deref.ensures.value) c.in_ok-visits.ensures.visits in
    ok_whole c.merge_among.result _ (λ s y. no_block_new _ _ _ _ g.met.D.Dialect.forwards_operands (OfRegion c.args.region) root (region_lasts c.args.region root) t w live linked (region_starts t c.args.region root c.requires.region x.1) _ _ visits c.merge_among.new.ctx.tree y.0) c.merge_among.ensures.ok
