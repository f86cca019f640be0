use Rattle.std.proofs.Common.{sym, subst, inl}
use Rattle.pliron_laws.proofs.FoldLemmas.{on_err}
use Rattle.pliron_opt_cfg.specs.Merged.{MergesSome.Nothing}
use Rattle.pliron_opt_cfg.specs.Visited.{OfOperation}
use Rattle.pliron_opt_cfg.specs.Visits.{AreVisits}
use Rattle.pliron_theory.proofs.WholeChanges.{whole_refl}
use Rattle.std.proofs.lemmas.Result.{IfOk-weaker}
use Rattle.pliron_opt_cfg.proofs.Whole.{own_region, operation_lasts, all_linked, all_merged, partly, partly_change, partly_links, either_way, err_weaker, none_new, no_block_new, branch_went, ok_whole}
use Rattle.pliron_opt_cfg.proofs.merging.merge_inside_op.Goals as goal

pub merge_among-requires : goal.merge_among-requires
merge_among-requires g c =
    let t = c.args.ctx.now.tree in
    let op = c.args.op in
    let w = c.well_formed-2.ensures.tree in
    let visits = subst (AreVisits t (OfOperation op t) c.in_ok-visits.visits.regions.items) (sym c.deref.ensures.value) c.in_ok-visits.ensures.visits in
    record { linked = all_linked _ _ _ _ g.met.D.Dialect.forwards_operands (OfOperation op) op (operation_lasts op) t w c.requires.live c.requires.linked (λ r i. own_region t w op r i) _ _ visits }

pub returns-clause-ok : goal.returns-clause-ok
returns-clause-ok g c =
    let t = c.args.ctx.now.tree in
    let op = c.args.op in
    let w = c.well_formed-2.ensures.tree in
    let visits = subst (AreVisits t (OfOperation op t) c.in_ok-visits.visits.regions.items) (sym c.deref.ensures.value) c.in_ok-visits.ensures.visits in
    IfOk-weaker c.merge_among.result _ _ (λ s x. all_merged _ _ _ _ g.met.D.Dialect.forwards_operands (OfOperation op) op (operation_lasts op) t w c.requires.live c.requires.linked (λ r i. own_region t w op r i) _ _ visits c.merge_among.new.ctx.tree s x) c.merge_among.ensures.ok

pub returns-clause-refused : goal.returns-clause-refused
returns-clause-refused g c =
    let t = c.args.ctx.now.tree in
    let op = c.args.op in
    let w = c.well_formed-2.ensures.tree in
    let visits = subst (AreVisits t (OfOperation op t) c.in_ok-visits.visits.regions.items) (sym c.deref.ensures.value) c.in_ok-visits.ensures.visits in
    err_weaker c.merge_among.result (λ x. partly _ _ _ _ g.met.D.Dialect.forwards_operands (OfOperation op) op (operation_lasts op) t w c.requires.live c.requires.linked (λ r i. own_region t w op r i) _ _ visits c.merge_among.new.ctx.tree x) c.merge_among.ensures.refused

pub returns-clause-change : goal.returns-clause-change
returns-clause-change g c =
    let t = c.args.ctx.now.tree in
    let op = c.args.op in
    let w = c.well_formed-2.ensures.tree in
    let visits = subst (AreVisits t (OfOperation op t) c.in_ok-visits.visits.regions.items) (sym c.deref.ensures.value) c.in_ok-visits.ensures.visits in
    partly_change _ _ _ _ g.met.D.Dialect.forwards_operands (OfOperation op) op (operation_lasts op) t w c.requires.live c.requires.linked (λ r i. own_region t w op r i) _ _ visits c.merge_among.new.ctx.tree (either_way g.D.HasMeaning.meaning _ t c.merge_among.new.ctx.tree c.merge_among.result c.merge_among.ensures.ok c.merge_among.ensures.refused)

pub returns-clause-links : goal.returns-clause-links
returns-clause-links g c =
    let t = c.args.ctx.now.tree in
    let op = c.args.op in
    let w = c.well_formed-2.ensures.tree in
    let visits = subst (AreVisits t (OfOperation op t) c.in_ok-visits.visits.regions.items) (sym c.deref.ensures.value) c.in_ok-visits.ensures.visits in
    partly_links _ _ _ _ g.met.D.Dialect.forwards_operands (OfOperation op) op (operation_lasts op) t w c.requires.live c.requires.linked (λ r i. own_region t w op r i) _ _ visits c.merge_among.new.ctx.tree (either_way g.D.HasMeaning.meaning _ t c.merge_among.new.ctx.tree c.merge_among.result c.merge_among.ensures.ok c.merge_among.ensures.refused)

pub returns-in_err-visits-clause-change : goal.returns-in_err-visits-clause-change
returns-in_err-visits-clause-change g c = whole_refl g.D.HasMeaning.meaning c.args.ctx.now.tree c.args.op c.requires.live c.requires.linked

pub returns-in_err-visits-clause-refused : goal.returns-in_err-visits-clause-refused
returns-in_err-visits-clause-refused g c = on_err _ c.from_residual.result (inl Nothing)

pub returns-clause-loses_operation : goal.returns-clause-loses_operation
returns-clause-loses_operation g c =
    let t = c.args.ctx.now.tree in
    let op = c.args.op in
    let w = c.well_formed-2.ensures.tree in
    let visits = subst (AreVisits t (OfOperation op t) c.in_ok-visits.visits.regions.items) (sym c.deref.ensures.value) c.in_ok-visits.ensures.visits in
    IfOk-weaker c.merge_among.result _ _ (λ s x. branch_went _ _ _ _ g.met.D.Dialect.forwards_operands (OfOperation op) op (operation_lasts op) t w c.requires.live c.requires.linked (λ r i. own_region t w op r i) _ _ visits c.merge_among.new.ctx.tree s x) c.merge_among.ensures.ok

pub returns-clause-unreachable : goal.returns-clause-unreachable
returns-clause-unreachable g c =
    let t = c.args.ctx.now.tree in
    let op = c.args.op in
    let w = c.well_formed-2.ensures.tree in
    let visits = subst (AreVisits t (OfOperation op t) c.in_ok-visits.visits.regions.items) (sym c.deref.ensures.value) c.in_ok-visits.ensures.visits in
    ok_whole c.merge_among.result _ (λ s x. none_new _ _ _ _ g.met.D.Dialect.forwards_operands (OfOperation op) op (operation_lasts op) t w c.requires.live c.requires.linked (λ r i. own_region t w op r i) _ _ visits c.merge_among.new.ctx.tree x.0) c.merge_among.ensures.ok

pub returns-clause-blocks : goal.returns-clause-blocks
returns-clause-blocks g c =
    let t = c.args.ctx.now.tree in
    let op = c.args.op in
    let w = c.well_formed-2.ensures.tree in
    let visits = subst (AreVisits t (OfOperation op t) c.in_ok-visits.visits.regions.items) (sym c.deref.ensures.value) c.in_ok-visits.ensures.visits in
    ok_whole c.merge_among.result _ (λ s x. no_block_new _ _ _ _ g.met.D.Dialect.forwards_operands (OfOperation op) op (operation_lasts op) t w c.requires.live c.requires.linked (λ r i. own_region t w op r i) _ _ visits c.merge_among.new.ctx.tree x.0) c.merge_among.ensures.ok
