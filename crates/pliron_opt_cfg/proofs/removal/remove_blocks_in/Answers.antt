use Rattle.std.proofs.Common.{inl, sym, subst}
use Rattle.std.proofs.lemmas.Result.{err_from_is_err_and, IfOk-weaker}
use Rattle.pliron_core.specs.Tree.{In, IsLive}
use Rattle.pliron_opt_cfg.specs.Removed.{RemovesSome.Nothing}
use Rattle.pliron_opt_cfg.specs.Internal.Scopes.{start_of_scope}
use Rattle.pliron_opt_cfg.proofs.ScopeLemmas.{holder_is, one_holder}
use Rattle.pliron_opt_cfg.proofs.ClearedSteps.{visits_as, reports_change}
use Rattle.pliron_opt_cfg.proofs.removal.remove_blocks_in.Goals as goal

pub returns-in_err-regions-clause-err : goal.returns-in_err-regions-clause-err
returns-in_err-regions-clause-err g c =
    let p = err_from_is_err_and c.from_residual.result c.from_residual.ensures.1 in
    rw (p.1, p.2) (Nothing, inl c.in_err-regions.ensures.memory)

pub returns-in_err-reached-clause-err : goal.returns-in_err-reached-clause-err
returns-in_err-reached-clause-err g c =
    let p = err_from_is_err_and c.from_residual-in_err-reached.result c.from_residual-in_err-reached.ensures.1 in
    rw (p.1, p.2) (Nothing, inl c.in_err-reached.ensures.memory)

pub returns-in_err-regions-clause-change : goal.returns-in_err-regions-clause-change
returns-in_err-regions-clause-change g c holder y =
    let t = c.args.ctx.now.tree in
    let x = holder_is t c.well_formed-2.ensures.tree c.args.scope.now c.requires.liveness in
    c.whole_passes_compose.ensures.reflexive g.D.HasMeaning.meaning t holder (subst (IsLive t) (one_holder t c.args.scope.now x.0 holder x.1 y) x.2) (c.requires.linked holder y)

pub returns-in_err-reached-clause-change : goal.returns-in_err-reached-clause-change
returns-in_err-reached-clause-change g c holder y =
    let t = c.args.ctx.now.tree in
    let x = holder_is t c.well_formed-2.ensures.tree c.args.scope.now c.requires.liveness in
    c.whole_passes_compose.ensures.reflexive g.D.HasMeaning.meaning t holder (subst (IsLive t) (one_holder t c.args.scope.now x.0 holder x.1 y) x.2) (c.requires.linked holder y)

pub clear_regions-requires-clause-visits : goal.clear_regions-requires-clause-visits
clear_regions-requires-clause-visits g c =
    let t = c.args.ctx.now.tree in
    visits_as t (start_of_scope c.args.scope.now t) c.in_ok-regions.field-0.regions.items c.in_ok-regions.field-0.blocks.items c.in_ok-reached.reached.keys
    (λ b. (λ i. subst (In b) c.deref.ensures.value ((c.in_ok-reached.ensures.keys b).0 i), λ i. (c.in_ok-reached.ensures.keys b).1 (subst (In b) (sym c.deref.ensures.value) i)))
    c.in_ok-regions.ensures.visits

pub returns-clause-accurate : goal.returns-clause-accurate
returns-clause-accurate g c = IfOk-weaker c.clear_regions.result _ _ (reports_change (start_of_scope c.args.scope.now) c.args.ctx.now.tree c.clear_regions.new.ctx.tree) c.clear_regions.ensures.ok

pub visits-requires-clause-edges : goal.visits-requires-clause-edges
visits-requires-clause-edges g c = λ holder y. (c.requires.linked holder y).edges
