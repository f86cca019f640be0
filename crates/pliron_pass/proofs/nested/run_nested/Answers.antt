use Rattle.std.proofs.Common.{rules, ◌≡◌, ◌<◌, length, sym, subst, refl, ◌∙◌, Err, Some}
use Rattle.pliron_core.specs.Tree.{parent_operation_of}
use Rattle.pliron_core.specs.Walks.{children}
use Rattle.pliron_core.specs.WalkSteps.{rest_from}
use Rattle.pliron_core.proofs.WalkLemmas.{distinct-children, In-children}
use Rattle.pliron_core.specs.Lists.{In, next_in}
use Rattle.pliron_core.proofs.ReadLemmas.{In-first, In-next}
use Rattle.pliron_pass.specs.Stage.{stage}
use Rattle.pliron_pass.specs.Outcome.{RunsPass}
use Rattle.pliron_pass.specs.Verifying.{IsFirstFault, verdict_by}
use Rattle.pliron_theory.proofs.ChangeLemmas.{change_refl, change_trans}
use Rattle.pliron_pass.proofs.NestedLemmas.{HasRun, run_none, run_more, run_fails, run_all}
use Rattle.pliron_pass.proofs.VerifyLemmas.{rest_smaller}
use Rattle.pliron_pass.proofs.nested.run_nested.Goals as goal

pub loop-at-init : goal.loop-at-init
loop-at-init g c =
    let t = c.args.ctx.now.tree in
    record {
      change = change_refl g.P.D.HasMeaning.meaning t c.args.op c.requires.live c.requires.linked;
      still = refl;
      held = λ k e. (In-children t c.well_formed-2.ensures.tree k c.args.op).0 (In-first (children t c.args.op) k (sym c.first_inside-at.ensures ∙ e));
      listed = λ k e. In-first (children t c.args.op) k (sym c.first_inside-at.ensures ∙ e);
      fresh = λ f. f;
      ran = run_none g.P.E.Kind.PartialEq.eq _ (children t c.args.op) c.first_inside-at.result c.args.pass.now (stage c.args.ctx.now c.args.analyses.now) c.first_inside-at.ensures;
    }

pub run_held-requires-clause-linked : goal.run_held-requires-clause-linked
run_held-requires-clause-linked g c = c.loop-at.invariant.change.linked

pub run_held-requires-clause-held : goal.run_held-requires-clause-held
run_held-requires-clause-held g c = c.loop-at.invariant.held c.in-Some.inner c.in-Some.is

pub returns-in_err-run_held-clause-change : goal.returns-in_err-run_held-clause-change
returns-in_err-run_held-clause-change g c = change_trans g.P.D.HasMeaning.meaning c.args.ctx.now.tree c.loop-at.ctx.tree c.run_held.new.ctx.tree c.args.op c.loop-at.invariant.change c.in_err-run_held.ensures.change

pub returns-in_err-run_held-clause-outcome : goal.returns-in_err-run_held-clause-outcome
returns-in_err-run_held-clause-outcome g c =
    let t = c.args.ctx.now.tree in
    let w = c.well_formed-2.ensures.tree in
    let eq = g.P.E.Kind.PartialEq.eq in
    let member = c.loop-at.invariant.listed c.in-Some.inner c.in-Some.is in
    let ran = subst (λ o. HasRun g.P.E.Kind.PartialEq.eq (RunsPass g.P.Pass.name g.P.Pass.outcome (IsFirstFault g.P.D.Dialect.has_interface (verdict_by g.P.D.SideEffects.verdict g.P.D.BlockArgRemoval.verdict g.P.D.ConstFoldInterface.verdict g.P.D.BranchOpFoldInterface.verdict g.P.D.RegionBranchOpInterface.verdict)) g.P.Pass.is_pass_manager) (children c.args.ctx.now.tree c.args.op) o c.args.pass.now (stage c.args.ctx.now c.args.analyses.now) c.loop-at.pass (stage c.loop-at.ctx c.loop-at.analyses) c.loop-at.changed) c.in-Some.is c.loop-at.invariant.ran in
    let e : c.from_residual.result ≡ Err c.in_err-run_held.field-0.0 = search rules in
    rw e (run_fails eq (RunsPass g.P.Pass.name g.P.Pass.outcome (IsFirstFault g.P.D.Dialect.has_interface (verdict_by g.P.D.SideEffects.verdict g.P.D.BlockArgRemoval.verdict g.P.D.ConstFoldInterface.verdict g.P.D.BranchOpFoldInterface.verdict g.P.D.RegionBranchOpInterface.verdict)) g.P.Pass.is_pass_manager) (children t c.args.op) c.in-Some.inner c.args.pass.now c.loop-at.pass c.run_held.new.pass (stage c.args.ctx.now c.args.analyses.now) (stage c.loop-at.ctx c.loop-at.analyses) (stage c.run_held.new.ctx c.run_held.new.analyses) c.loop-at.changed c.in_err-run_held.field-0.0 (distinct-children t w c.args.op) member ran c.in_err-run_held.ensures.outcome)

pub loop-at-smaller : goal.loop-at-smaller
loop-at-smaller g c =
    let t = c.args.ctx.now.tree in
    let w = c.well_formed-2.ensures.tree in
    let u = c.run_held.new.ctx.tree in
    let same = c.in_ok-run_held.ensures.children ∙ c.loop-at.invariant.still in
    let held = c.in_ok-run_held.ensures.held in
    let member = c.loop-at.invariant.listed c.in-Some.inner c.in-Some.is in
    let next = subst (λ xs. c.next_beside-at.result ≡ next_in c.in-Some.inner xs) same (c.next_beside-at.ensures c.args.op held) in
    subst (λ o. length (rest_from c.next_beside-at.result (children t c.args.op)) < length (rest_from o (children t c.args.op))) (sym c.in-Some.is)
    (rest_smaller (children t c.args.op) c.in-Some.inner c.next_beside-at.result (distinct-children t w c.args.op) member next)

pub loop-at-preserved : goal.loop-at-preserved
loop-at-preserved g c =
    let t = c.args.ctx.now.tree in
    let w = c.well_formed-2.ensures.tree in
    let u = c.run_held.new.ctx.tree in
    let eq = g.P.E.Kind.PartialEq.eq in
    let same = c.in_ok-run_held.ensures.children ∙ c.loop-at.invariant.still in
    let held = c.in_ok-run_held.ensures.held in
    let member = c.loop-at.invariant.listed c.in-Some.inner c.in-Some.is in
    let next = subst (λ xs. c.next_beside-at.result ≡ next_in c.in-Some.inner xs) same (c.next_beside-at.ensures c.args.op held) in
    let ran = subst (λ o. HasRun g.P.E.Kind.PartialEq.eq (RunsPass g.P.Pass.name g.P.Pass.outcome (IsFirstFault g.P.D.Dialect.has_interface (verdict_by g.P.D.SideEffects.verdict g.P.D.BlockArgRemoval.verdict g.P.D.ConstFoldInterface.verdict g.P.D.BranchOpFoldInterface.verdict g.P.D.RegionBranchOpInterface.verdict)) g.P.Pass.is_pass_manager) (children c.args.ctx.now.tree c.args.op) o c.args.pass.now (stage c.args.ctx.now c.args.analyses.now) c.loop-at.pass (stage c.loop-at.ctx c.loop-at.analyses) c.loop-at.changed) c.in-Some.is c.loop-at.invariant.ran in
    record {
      change = change_trans g.P.D.HasMeaning.meaning t c.loop-at.ctx.tree u c.args.op c.loop-at.invariant.change c.in_ok-run_held.ensures.change;
      still = same;
      held = λ k e. (In-children u c.well_formed-in-Some.ensures.tree k c.args.op).0 (In-next c.in-Some.inner (children u c.args.op) k (sym (c.next_beside-at.ensures c.args.op held) ∙ e));
      listed = λ k e. In-next c.in-Some.inner (children t c.args.op) k (sym next ∙ e);
      fresh = λ f. c.in_ok-run_held.ensures.fresh (c.loop-at.invariant.fresh f);
      ran = subst (λ z. HasRun g.P.E.Kind.PartialEq.eq (RunsPass g.P.Pass.name g.P.Pass.outcome (IsFirstFault g.P.D.Dialect.has_interface (verdict_by g.P.D.SideEffects.verdict g.P.D.BlockArgRemoval.verdict g.P.D.ConstFoldInterface.verdict g.P.D.BranchOpFoldInterface.verdict g.P.D.RegionBranchOpInterface.verdict)) g.P.Pass.is_pass_manager) (children c.args.ctx.now.tree c.args.op) c.next_beside-at.result c.args.pass.now (stage c.args.ctx.now c.args.analyses.now) c.run_held.new.pass (stage c.run_held.new.ctx c.run_held.new.analyses) z) (sym c.bitor_assign.ensures.after) (run_more eq (RunsPass g.P.Pass.name g.P.Pass.outcome (IsFirstFault g.P.D.Dialect.has_interface (verdict_by g.P.D.SideEffects.verdict g.P.D.BlockArgRemoval.verdict g.P.D.ConstFoldInterface.verdict g.P.D.BranchOpFoldInterface.verdict g.P.D.RegionBranchOpInterface.verdict)) g.P.Pass.is_pass_manager) (children t c.args.op) c.in-Some.inner c.next_beside-at.result c.args.pass.now c.loop-at.pass c.run_held.new.pass (stage c.args.ctx.now c.args.analyses.now) (stage c.loop-at.ctx c.loop-at.analyses) (stage c.run_held.new.ctx c.run_held.new.analyses) c.loop-at.changed c.in_ok-run_held.field-0 (distinct-children t w c.args.op) member next ran c.in_ok-run_held.ensures.outcome);
    }

pub returns-clause-change : goal.returns-clause-change
returns-clause-change g c = c.loop-at.invariant.change

pub returns-clause-fresh : goal.returns-clause-fresh
returns-clause-fresh g c = c.loop-at.invariant.fresh

pub returns-clause-outcome : goal.returns-clause-outcome
returns-clause-outcome g c =
    let ran = subst (λ o. HasRun g.P.E.Kind.PartialEq.eq (RunsPass g.P.Pass.name g.P.Pass.outcome (IsFirstFault g.P.D.Dialect.has_interface (verdict_by g.P.D.SideEffects.verdict g.P.D.BlockArgRemoval.verdict g.P.D.ConstFoldInterface.verdict g.P.D.BranchOpFoldInterface.verdict g.P.D.RegionBranchOpInterface.verdict)) g.P.Pass.is_pass_manager) (children c.args.ctx.now.tree c.args.op) o c.args.pass.now (stage c.args.ctx.now c.args.analyses.now) c.loop-at.pass (stage c.loop-at.ctx c.loop-at.analyses) c.loop-at.changed) c.in_default.is c.loop-at.invariant.ran in
    run_all g.P.E.Kind.PartialEq.eq (RunsPass g.P.Pass.name g.P.Pass.outcome (IsFirstFault g.P.D.Dialect.has_interface (verdict_by g.P.D.SideEffects.verdict g.P.D.BlockArgRemoval.verdict g.P.D.ConstFoldInterface.verdict g.P.D.BranchOpFoldInterface.verdict g.P.D.RegionBranchOpInterface.verdict)) g.P.Pass.is_pass_manager) (children c.args.ctx.now.tree c.args.op) c.args.pass.now c.loop-at.pass (stage c.args.ctx.now c.args.analyses.now) (stage c.loop-at.ctx c.loop-at.analyses) c.loop-at.changed ran
