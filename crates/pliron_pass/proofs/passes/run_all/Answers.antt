use Rattle.std.proofs.Common.{rules, ◌≡◌, ◌<◌, ◌≤◌, ◌+◌, ◌++◌, ◌∷◌, [], Err, length, take, drop, slice_set, sym, subst, ◌∙◌, refl, arith, length-set}
use Rattle.std.proofs.lemmas.List.{take_all}
use Rattle.pliron_core.specs.Status.{changed_by_either}
use Rattle.pliron_pass.specs.Outcome.{RunsPass}
use Rattle.pliron_pass.specs.Stage.{stage}
use Rattle.pliron_pass.specs.Verifying.{IsFirstFault, verdict_by}
use Rattle.pliron_pass.proofs.PassesLemmas.{turn_before, turn_after, turn_left, turn_whole, turn_now}
use Rattle.pliron_theory.proofs.ChangeLemmas.{change_refl, change_trans}
use Rattle.pliron_pass.specs.Combined.{RunsEach, RunsEach.EachNone, RunsEach.EachNext, FailsEach.EachFails}
use Rattle.pliron_pass.proofs.passes.run_all.Goals as goal

pub loop-i-init : goal.loop-i-init
loop-i-init g c = record {
  change = change_refl g.P.D.HasMeaning.meaning c.args.ctx.now.tree c.args.op c.requires.live c.requires.linked;
  fresh = λ f. f;
  same_length = refl;
  rest = refl;
  ran = EachNone;
}

pub index_mut-requires : goal.index_mut-requires
index_mut-requires g c = omega (arith, c.loop-i.invariant.same_length, c.len-i-end.ensures, c.loop-i-test.true)

pub loop-i-preserved : goal.loop-i-preserved
loop-i-preserved g c =
    let lt : c.loop-i.i < length c.loop-i.passes.items = omega (arith, c.loop-i.invariant.same_length, c.len-i-end.ensures, c.loop-i-test.true) in
    let step = EachNext c.index_mut.result.now c.run_pipeline.new.pass (stage c.run_pipeline.new.ctx c.run_pipeline.new.analyses) c.in_ok-run_pipeline.field-0 c.loop-i.invariant.ran c.in_ok-run_pipeline.ensures.outcome in
    record {
      change = change_trans g.P.D.HasMeaning.meaning c.args.ctx.now.tree c.loop-i.ctx.tree c.run_pipeline.new.ctx.tree c.args.op c.loop-i.invariant.change c.in_ok-run_pipeline.ensures.change;
      fresh = λ f. c.in_ok-run_pipeline.ensures.fresh (c.loop-i.invariant.fresh f);
      same_length = length-set c.loop-i.passes.items c.loop-i.i c.run_pipeline.new.pass ∙ c.loop-i.invariant.same_length;
      rest = turn_left c.args.passes.now.items c.loop-i.passes.items c.loop-i.i c.index_mut.result.now c.run_pipeline.new.pass c.loop-i.invariant.same_length c.loop-i.invariant.rest lt (sym c.index_mut.ensures.value);
      ran = subst (λ z. RunsEach g.P.E.Kind.PartialEq.eq (RunsPass g.P.Pass.name g.P.Pass.outcome (IsFirstFault g.P.D.Dialect.has_interface (verdict_by g.P.D.SideEffects.verdict g.P.D.BlockArgRemoval.verdict g.P.D.ConstFoldInterface.verdict g.P.D.BranchOpFoldInterface.verdict g.P.D.RegionBranchOpInterface.verdict)) g.P.Pass.is_pass_manager) c.args.op (stage c.args.ctx.now c.args.analyses.now) (take (c.loop-i.i + 1) c.args.passes.now.items) (take (c.loop-i.i + 1) (slice_set c.loop-i.passes.items c.loop-i.i c.run_pipeline.new.pass)) (stage c.run_pipeline.new.ctx c.run_pipeline.new.analyses) z) (sym c.bitor_assign.ensures.after)
          (subst (λ z. RunsEach g.P.E.Kind.PartialEq.eq (RunsPass g.P.Pass.name g.P.Pass.outcome (IsFirstFault g.P.D.Dialect.has_interface (verdict_by g.P.D.SideEffects.verdict g.P.D.BlockArgRemoval.verdict g.P.D.ConstFoldInterface.verdict g.P.D.BranchOpFoldInterface.verdict g.P.D.RegionBranchOpInterface.verdict)) g.P.Pass.is_pass_manager) c.args.op (stage c.args.ctx.now c.args.analyses.now) z (take (c.loop-i.i + 1) (slice_set c.loop-i.passes.items c.loop-i.i c.run_pipeline.new.pass)) (stage c.run_pipeline.new.ctx c.run_pipeline.new.analyses) (changed_by_either c.loop-i.changed c.in_ok-run_pipeline.field-0)) (sym (turn_before c.args.passes.now.items c.loop-i.passes.items c.loop-i.i c.index_mut.result.now c.run_pipeline.new.pass c.loop-i.invariant.same_length c.loop-i.invariant.rest lt (sym c.index_mut.ensures.value)))
          (subst (λ z. RunsEach g.P.E.Kind.PartialEq.eq (RunsPass g.P.Pass.name g.P.Pass.outcome (IsFirstFault g.P.D.Dialect.has_interface (verdict_by g.P.D.SideEffects.verdict g.P.D.BlockArgRemoval.verdict g.P.D.ConstFoldInterface.verdict g.P.D.BranchOpFoldInterface.verdict g.P.D.RegionBranchOpInterface.verdict)) g.P.Pass.is_pass_manager) c.args.op (stage c.args.ctx.now c.args.analyses.now) (take c.loop-i.i c.args.passes.now.items ++ c.index_mut.result.now ∷ []) z (stage c.run_pipeline.new.ctx c.run_pipeline.new.analyses) (changed_by_either c.loop-i.changed c.in_ok-run_pipeline.field-0)) (sym (turn_after c.args.passes.now.items c.loop-i.passes.items c.loop-i.i c.index_mut.result.now c.run_pipeline.new.pass c.loop-i.invariant.same_length c.loop-i.invariant.rest lt (sym c.index_mut.ensures.value))) step));
    }

pub returns-in_err-run_pipeline-clause-change : goal.returns-in_err-run_pipeline-clause-change
returns-in_err-run_pipeline-clause-change g c = change_trans g.P.D.HasMeaning.meaning c.args.ctx.now.tree c.loop-i.ctx.tree c.run_pipeline.new.ctx.tree c.args.op c.loop-i.invariant.change c.in_err-run_pipeline.ensures.change

pub returns-in_err-run_pipeline-clause-outcome : goal.returns-in_err-run_pipeline-clause-outcome
returns-in_err-run_pipeline-clause-outcome g c =
    let lt : c.loop-i.i < length c.loop-i.passes.items = omega (arith, c.loop-i.invariant.same_length, c.len-i-end.ensures, c.loop-i-test.true) in
    let e : c.from_residual.result ≡ Err c.in_err-run_pipeline.field-0.0 = search rules in
    rw e (EachFails (take c.loop-i.i c.args.passes.now.items) (take c.loop-i.i c.loop-i.passes.items) (drop (c.loop-i.i + 1) c.args.passes.now.items) c.index_mut.result.now c.run_pipeline.new.pass (stage c.loop-i.ctx c.loop-i.analyses) c.loop-i.changed (turn_whole c.args.passes.now.items c.loop-i.passes.items c.loop-i.i c.index_mut.result.now c.run_pipeline.new.pass c.loop-i.invariant.same_length c.loop-i.invariant.rest lt (sym c.index_mut.ensures.value)) (turn_now c.args.passes.now.items c.loop-i.passes.items c.loop-i.i c.index_mut.result.now c.run_pipeline.new.pass c.loop-i.invariant.same_length c.loop-i.invariant.rest lt (sym c.index_mut.ensures.value)) c.loop-i.invariant.ran c.in_err-run_pipeline.ensures.outcome)

pub returns-clause-outcome : goal.returns-clause-outcome
returns-clause-outcome g c =
    let all : length c.args.passes.now.items ≤ c.loop-i.i = omega (arith, c.len-i-end.ensures, c.loop-i-test.false) in
    let now : length c.loop-i.passes.items ≤ c.loop-i.i = omega (arith, c.loop-i.invariant.same_length, all) in
    subst (λ z. RunsEach g.P.E.Kind.PartialEq.eq (RunsPass g.P.Pass.name g.P.Pass.outcome (IsFirstFault g.P.D.Dialect.has_interface (verdict_by g.P.D.SideEffects.verdict g.P.D.BlockArgRemoval.verdict g.P.D.ConstFoldInterface.verdict g.P.D.BranchOpFoldInterface.verdict g.P.D.RegionBranchOpInterface.verdict)) g.P.Pass.is_pass_manager) c.args.op (stage c.args.ctx.now c.args.analyses.now) z c.loop-i.passes.items (stage c.loop-i.ctx c.loop-i.analyses) c.loop-i.changed) (take_all c.loop-i.i c.args.passes.now.items all)
    (subst (λ z. RunsEach g.P.E.Kind.PartialEq.eq (RunsPass g.P.Pass.name g.P.Pass.outcome (IsFirstFault g.P.D.Dialect.has_interface (verdict_by g.P.D.SideEffects.verdict g.P.D.BlockArgRemoval.verdict g.P.D.ConstFoldInterface.verdict g.P.D.BranchOpFoldInterface.verdict g.P.D.RegionBranchOpInterface.verdict)) g.P.Pass.is_pass_manager) c.args.op (stage c.args.ctx.now c.args.analyses.now) (take c.loop-i.i c.args.passes.now.items) z (stage c.loop-i.ctx c.loop-i.analyses) c.loop-i.changed) (take_all c.loop-i.i c.loop-i.passes.items now) c.loop-i.invariant.ran)
