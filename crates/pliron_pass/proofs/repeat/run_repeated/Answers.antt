use Rattle.std.proofs.Common.{rules, ◌<◌, ◌≡◌, ◌≤◌, Err, refl, arith, sym, subst}
use Rattle.pliron_pass.specs.Repeating.{Repeats, Repeats.NoRun, Repeats.OneMore, RepeatsTo, RepeatsTo.Full, RepeatsTo.Settled, RepeatsTo.Failed}
use Rattle.pliron_theory.proofs.ChangeLemmas.{change_refl, change_trans}
use Rattle.pliron_pass.proofs.repeat.run_repeated.Goals as goal

pub loop-repeat-init : goal.loop-repeat-init
loop-repeat-init g c = record {
  change = change_refl g.P.D.HasMeaning.meaning c.args.ctx.now.tree c.args.op c.requires.live c.requires.linked;
  fresh = λ f. f;
  ran = NoRun;
  max = refl;
  at_most = omega arith;
}

pub returns-in_err-run_pipeline-clause-change : goal.returns-in_err-run_pipeline-clause-change
returns-in_err-run_pipeline-clause-change g c = change_trans g.P.D.HasMeaning.meaning c.args.ctx.now.tree c.loop-repeat.ctx.tree c.run_pipeline.new.ctx.tree c.args.op c.loop-repeat.invariant.change c.in_err-run_pipeline.ensures.change

pub returns-in_err-run_pipeline-clause-outcome : goal.returns-in_err-run_pipeline-clause-outcome
returns-in_err-run_pipeline-clause-outcome g c =
    let e : c.from_residual.result ≡ Err c.in_err-run_pipeline.field-0.0 = search rules in
    Failed c.in_err-run_pipeline.field-0.0 c.loop-repeat.changed c.loop-repeat.repeat.runs c.loop-repeat.repeat.pass _ e refl (subst (λ z. c.loop-repeat.repeat.runs < z) c.loop-repeat.invariant.max c.loop-repeat-test.true) c.loop-repeat.invariant.ran c.in_err-run_pipeline.ensures.outcome

pub returns-in-Unchanged-clause-change : goal.returns-in-Unchanged-clause-change
returns-in-Unchanged-clause-change g c = change_trans g.P.D.HasMeaning.meaning c.args.ctx.now.tree c.loop-repeat.ctx.tree c.run_pipeline.new.ctx.tree c.args.op c.loop-repeat.invariant.change c.in_ok-run_pipeline.ensures.change

pub returns-in-Unchanged-clause-outcome : goal.returns-in-Unchanged-clause-outcome
returns-in-Unchanged-clause-outcome g c = Settled c.loop-repeat.changed c.loop-repeat.repeat.runs c.loop-repeat.repeat.pass _ refl refl (subst (λ z. c.loop-repeat.repeat.runs < z) c.loop-repeat.invariant.max c.loop-repeat-test.true) c.loop-repeat.invariant.ran (rw c.in-Unchanged.is at c.in_ok-run_pipeline.ensures.outcome)

pub loop-repeat-preserved : goal.loop-repeat-preserved
loop-repeat-preserved g c = record {
  change = change_trans g.P.D.HasMeaning.meaning c.args.ctx.now.tree c.loop-repeat.ctx.tree c.run_pipeline.new.ctx.tree c.args.op c.loop-repeat.invariant.change c.in_ok-run_pipeline.ensures.change;
  fresh = λ f. c.in_ok-run_pipeline.ensures.fresh (c.loop-repeat.invariant.fresh f);
  ran = OneMore c.run_pipeline.new.pass _ c.loop-repeat.invariant.ran (rw c.in-Changed.is at c.in_ok-run_pipeline.ensures.outcome);
  max = c.loop-repeat.invariant.max;
  at_most = omega (arith, c.loop-repeat-test.true);
}

pub returns-clause-outcome : goal.returns-clause-outcome
returns-clause-outcome g c = Full c.loop-repeat.changed refl (omega (arith, c.loop-repeat.invariant.max, c.loop-repeat.invariant.at_most, c.loop-repeat-test.false)) c.loop-repeat.invariant.ran
