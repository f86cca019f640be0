use Rattle.pliron_pass.specs.Stage.{stage}
use Rattle.pliron_driver.proofs.RunLemmas.{manages, runs_alone, steps_managed, steps_truly}
use Rattle.pliron_driver.proofs.driver.answer.run_alone.Goals as goal

pub returns-clause-ran : goal.returns-clause-ran
returns-clause-ran g c =
    let made = c.new-analyses.ensures in
    runs_alone _ _ c.args.pipeline.now c.run_pipeline.new.pass c.args.root (stage c.args.ctx.now c.new-analyses.result) (stage c.run_pipeline.new.ctx c.run_pipeline.new.analyses) c.run_pipeline.result made.cache record { count = made.count; skips_none = made.skips; before_none = made.before; after_none = made.after } (steps_managed _ _ _ _ _ c.args.pipeline.now c.run_pipeline.new.pass c.args.root (stage c.args.ctx.now c.new-analyses.result) (stage c.run_pipeline.new.ctx c.run_pipeline.new.analyses) c.run_pipeline.result (manages c.args.pipeline.now) c.run_pipeline.ensures.outcome)

pub returns-clause-truly : goal.returns-clause-truly
returns-clause-truly g c =
    steps_truly _ _ c.pipelines_report_accurately.ensures c.args.pipeline.now c.run_pipeline.new.pass c.args.root (stage c.args.ctx.now c.new-analyses.result) (stage c.run_pipeline.new.ctx c.run_pipeline.new.analyses) c.run_pipeline.result (steps_managed _ _ _ _ _ c.args.pipeline.now c.run_pipeline.new.pass c.args.root (stage c.args.ctx.now c.new-analyses.result) (stage c.run_pipeline.new.ctx c.run_pipeline.new.analyses) c.run_pipeline.result (manages c.args.pipeline.now) c.run_pipeline.ensures.outcome)
