use Rattle.pliron_theory.proofs.ChangeLemmas.{whole_passes}
use Rattle.pliron_pass_pipeline.proofs.DeadCodeLemmas.{eliminated}
use Rattle.pliron_pass_pipeline.proofs.dead_code.DeadCodeOptimisation.optimise.Goals as goal

pub returns-clause-outcome : goal.returns-clause-outcome
returns-clause-outcome g c =
    eliminated g.D.HasMeaning.meaning g.D.Dialect.shortened g.D.SideEffects.side_effects g.D.BlockArgRemoval.removable c.args.ctx.now.tree c.dce_with_regions.new.ctx.tree c.args.op c.in_ok-status.status c.in_ok-status.took_regions c.in_ok-status.ensures.deleted c.in_ok-status.ensures.none c.in_ok-status.ensures.status

pub returns-clause-change : goal.returns-clause-change
returns-clause-change g c = whole_passes g.D.HasMeaning.meaning c.args.ctx.now.tree c.dce_with_regions.new.ctx.tree c.args.op c.dce_with_regions.ensures.change

pub returns-in_err-status-clause-change : goal.returns-in_err-status-clause-change
returns-in_err-status-clause-change g c = whole_passes g.D.HasMeaning.meaning c.args.ctx.now.tree c.dce_with_regions.new.ctx.tree c.args.op c.dce_with_regions.ensures.change
