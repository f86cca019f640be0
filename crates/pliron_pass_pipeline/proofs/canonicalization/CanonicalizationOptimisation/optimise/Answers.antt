use Rattle.pliron_theory.proofs.ChangeLemmas.{whole_passes}
use Rattle.pliron_pass_pipeline.proofs.canonicalization.CanonicalizationOptimisation.optimise.Goals as goal

pub returns-clause-change : goal.returns-clause-change
returns-clause-change g c = whole_passes g.D.HasMeaning.meaning c.args.ctx.now.tree c.canonicalize.new.ctx.tree c.args.op c.canonicalize.ensures.change

pub returns-in_err-status-clause-change : goal.returns-in_err-status-clause-change
returns-in_err-status-clause-change g c = whole_passes g.D.HasMeaning.meaning c.args.ctx.now.tree c.canonicalize.new.ctx.tree c.args.op c.canonicalize.ensures.change
