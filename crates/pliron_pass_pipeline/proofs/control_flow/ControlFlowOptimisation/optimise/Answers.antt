use Rattle.pliron_theory.proofs.ChangeLemmas.{whole_passes}
use Rattle.pliron_pass_pipeline.proofs.ControlFlowLemmas.{simplified_truly}
use Rattle.pliron_pass_pipeline.proofs.control_flow.ControlFlowOptimisation.optimise.Goals as goal

pub returns-clause-accurate : goal.returns-clause-accurate
returns-clause-accurate g c = simplified_truly g.D.HasMeaning.meaning g.D.ConstFoldInterface.can_fold g.D.BranchOpFoldInterface.can_fold_branch g.D.ConstFoldInterface.constants g.D.BranchOpFoldInterface.outcome c.args.op c.args.ctx.now.tree c.simplify_cfg.new.ctx.tree c.in_ok-status.status c.in_ok-status.ensures.ok

pub returns-clause-change : goal.returns-clause-change
returns-clause-change g c = whole_passes g.D.HasMeaning.meaning c.args.ctx.now.tree c.simplify_cfg.new.ctx.tree c.args.op c.simplify_cfg.ensures.change

pub returns-in_err-status-clause-change : goal.returns-in_err-status-clause-change
returns-in_err-status-clause-change g c = whole_passes g.D.HasMeaning.meaning c.args.ctx.now.tree c.simplify_cfg.new.ctx.tree c.args.op c.simplify_cfg.ensures.change
