use Rattle.pliron_theory.proofs.ChangeLemmas.{whole_passes}
use Rattle.pliron_pass_pipeline.proofs.EdgeThreadingLemmas.{threaded_truly}
use Rattle.pliron_pass_pipeline.proofs.edge_threading.EdgeThreadingOptimisation.optimise.Goals as goal

pub returns-clause-accurate : goal.returns-clause-accurate
returns-clause-accurate g c = threaded_truly c.args.ctx.now.tree c.thread_edges.new.ctx.tree c.in_ok-status.status c.in_ok-status.ensures.accurate

pub returns-clause-change : goal.returns-clause-change
returns-clause-change g c = whole_passes g.D.HasMeaning.meaning c.args.ctx.now.tree c.thread_edges.new.ctx.tree c.args.op c.thread_edges.ensures.change

pub returns-in_err-status-clause-change : goal.returns-in_err-status-clause-change
returns-in_err-status-clause-change g c = whole_passes g.D.HasMeaning.meaning c.args.ctx.now.tree c.thread_edges.new.ctx.tree c.args.op c.thread_edges.ensures.change
