use Rattle.pliron_core.specs.Tree.{results_of}
use Rattle.pliron_opt_cfg.proofs.ListLemmas.{taken_more}
use Rattle.pliron_opt_cfg.proofs.removal.contents.push_results.Goals as goal

pub loop-i-preserved : goal.loop-i-preserved
loop-i-preserved c =
    taken_more (results_of c.args.ctx.now.tree c.args.op) c.loop-i.i c.get_result.result c.args.values.now.items c.loop-i.values.items c.push.new.self.items c.get_result.ensures.value c.loop-i.invariant c.in_ok-push.ensures.items
