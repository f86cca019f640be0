use Rattle.pliron_core.specs.Tree.{arguments_of}
use Rattle.pliron_opt_cfg.proofs.ListLemmas.{taken_more}
use Rattle.pliron_opt_cfg.proofs.removal.contents.push_arguments.Goals as goal

pub loop-i-preserved : goal.loop-i-preserved
loop-i-preserved c =
    taken_more (arguments_of c.args.ctx.now.tree c.args.block) c.loop-i.i c.get_argument.result c.args.values.now.items c.loop-i.values.items c.push.new.self.items c.get_argument.ensures.argument c.loop-i.invariant c.in_ok-push.ensures.items
