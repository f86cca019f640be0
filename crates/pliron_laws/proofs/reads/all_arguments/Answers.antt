use Rattle.pliron_core.specs.Tree.{arguments_of}
use Rattle.pliron_laws.proofs.BodyLemmas.{read_more}
use Rattle.pliron_laws.proofs.reads.all_arguments.Goals as goal

pub loop-j-preserved : goal.loop-j-preserved
loop-j-preserved c = read_more (arguments_of c.args.ctx.now.tree c.args.block) c.loop-j.values.items c.push.new.self.items c.loop-j.j c.get_argument.result c.get_argument.ensures.argument c.loop-j.invariant c.in_ok-push.ensures.items
