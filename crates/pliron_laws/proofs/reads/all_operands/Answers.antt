use Rattle.pliron_core.specs.Tree.{operands_of}
use Rattle.pliron_laws.proofs.BodyLemmas.{read_more}
use Rattle.pliron_laws.proofs.reads.all_operands.Goals as goal

pub loop-j-preserved : goal.loop-j-preserved
loop-j-preserved c = read_more (operands_of c.args.ctx.now.tree c.args.op) c.loop-j.values.items c.push.new.self.items c.loop-j.j c.get_operand.result c.get_operand.ensures.operand c.loop-j.invariant c.in_ok-push.ensures.items
