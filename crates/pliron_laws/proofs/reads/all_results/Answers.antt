use Rattle.pliron_core.specs.Tree.{results_of}
use Rattle.pliron_laws.proofs.BodyLemmas.{read_more}
use Rattle.pliron_laws.proofs.reads.all_results.Goals as goal

pub loop-j-preserved : goal.loop-j-preserved
loop-j-preserved c = read_more (results_of c.args.ctx.now.tree c.args.op) c.loop-j.values.items c.push.new.self.items c.loop-j.j c.get_result.result c.get_result.ensures.value c.loop-j.invariant c.in_ok-push.ensures.items
