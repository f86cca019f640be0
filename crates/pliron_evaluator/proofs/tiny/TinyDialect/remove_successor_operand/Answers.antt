use Rattle.std.proofs.Common.{sym, subst}
use Rattle.pliron_laws.specs.Answers.{LosesForwarded}
use Rattle.pliron_evaluator.specs.Tiny.{tiny, tiny_shortened}
use Rattle.pliron_evaluator.proofs.TinyLemmas.{place_within, loses_operand}
use Rattle.pliron_evaluator.proofs.tiny.TinyDialect.remove_successor_operand.Goals as goal

pub remove_operand-requires-clause-index : goal.remove_operand-requires-clause-index
remove_operand-requires-clause-index c = place_within c.args.ctx.now.tree c.args.op c.args._i c.args.j c.requires.live c.requires.place

pub returns-clause-lost : goal.returns-clause-lost
returns-clause-lost c =
    let e = c.remove_operand.ensures in
    subst (λ u. LosesForwarded tiny tiny_shortened c.args.ctx.now.tree u c.args.op c.args._i c.args.j c.remove_operand.result) (sym e.tree) (loses_operand c.args.ctx.now.tree c.args.op c.args._i c.args.j c.remove_operand.result e.operand)
