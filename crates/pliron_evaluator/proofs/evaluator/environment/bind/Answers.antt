use Rattle.std.proofs.Common.{◌∙◌, arith}
use Rattle.pliron_evaluator.specs.Evaluator.{environment_of}
use Rattle.pliron_evaluator.proofs.EvaluatorLemmas.{bind_more, bind_done, bind_refused}
use Rattle.pliron_evaluator.proofs.evaluator.environment.bind.Goals as goal

pub returns-then-values-content : goal.returns-then-values-content
returns-then-values-content c = bind_refused (environment_of c.args.environment.now) c.args.values.now c.args.content.now c.if-values-content.true

pub loop-i-preserved : goal.loop-i-preserved
loop-i-preserved c =
    c.loop-i.invariant ∙ bind_more c.loop-i.environment c.bind_one.new.environment c.args.values.now c.args.content.now c.loop-i.i c.index-values-i.result c.index-content-i.result (omega arith) (omega arith) c.index-values-i.is c.index-content-i.is c.in_ok-bind_one.ensures

pub returns : goal.returns
returns c = c.loop-i.invariant ∙ bind_done (environment_of c.loop-i.environment) c.args.values.now c.args.content.now c.loop-i.i c.loop-i-test.false (omega arith)
