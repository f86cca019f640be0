use Rattle.std.proofs.Common.{rules, arith}
use Rattle.pliron_text.proofs.CheckLemmas.{below-step, below-end}
use Rattle.pliron_text.proofs.syntax.are_below.Goals as goal

pub loop-number-preserved : goal.loop-number-preserved
loop-number-preserved c = λ rest. below-step c.args.count c.args.numbers.now c.loop-number.number-index c.loop-number-test.true (let no = c.if-number-count.false in search (rules, no)) c.loop-number.invariant rest

pub returns : goal.returns
returns c = λ h. below-end c.args.count c.args.numbers.now c.loop-number.number-index (omega arith) c.loop-number.invariant
