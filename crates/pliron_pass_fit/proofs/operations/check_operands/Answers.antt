use Rattle.std.proofs.Common.{◌≤◌, length, arith}
use Rattle.pliron_core.specs.Tree.{operands_of}
use Rattle.pliron_core.specs.Changes.{IsDefinedInside}
use Rattle.pliron_laws.proofs.AnswerLemmas.{refuted}
use Rattle.pliron_pass_fit.proofs.CheckLemmas.{at_each, one_more_at}
use Rattle.pliron_pass_fit.proofs.operations.check_operands.Goals as goal

pub returns-then-not-is_defined_inside-clause-err : goal.returns-then-not-is_defined_inside-clause-err
returns-then-not-is_defined_inside-clause-err g c =
    (c.requires.inside, (c.get_operand.result, c.get_operand.ensures.operand, λ made. refuted c.is_defined_inside.result c.if-not-is_defined_inside.true (c.is_defined_inside.ensures.1 made)))

pub loop-i-preserved : goal.loop-i-preserved
loop-i-preserved g c =
    let t = c.args.ctx.now.tree in
    one_more_at (λ v. IsDefinedInside t c.args.root v) (operands_of t c.args.op) c.loop-i.i c.get_operand.result c.get_operand.ensures.operand (c.is_defined_inside.ensures.0 c.if-not-is_defined_inside.false) c.loop-i.invariant

pub returns-clause-ok : goal.returns-clause-ok
returns-clause-ok g c =
    let t = c.args.ctx.now.tree in
    let whole : length (operands_of t c.args.op) ≤ c.loop-i.i = omega arith in
    at_each (λ v. IsDefinedInside t c.args.root v) (operands_of t c.args.op) c.loop-i.i whole c.loop-i.invariant
