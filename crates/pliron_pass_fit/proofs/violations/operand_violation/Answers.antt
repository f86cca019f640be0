use Rattle.pliron_laws.proofs.AnswerLemmas.{refuted}
use Rattle.pliron_pass_fit.proofs.violations.operand_violation.Goals as goal

pub returns : goal.returns
returns g c =
    (c.requires.inside, (c.get_operand.result, c.get_operand.ensures.operand, λ made. refuted c.is_defined_inside.result c.if-is_defined_inside.false (c.is_defined_inside.ensures.1 made)))
