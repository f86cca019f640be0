use Rattle.pliron_theory.proofs.Answered.{answered}
use Rattle.pliron_theory.proofs.theory.answers_are_read.Goals as goal

pub returns : goal.returns
returns g c = answered _ _ _ _ _ g.met.D.Dialect.answers_true g.met.D.Dialect.answers_jumps g.met.D.Dialect.forwards_operands.passes
