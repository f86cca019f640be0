use Rattle.pliron_theory.proofs.KnownRuns.{facts_read}
use Rattle.pliron_theory.proofs.theory.facts_are_read.Goals as goal

pub returns : goal.returns
returns g c = facts_read _ _ _ _ _ g.met.D.Dialect.answers_true g.met.D.Dialect.answers_jumps g.met.D.Dialect.forwards_operands.passes
