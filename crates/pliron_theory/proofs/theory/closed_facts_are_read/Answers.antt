use Rattle.pliron_theory.proofs.ClosedRead.{closed_facts}
use Rattle.pliron_theory.proofs.SoundRuns.{names_well}
use Rattle.pliron_theory.proofs.theory.closed_facts_are_read.Goals as goal

pub returns : goal.returns
returns g c = closed_facts _ g.met.D.Dialect.answers_true g.met.D.Dialect.answers_jumps g.met.D.Dialect.forwards_operands.passes (names_well _ _ g.met.D.Dialect.names_operands g.met.D.Dialect.roots)
