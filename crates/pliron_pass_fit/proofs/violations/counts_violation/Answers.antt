use Rattle.pliron_laws.proofs.AnswerLemmas.{refuted}
use Rattle.pliron_pass_fit.proofs.violations.counts_violation.Goals as goal

pub returns : goal.returns
returns g c = (c.requires.within, λ yes. refuted c.is_admitted.result c.if-is_admitted.false (c.is_admitted.ensures.1 yes))
