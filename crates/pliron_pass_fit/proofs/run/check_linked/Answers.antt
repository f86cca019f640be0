use Rattle.std.proofs.Common.{refl}
use Rattle.pliron_laws.proofs.AnswerLemmas.{refuted}
use Rattle.pliron_pass_fit.proofs.run.check_linked.Goals as goal

pub returns-else-is_well_linked-clause-refused : goal.returns-else-is_well_linked-clause-refused
returns-else-is_well_linked-clause-refused g c = (refl, λ linked. refuted c.is_well_linked.result c.if-is_well_linked.false (c.is_well_linked.ensures.1 linked))
