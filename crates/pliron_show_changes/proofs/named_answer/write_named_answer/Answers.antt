use Rattle.pliron_show_changes.proofs.AnswerLemmas.{by_names}
use Rattle.pliron_show_changes.proofs.named_answer.write_named_answer.Goals as goal

pub returns : goal.returns
returns g c = by_names _ _ c.args.answer.now c.in-Some.text.now c.in_ok-lay_out.field-0.items (c.in_ok-reads_as.ensures c.if-branch.true) c.in_ok-lay_out.ensures
