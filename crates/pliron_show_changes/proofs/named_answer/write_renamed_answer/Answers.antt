use Rattle.pliron_show_changes.proofs.AnswerLemmas.{renamed}
use Rattle.pliron_show_changes.proofs.named_answer.write_renamed_answer.Goals as goal

pub returns : goal.returns
returns g c = renamed _ _ c.args.answer.now c.in-Some.text.now c.in_ok-lay_out.field-0.items (c.in_ok-reads_alike.ensures c.if-branch.true) c.in_ok-lay_out.ensures
