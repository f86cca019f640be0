use Rattle.pliron_rewrite_calls.proofs.preparing.prepare_call.Given as goal

abbrev pub ghost-split_and_lead : goal.ghost-split_and_lead
ghost-split_and_lead g a = a.ctx.now.tree
