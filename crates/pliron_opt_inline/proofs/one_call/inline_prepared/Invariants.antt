use Rattle.pliron_opt_inline.proofs.one_call.inline_prepared.Given as goal

abbrev pub ghost-inline_call : goal.ghost-inline_call
ghost-inline_call g a = g.symbol
