use Rattle.pliron_opt_inline.proofs.one_call.inline_one.Given as goal

abbrev pub ghost-inline_prepared : goal.ghost-inline_prepared
ghost-inline_prepared g a = g.symbol
