use Rattle.pliron_rewrite_calls.proofs.inlining.lead_back.Given as goal

abbrev pub ghost-replace_returns : goal.ghost-replace_returns
ghost-replace_returns g a = g.x
