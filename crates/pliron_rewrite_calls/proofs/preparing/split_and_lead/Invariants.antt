use Rattle.pliron_rewrite_calls.proofs.preparing.split_and_lead.Given as goal

abbrev pub ghost-erase_new_blocks : goal.ghost-erase_new_blocks
ghost-erase_new_blocks g a = g.t
