use Rattle.pliron_rewrite_calls.proofs.inlining.copy_and_lead_back.Given as goal

abbrev pub ghost-copy_within_room : goal.ghost-copy_within_room
ghost-copy_within_room g a = g.x

abbrev pub ghost-lead_back : goal.ghost-lead_back
ghost-lead_back g a = g.x

abbrev pub ghost-erase_new_blocks : goal.ghost-erase_new_blocks
ghost-erase_new_blocks g a = g.x.tree
