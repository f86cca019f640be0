use Rattle.pliron_rewrite_calls.proofs.copying.copy_within_room.Given as goal

abbrev pub ghost-make_copies : goal.ghost-make_copies
ghost-make_copies g a = g.x

abbrev pub ghost-erase_new_blocks : goal.ghost-erase_new_blocks
ghost-erase_new_blocks g a = g.x.tree
