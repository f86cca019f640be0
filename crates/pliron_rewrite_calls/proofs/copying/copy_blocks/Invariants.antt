use Rattle.pliron_rewrite_calls.proofs.copying.copy_blocks.Given as goal

abbrev pub ghost-copy_within_room : goal.ghost-copy_within_room
ghost-copy_within_room g a = record { tree = a.ctx.now.tree; blocks = a.blocks.now; region = a.region }
