use Rattle.pliron_rewrite_calls.proofs.copying.make_copies.Given as goal

abbrev pub ghost-make_blocks : goal.ghost-make_blocks
ghost-make_blocks g a = g.x

abbrev pub ghost-make_operations : goal.ghost-make_operations
ghost-make_operations g a = g.x

abbrev pub ghost-connect_all : goal.ghost-connect_all
ghost-connect_all g a = g.x
