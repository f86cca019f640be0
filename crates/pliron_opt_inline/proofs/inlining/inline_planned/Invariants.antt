use Rattle.pliron_opt_inline.proofs.inlining.inline_planned.Given as goal

abbrev pub ghost-inline_bottom_up : goal.ghost-inline_bottom_up
ghost-inline_bottom_up g a = a.ctx.now.tree
