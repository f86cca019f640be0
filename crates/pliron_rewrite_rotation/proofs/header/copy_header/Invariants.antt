use Rattle.pliron_rewrite_rotation.proofs.header.copy_header.Given as goal

abbrev pub ghost-copy_and_lead_in : goal.ghost-copy_and_lead_in
ghost-copy_and_lead_in g a = record { tree = a.ctx.now.tree; header = a.header; region = a.region; entering = a.entering.now }
