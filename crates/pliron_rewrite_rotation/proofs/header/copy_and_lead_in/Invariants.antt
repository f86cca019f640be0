use Rattle.pliron_rewrite_rotation.proofs.header.copy_and_lead_in.Given as goal

abbrev pub ghost-lead_all_in : goal.ghost-lead_all_in
ghost-lead_all_in g a = g.x
