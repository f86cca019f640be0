use Rattle.pliron_rewrite_calls.proofs.inlining.inline_call.Given as goal

abbrev pub ghost-copy_and_lead_back : goal.ghost-copy_and_lead_back
ghost-copy_and_lead_back g a = record { tree = a.ctx.now.tree; blocks = a.blocks.now; region = a.site.region }
