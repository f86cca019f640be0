use Rattle.pliron_show_commands.proofs.live_use.BlockContents.other_use_of.Goals as goal

pub returns-then-not-contains : goal.returns-then-not-contains
returns-then-not-contains c = c.well_formed-2.ensures.uses.value_uses.listed c.args.value c.loop-i.i (record { user = c.get_use-user.result.0; place = c.get_use-user.result.1 }) c.get_use-user.ensures.listed
