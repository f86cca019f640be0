use Rattle.pliron_show_commands.specs.Faults.{AreFaults}
use Rattle.pliron_show_commands.proofs.one_by_one.all_unfit.Given as goal

abbrev pub invariant-loop-op : goal.invariant-loop-op
invariant-loop-op g l = AreFaults g.D.HasMeaning.meaning l.ctx.tree l.found.items
