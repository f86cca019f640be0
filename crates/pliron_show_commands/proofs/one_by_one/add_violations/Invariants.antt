use Rattle.pliron_show_commands.specs.Faults.{AreFaults}
use Rattle.pliron_show_commands.proofs.one_by_one.add_violations.Given as goal

abbrev pub invariant-loop-violation : goal.invariant-loop-violation
invariant-loop-violation g l = AreFaults g.D.HasMeaning.meaning l.ctx.tree l.found.items
