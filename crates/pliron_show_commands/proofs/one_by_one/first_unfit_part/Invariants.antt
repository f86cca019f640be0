use Rattle.pliron_show_commands.proofs.PartLemmas.{IsSearched}
use Rattle.pliron_show_commands.proofs.one_by_one.first_unfit_part.Given as goal

abbrev pub invariant-loop-op : goal.invariant-loop-op
invariant-loop-op g l = IsSearched g.D.HasMeaning.meaning l.ctx.tree l.fn.root l.op-iterator
