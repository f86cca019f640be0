use Rattle.pliron_opt_edges.specs.Ends.{IsFilling}
use Rattle.pliron_opt_edges.proofs.chains.fill.Given as goal

abbrev pub invariant-loop-i : goal.invariant-loop-i
invariant-loop-i g l = IsFilling g.D.HasMeaning.meaning.is_branch l.fn.ctx.tree l.fn.ends l.ends l.path l.fn.from l.i
