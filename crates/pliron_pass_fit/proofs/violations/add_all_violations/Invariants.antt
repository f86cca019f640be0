use Rattle.pliron_pass_fit.specs.Found.{AreViolations}
use Rattle.pliron_pass_fit.proofs.violations.add_all_violations.Given as goal

abbrev pub invariant-loop-op : goal.invariant-loop-op
invariant-loop-op g l = AreViolations g.D.HasMeaning.meaning l.ctx.tree l.root l.found.items
