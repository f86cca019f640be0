use Rattle.pliron_pass_fit.specs.Found.{AreViolations}
use Rattle.pliron_pass_fit.proofs.violations.add_violations.Given as goal

abbrev pub invariant-loop-aspect : goal.invariant-loop-aspect
invariant-loop-aspect g l = AreViolations g.D.HasMeaning.meaning l.ctx.tree l.root l.found.items
