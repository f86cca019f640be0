use Rattle.pliron_dialect.specs.Roles.{role_at}
use Rattle.pliron_dialect.proofs.FitReads.{FitBelow}
use Rattle.pliron_dialect.proofs.verify.all_edges_fit.Given as goal

abbrev pub invariant-loop-i : goal.invariant-loop-i
invariant-loop-i g l = FitBelow (role_at g.K.Roles.tables) l.ctx.tree l.op l.i
