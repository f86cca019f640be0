use Rattle.pliron_core.specs.Tree.{results_of}
use Rattle.pliron_opt_sccp.specs.Constraints.{AlwaysAdds, EachBefore, IsNotConstant}
use Rattle.pliron_opt_sccp.proofs.constraints.constrain_unknown.Given as goal

abbrev pub invariant-loop-i : goal.invariant-loop-i
invariant-loop-i l = AlwaysAdds l.initial.constraints.items l.constraints.items (λ now. EachBefore (results_of l.ctx.tree l.op) l.i (IsNotConstant now))
