use Rattle.pliron_core.specs.Tree.{arguments_of}
use Rattle.pliron_opt_sccp.specs.Constraints.{AlwaysAdds, EachBefore, IsNotConstant}
use Rattle.pliron_opt_sccp.proofs.constraints.constrain_entry.Given as goal

abbrev pub invariant-loop-i : goal.invariant-loop-i
invariant-loop-i l = AlwaysAdds l.initial.constraints.items l.constraints.items (λ now. EachBefore (arguments_of l.ctx.tree l.block) l.i (IsNotConstant now))
