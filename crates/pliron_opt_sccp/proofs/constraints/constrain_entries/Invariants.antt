use Rattle.pliron_core.specs.Tree.{regions_of}
use Rattle.pliron_opt_sccp.specs.Constraints.{AlwaysAdds, EachBefore, EntryIsExecutable}
use Rattle.pliron_opt_sccp.proofs.constraints.constrain_entries.Given as goal

abbrev pub invariant-loop-i : goal.invariant-loop-i
invariant-loop-i l = AlwaysAdds l.initial.constraints.items l.constraints.items (λ now. EachBefore (regions_of l.ctx.tree l.op) l.i (EntryIsExecutable l.ctx.tree now))
