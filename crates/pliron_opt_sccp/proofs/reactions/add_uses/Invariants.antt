use Rattle.pliron_core.specs.Tree.{uses_of}
use Rattle.pliron_opt_sccp.specs.OperationVisits.{SchedulesUses}
use Rattle.pliron_opt_sccp.proofs.ReactionLemmas.{IsUseBefore}
use Rattle.pliron_theory.specs.LatticeValues.{Says}
use Rattle.pliron_opt_sccp.proofs.reactions.add_uses.Given as goal

abbrev pub invariant-loop-i : goal.invariant-loop-i
invariant-loop-i g l =
    let x : Says = record { meaning = g.D.HasMeaning.meaning; can_fold = g.D.ConstFoldInterface.can_fold; can_fold_branch = g.D.BranchOpFoldInterface.can_fold_branch; constants = g.D.ConstFoldInterface.constants; feasible = g.D.BranchOpFoldInterface.feasible; entry_operands = g.D.RegionBranchOpInterface.entry_operands } in
    SchedulesUses x l.ctx.tree l.tables l.edges l.value (IsUseBefore x l.ctx.tree l.edges (uses_of l.ctx.value_uses l.value) l.i) l.initial.scheduled.users.keys l.initial.scheduled.constraints.items l.scheduled.users.keys l.scheduled.constraints.items
