use Rattle.std.proofs.Common.{◌≤◌, length}
use Rattle.pliron_opt_sccp.specs.LatticeTables.{lattice_values_of}
use Rattle.pliron_opt_sccp.specs.Constraints.{AreEntriesExecutable}
use Rattle.pliron_opt_sccp.proofs.DeferredVisits.{IsSeeing}
use Rattle.pliron_opt_sccp.proofs.search.visit_or_defer_all.Given as goal

abbrev pub invariant-loop-i : goal.invariant-loop-i
invariant-loop-i g l = IsSeeing (record { meaning = g.D.HasMeaning.meaning; can_fold = g.D.ConstFoldInterface.can_fold; can_fold_branch = g.D.BranchOpFoldInterface.can_fold_branch; constants = g.D.ConstFoldInterface.constants; feasible = g.D.BranchOpFoldInterface.feasible; entry_operands = g.D.RegionBranchOpInterface.entry_operands }) l.ctx.tree l.ops l.i l.initial.tables l.tables l.initial.deferred l.deferred × (l.i ≤ length l.ops) × AreEntriesExecutable l.ctx.tree (lattice_values_of l.tables) l.scratch.entered
