use Rattle.std.proofs.Common.{length}
use Rattle.pliron_opt_sccp.specs.LatticeTables.{StampsEachLowered}
use Rattle.pliron_opt_sccp.proofs.Applied.{IsDone}
use Rattle.pliron_opt_sccp.proofs.constraints.satisfy_all.Given as goal

abbrev pub invariant-loop-demand : goal.invariant-loop-demand
invariant-loop-demand l = IsDone l.fn.constraints.items l.fn.tables l.constraints.items l.tables × StampsEachLowered l.fn.tables l.tables

abbrev pub decreases-loop-demand : goal.decreases-loop-demand
decreases-loop-demand l = length l.constraints.items
