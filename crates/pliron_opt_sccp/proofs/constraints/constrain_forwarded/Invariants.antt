use Rattle.pliron_core.specs.Tree.{arguments_of}
use Rattle.pliron_opt_sccp.specs.LatticeTables.{known_constants, lattice_values_of}
use Rattle.pliron_opt_sccp.specs.Constraints.{Adds, EachBefore, GetsForwarded}
use Rattle.pliron_opt_sccp.proofs.constraints.constrain_forwarded.Given as goal

abbrev pub invariant-loop-j : goal.invariant-loop-j
invariant-loop-j l = Adds (known_constants l.tables) l.initial.constraints.items l.constraints.items (λ now. EachBefore (arguments_of l.ctx.tree l.block) l.j (GetsForwarded (lattice_values_of l.tables) l.values now))
