use Rattle.pliron_opt_sccp.specs.LatticeTables.{lattice_values_of}
use Rattle.pliron_opt_sccp.proofs.ListedArguments.{AreCollected}
use Rattle.pliron_opt_sccp.proofs.rewrite.all_arguments.Given as goal

abbrev pub invariant-loop-i : goal.invariant-loop-i
invariant-loop-i l = AreCollected l.ctx.tree (lattice_values_of l.tables) l.blocks.items l.i l.arguments.items
