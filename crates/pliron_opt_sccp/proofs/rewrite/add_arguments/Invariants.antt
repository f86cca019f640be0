use Rattle.pliron_opt_sccp.specs.LatticeTables.{lattice_values_of}
use Rattle.pliron_opt_sccp.proofs.ListedArguments.{AreAdded}
use Rattle.pliron_opt_sccp.proofs.rewrite.add_arguments.Given as goal

abbrev pub invariant-loop-index : goal.invariant-loop-index
invariant-loop-index l = AreAdded l.ctx.tree (lattice_values_of l.tables) l.block l.initial.arguments.items l.index l.arguments.items
