use Rattle.std.proofs.Common.{◌≡◌, ◌++◌, take}
use Rattle.pliron_core.specs.Tree.{operands_of}
use Rattle.pliron_theory.specs.LatticeValues.{operand_constants}
use Rattle.pliron_opt_sccp.specs.LatticeTables.{lattice_values_of}
use Rattle.pliron_opt_sccp.proofs.constraints.add_known.Given as goal

abbrev pub invariant-loop-i : goal.invariant-loop-i
invariant-loop-i l = l.attrs.items ≡ l.fn.attrs.items ++ operand_constants (lattice_values_of l.tables) (take l.i (operands_of l.ctx.tree l.op))
