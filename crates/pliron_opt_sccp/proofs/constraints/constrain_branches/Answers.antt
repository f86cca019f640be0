use Rattle.std.proofs.Common.{subst}
use Rattle.pliron_theory.specs.LatticeValues.{Says}
use Rattle.pliron_opt_sccp.specs.LatticeTables.{lattice_values_of}
use Rattle.pliron_opt_sccp.specs.Constraints.{AreFeasible}
use Rattle.pliron_opt_sccp.proofs.KeptEdges.{are_found}
use Rattle.pliron_opt_sccp.proofs.constraints.constrain_branches.Goals as goal

pub constrain_each_edge-requires-clause-feasible : goal.constrain_each_edge-requires-clause-feasible
constrain_each_edge-requires-clause-feasible g c = subst (λ known. AreFeasible g.D.HasMeaning.meaning g.D.BranchOpFoldInterface.can_fold_branch g.D.BranchOpFoldInterface.feasible c.args.ctx.now.tree c.args.op known c.in_ok-feasible.feasible) c.requires.known c.in_ok-feasible.ensures.ok

pub returns-clause-feasible : goal.returns-clause-feasible
returns-clause-feasible g c =
    let x : Says = (record { meaning = g.D.HasMeaning.meaning; can_fold = g.D.ConstFoldInterface.can_fold; can_fold_branch = g.D.BranchOpFoldInterface.can_fold_branch; constants = g.D.ConstFoldInterface.constants; feasible = g.D.BranchOpFoldInterface.feasible; entry_operands = g.D.RegionBranchOpInterface.entry_operands }) in
    are_found x c.args.ctx.now.tree (lattice_values_of c.args.tables.now) c.args.op c.args.known.now c.requires.known c.in_ok-feasible.feasible c.in_ok-feasible.ensures.ok
