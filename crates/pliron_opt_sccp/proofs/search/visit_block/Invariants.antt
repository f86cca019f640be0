use Rattle.std.proofs.Common.{◌≡◌, ℕ, length}
use Rattle.pliron_core.specs.Tree.{body_of}
use Rattle.pliron_core.specs.WalkSteps.{rest_from}
use Rattle.pliron_opt_sccp.specs.declared.feasible_edges.FeasibleEdges.{FeasibleEdges}
use Rattle.pliron_opt_sccp.specs.declared.lattice_tables.Tables.{Tables}
use Rattle.pliron_opt_sccp.specs.OperationVisits.{VisitsInTurnAndKeeps}
use Rattle.pliron_opt_sccp.specs.LatticeTables.{lattice_values_of, is_numbered}
use Rattle.pliron_opt_sccp.specs.Constraints.{AreEntriesExecutable}
use Rattle.pliron_theory.specs.LatticeValues.{Says}
use Rattle.pliron_opt_sccp.proofs.Going.{IsWalk}
use Rattle.pliron_opt_sccp.proofs.search.visit_block.Given as goal

abbrev pub invariant-loop-at : goal.invariant-loop-at
invariant-loop-at g l =
    let x : Says = record { meaning = g.D.HasMeaning.meaning; can_fold = g.D.ConstFoldInterface.can_fold; can_fold_branch = g.D.BranchOpFoldInterface.can_fold_branch; constants = g.D.ConstFoldInterface.constants; feasible = g.D.BranchOpFoldInterface.feasible; entry_operands = g.D.RegionBranchOpInterface.entry_operands } in
    IsWalk {S = Tables × FeasibleEdges} (λ ks p q. VisitsInTurnAndKeeps x l.ctx.tree ks p.0 q.0 p.1 q.1) (body_of l.ctx.tree l.fn.block) l.at (l.initial.tables, l.initial.edges) (l.tables, l.edges) × ((b : ℕ) → is_numbered l.tables b ≡ is_numbered l.initial.tables b) × AreEntriesExecutable l.ctx.tree (lattice_values_of l.tables) l.scratch.entered

abbrev pub decreases-loop-at : goal.decreases-loop-at
decreases-loop-at g l = length (rest_from l.at (body_of l.ctx.tree l.fn.block))
