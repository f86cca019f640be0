use Rattle.std.proofs.Common.{◌+◌, ◌*◌, ◌-◌, ◌^◌, length}
use Rattle.pliron_opt_sccp.specs.Chain.{blocks_inside}
use Rattle.pliron_opt_sccp.specs.Deferring.{deferred_operations}
use Rattle.pliron_opt_sccp.specs.Inside.{values_inside}
use Rattle.pliron_opt_sccp.specs.LatticeTables.{lattice_values_of}
use Rattle.pliron_opt_sccp.specs.Constraints.{AreEntriesExecutable}
use Rattle.pliron_opt_sccp.specs.Searching.{IsSearching}
use Rattle.pliron_opt_sccp.proofs.search.search.Given as goal

abbrev pub invariant-loop-scratch : goal.invariant-loop-scratch
invariant-loop-scratch g l = IsSearching (record { meaning = g.D.HasMeaning.meaning; can_fold = g.D.ConstFoldInterface.can_fold; can_fold_branch = g.D.BranchOpFoldInterface.can_fold_branch; constants = g.D.ConstFoldInterface.constants; feasible = g.D.BranchOpFoldInterface.feasible; entry_operands = g.D.RegionBranchOpInterface.entry_operands }) l.ctx.tree l.fn.root l.tables l.deferred l.edges l.pops × AreEntriesExecutable l.ctx.tree (lattice_values_of l.tables) l.scratch.entered

-- what can still be taken counts more than what is deferred, of which each turn adds less than 2 ^ 64
abbrev pub decreases-loop-scratch : goal.decreases-loop-scratch
decreases-loop-scratch g l = (length (blocks_inside l.ctx.tree l.fn.root) + 2 * length (values_inside l.ctx.tree l.fn.root) - l.pops) * 2 ^ 64 + length (deferred_operations l.deferred)
