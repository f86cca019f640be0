use Rattle.std.proofs.Common.{inr}
use Rattle.pliron_core.proofs.WalkLemmas.{inside_live}
use Rattle.pliron_theory.specs.LatticeValues.{Says}
use Rattle.pliron_opt_sccp.specs.LatticeTables.{lattice_values_of}
use Rattle.pliron_opt_sccp.proofs.ListedFolds.{folds_start, folds_inside, folds_step, folds_smaller, folds_end}
use Rattle.pliron_opt_sccp.proofs.rewrite.all_folds.Goals as goal

pub loop-at-init : goal.loop-at-init
loop-at-init g c =
    let x : Says = record { meaning = g.D.HasMeaning.meaning; can_fold = g.D.ConstFoldInterface.can_fold; can_fold_branch = g.D.BranchOpFoldInterface.can_fold_branch; constants = g.D.ConstFoldInterface.constants; feasible = g.D.BranchOpFoldInterface.feasible; entry_operands = g.D.RegionBranchOpInterface.entry_operands } in
    folds_start x c.args.ctx.now.tree c.args.root (lattice_values_of c.args.tables.now) c.well_formed-2.ensures.tree c.in_ok-folds.folds c.next_in_preorder-at.result c.in_ok-folds.ensures.none c.next_in_preorder-at.ensures.next

pub add_fold-requires : goal.add_fold-requires
add_fold-requires g c =
    let x : Says = record { meaning = g.D.HasMeaning.meaning; can_fold = g.D.ConstFoldInterface.can_fold; can_fold_branch = g.D.BranchOpFoldInterface.can_fold_branch; constants = g.D.ConstFoldInterface.constants; feasible = g.D.BranchOpFoldInterface.feasible; entry_operands = g.D.RegionBranchOpInterface.entry_operands } in
    let t = c.args.ctx.now.tree in
    let w = c.well_formed-2.ensures.tree in
    inside_live t w c.args.root c.in-Some.op (folds_inside x t c.args.root (lattice_values_of c.args.tables.now) w c.loop-at.folds c.loop-at.at c.in-Some.op c.loop-at.invariant c.in-Some.is)

pub next_in_preorder-at-requires-in-Some-clause-within : goal.next_in_preorder-at-requires-in-Some-clause-within
next_in_preorder-at-requires-in-Some-clause-within g c =
    let x : Says = record { meaning = g.D.HasMeaning.meaning; can_fold = g.D.ConstFoldInterface.can_fold; can_fold_branch = g.D.BranchOpFoldInterface.can_fold_branch; constants = g.D.ConstFoldInterface.constants; feasible = g.D.BranchOpFoldInterface.feasible; entry_operands = g.D.RegionBranchOpInterface.entry_operands } in
    inr (folds_inside x c.args.ctx.now.tree c.args.root (lattice_values_of c.args.tables.now) c.well_formed-2.ensures.tree c.loop-at.folds c.loop-at.at c.in-Some.op c.loop-at.invariant c.in-Some.is)

pub loop-at-smaller : goal.loop-at-smaller
loop-at-smaller g c =
    let x : Says = record { meaning = g.D.HasMeaning.meaning; can_fold = g.D.ConstFoldInterface.can_fold; can_fold_branch = g.D.BranchOpFoldInterface.can_fold_branch; constants = g.D.ConstFoldInterface.constants; feasible = g.D.BranchOpFoldInterface.feasible; entry_operands = g.D.RegionBranchOpInterface.entry_operands } in
    folds_smaller x c.args.ctx.now.tree c.args.root (lattice_values_of c.args.tables.now) c.well_formed-2.ensures.tree c.loop-at.folds c.loop-at.at c.next_in_preorder-at-in-Some.result c.in-Some.op c.loop-at.invariant c.in-Some.is c.next_in_preorder-at-in-Some.ensures.next

pub loop-at-preserved : goal.loop-at-preserved
loop-at-preserved g c =
    let x : Says = record { meaning = g.D.HasMeaning.meaning; can_fold = g.D.ConstFoldInterface.can_fold; can_fold_branch = g.D.BranchOpFoldInterface.can_fold_branch; constants = g.D.ConstFoldInterface.constants; feasible = g.D.BranchOpFoldInterface.feasible; entry_operands = g.D.RegionBranchOpInterface.entry_operands } in
    folds_step x c.args.ctx.now.tree c.args.root (lattice_values_of c.args.tables.now) c.well_formed-2.ensures.tree c.loop-at.folds c.add_fold.new.folds c.loop-at.at c.next_in_preorder-at-in-Some.result c.in-Some.op c.loop-at.invariant c.in-Some.is c.next_in_preorder-at-in-Some.ensures.next c.in_ok-add_fold.ensures.ok

pub returns-clause-ok : goal.returns-clause-ok
returns-clause-ok g c =
    let x : Says = record { meaning = g.D.HasMeaning.meaning; can_fold = g.D.ConstFoldInterface.can_fold; can_fold_branch = g.D.BranchOpFoldInterface.can_fold_branch; constants = g.D.ConstFoldInterface.constants; feasible = g.D.BranchOpFoldInterface.feasible; entry_operands = g.D.RegionBranchOpInterface.entry_operands } in
    folds_end x c.args.ctx.now.tree c.args.root (lattice_values_of c.args.tables.now) c.well_formed-2.ensures.tree c.loop-at.folds c.loop-at.at c.loop-at.invariant c.in_default.is
