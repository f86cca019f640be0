use Rattle.std.proofs.Common.{[]}
use Rattle.pliron_theory.specs.LatticeValues.{Says}
use Rattle.pliron_opt_sccp.proofs.ReactionLemmas.{none_ahead, both_ahead}
use Rattle.pliron_opt_sccp.proofs.reactions.propagate_named_eagerly.Goals as goal

pub loop-candidate-init : goal.loop-candidate-init
loop-candidate-init g c =
    let x : Says = record { meaning = g.D.HasMeaning.meaning; can_fold = g.D.ConstFoldInterface.can_fold; can_fold_branch = g.D.BranchOpFoldInterface.can_fold_branch; constants = g.D.ConstFoldInterface.constants; feasible = g.D.BranchOpFoldInterface.feasible; entry_operands = g.D.RegionBranchOpInterface.entry_operands } in
    none_ahead x c.args.ctx.now.tree c.args.edges.now c.args.tables.now c.args.from.now.value c.args.from.now.op c.args.from.now.place [] c.args.constraints.now.items

pub loop-candidate-preserved : goal.loop-candidate-preserved
loop-candidate-preserved g c =
    let x : Says = record { meaning = g.D.HasMeaning.meaning; can_fold = g.D.ConstFoldInterface.can_fold; can_fold_branch = g.D.BranchOpFoldInterface.can_fold_branch; constants = g.D.ConstFoldInterface.constants; feasible = g.D.BranchOpFoldInterface.feasible; entry_operands = g.D.RegionBranchOpInterface.entry_operands } in
    both_ahead x c.args.ctx.now.tree c.args.edges.now c.args.tables.now c.args.from.now.value c.args.from.now.op c.args.from.now.place [] c.args.constraints.now.items c.loop-candidate.constraints.items c.constrain_candidate.new.constraints.items c.loop-candidate.invariant (c.in_ok-constrain_candidate.ensures.ok c.args.edges.now)
