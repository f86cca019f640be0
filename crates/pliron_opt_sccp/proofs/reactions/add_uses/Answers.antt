use Rattle.std.proofs.Common.{arith}
use Rattle.pliron_core.specs.Tree.{uses_of}
use Rattle.pliron_theory.specs.LatticeValues.{Says}
use Rattle.pliron_opt_sccp.proofs.ReactionLemmas.{uses_start, uses_next, uses_end}
use Rattle.pliron_opt_sccp.proofs.reactions.add_uses.Goals as goal

pub loop-i-init : goal.loop-i-init
loop-i-init g c =
    let x : Says = record { meaning = g.D.HasMeaning.meaning; can_fold = g.D.ConstFoldInterface.can_fold; can_fold_branch = g.D.BranchOpFoldInterface.can_fold_branch; constants = g.D.ConstFoldInterface.constants; feasible = g.D.BranchOpFoldInterface.feasible; entry_operands = g.D.RegionBranchOpInterface.entry_operands } in
    uses_start x c.args.ctx.now.tree c.args.edges.now c.args.tables.now c.args.value (uses_of c.args.ctx.now.value_uses c.args.value) c.args.scheduled.now.users.keys c.args.scheduled.now.constraints.items

pub loop-i-preserved : goal.loop-i-preserved
loop-i-preserved g c =
    let x : Says = record { meaning = g.D.HasMeaning.meaning; can_fold = g.D.ConstFoldInterface.can_fold; can_fold_branch = g.D.BranchOpFoldInterface.can_fold_branch; constants = g.D.ConstFoldInterface.constants; feasible = g.D.BranchOpFoldInterface.feasible; entry_operands = g.D.RegionBranchOpInterface.entry_operands } in
    uses_next x c.args.ctx.now.tree c.args.edges.now c.args.tables.now c.args.value (uses_of c.args.ctx.now.value_uses c.args.value) c.loop-i.i c.get_use-op.result.0 c.get_use-op.result.1 c.args.scheduled.now.users.keys c.args.scheduled.now.constraints.items c.loop-i.scheduled.users.keys c.loop-i.scheduled.constraints.items c.add_use.new.scheduled.users.keys c.add_use.new.scheduled.constraints.items c.get_use-op.ensures.listed c.loop-i.invariant c.in_ok-add_use.ensures.ok

pub returns-clause-ok : goal.returns-clause-ok
returns-clause-ok g c =
    let x : Says = record { meaning = g.D.HasMeaning.meaning; can_fold = g.D.ConstFoldInterface.can_fold; can_fold_branch = g.D.BranchOpFoldInterface.can_fold_branch; constants = g.D.ConstFoldInterface.constants; feasible = g.D.BranchOpFoldInterface.feasible; entry_operands = g.D.RegionBranchOpInterface.entry_operands } in
    uses_end x c.args.ctx.now c.args.edges.now c.args.tables.now c.args.value c.loop-i.i c.args.scheduled.now.users.keys c.args.scheduled.now.constraints.items c.loop-i.scheduled.users.keys c.loop-i.scheduled.constraints.items c.well_formed-2.ensures.uses (omega arith) c.loop-i.invariant
