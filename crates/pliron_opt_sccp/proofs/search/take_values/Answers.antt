use Rattle.std.proofs.Common.{inr}
use Rattle.pliron_theory.specs.LatticeValues.{Says}
use Rattle.pliron_opt_sccp.proofs.ReactionLemmas.{taking_start, taking_next, taking_end}
use Rattle.pliron_opt_sccp.proofs.UserLists.{no_keys}
use Rattle.pliron_opt_sccp.proofs.Written.{none_of}
use Rattle.pliron_opt_sccp.proofs.search.take_values.Goals as goal

pub loop-value-init : goal.loop-value-init
loop-value-init g c =
    let x : Says = record { meaning = g.D.HasMeaning.meaning; can_fold = g.D.ConstFoldInterface.can_fold; can_fold_branch = g.D.BranchOpFoldInterface.can_fold_branch; constants = g.D.ConstFoldInterface.constants; feasible = g.D.BranchOpFoldInterface.feasible; entry_operands = g.D.RegionBranchOpInterface.entry_operands } in
    taking_start x c.args.ctx.now.tree c.args.edges.now c.args.tables.now c.new-users.result.keys c.new-constraints.result.items (no_keys c.new-users.result.keys c.new-users.ensures.len) c.new-constraints.ensures.items

pub loop-value-preserved : goal.loop-value-preserved
loop-value-preserved g c =
    let x : Says = record { meaning = g.D.HasMeaning.meaning; can_fold = g.D.ConstFoldInterface.can_fold; can_fold_branch = g.D.BranchOpFoldInterface.can_fold_branch; constants = g.D.ConstFoldInterface.constants; feasible = g.D.BranchOpFoldInterface.feasible; entry_operands = g.D.RegionBranchOpInterface.entry_operands } in
    taking_next x c.args.ctx.now.tree c.args.edges.now c.args.tables.now c.loop-value.tables c.pop_value.new.self c.loop-value.scheduled.users.keys c.loop-value.scheduled.constraints.items c.add_uses.new.scheduled.users.keys c.add_uses.new.scheduled.constraints.items c.loop-value.taken c.in-Some.value c.loop-value.invariant c.in-Some.ensures.taken c.in_ok-add_uses.ensures.ok

pub returns-clause-ok : goal.returns-clause-ok
returns-clause-ok g c =
    let x : Says = record { meaning = g.D.HasMeaning.meaning; can_fold = g.D.ConstFoldInterface.can_fold; can_fold_branch = g.D.BranchOpFoldInterface.can_fold_branch; constants = g.D.ConstFoldInterface.constants; feasible = g.D.BranchOpFoldInterface.feasible; entry_operands = g.D.RegionBranchOpInterface.entry_operands } in
    taking_end x c.args.ctx.now.tree c.args.edges.now c.args.tables.now c.loop-value.tables c.pop_value.new.self c.loop-value.scheduled.users.keys c.loop-value.scheduled.constraints.items c.loop-value.taken c.loop-value.invariant (none_of c.pop_value.result c.in_default.is c.pop_value.ensures.none)

pub add_uses-requires : goal.add_uses-requires
add_uses-requires g c = c.requires c.in-Some.value ((c.loop-value.invariant.waited c.in-Some.value).1 (inr c.in-Some.ensures.taken.waited))
