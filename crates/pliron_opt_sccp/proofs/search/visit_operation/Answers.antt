use Rattle.pliron_theory.specs.LatticeValues.{Says}
use Rattle.pliron_opt_sccp.proofs.Applied.{applied_same, can_satisfy_same}
use Rattle.pliron_opt_sccp.specs.LatticeTables.{known_constants}
use Rattle.pliron_opt_sccp.proofs.Entered.{entered_now}
use Rattle.pliron_opt_sccp.proofs.Stamps.{stamped_then}
use Rattle.pliron_opt_sccp.proofs.Stepping.{can_satisfy}
use Rattle.pliron_opt_sccp.proofs.search.visit_operation.Goals as goal

pub satisfy_all-requires : goal.satisfy_all-requires
satisfy_all-requires g c =
    let x : Says = record { meaning = g.D.HasMeaning.meaning; can_fold = g.D.ConstFoldInterface.can_fold; can_fold_branch = g.D.BranchOpFoldInterface.can_fold_branch; constants = g.D.ConstFoldInterface.constants; feasible = g.D.BranchOpFoldInterface.feasible; entry_operands = g.D.RegionBranchOpInterface.entry_operands } in
    let t = c.args.ctx.now.tree in
    let constraints = c.constraints_of.new.scratch.constraints.items in
    can_satisfy_same t c.args.op c.args.tables.now c.stamp.new.tables c.stamp.ensures constraints (can_satisfy x t c.args.op c.args.tables.now constraints c.requires.live c.requires.targets c.in_ok-constraints_of.ensures.ok)

pub returns-clause-ok : goal.returns-clause-ok
returns-clause-ok g c =
    let t = c.args.ctx.now.tree in
    let constraints = c.constraints_of.new.scratch.constraints.items in
    record {
      constraints = constraints;
      asks = c.in_ok-constraints_of.ensures.ok;
      applied = applied_same t c.args.op c.args.tables.now c.stamp.new.tables c.stamp.ensures constraints c.satisfy_all.new.tables c.satisfy_all.ensures.applied;
      stamped = stamped_then t c.args.op c.args.tables.now c.stamp.new.tables c.satisfy_all.new.tables c.stamp.ensures c.satisfy_all.ensures.stamped;
    }

pub returns-clause-entered : goal.returns-clause-entered
returns-clause-entered g c =
    let t = c.args.ctx.now.tree in
    let constraints = c.constraints_of.new.scratch.constraints.items in
    entered_now (known_constants c.args.tables.now) t c.args.tables.now c.satisfy_all.new.tables constraints c.constraints_of.new.scratch.entered c.in_ok-constraints_of.ensures.entered (applied_same t c.args.op c.args.tables.now c.stamp.new.tables c.stamp.ensures constraints c.satisfy_all.new.tables c.satisfy_all.ensures.applied)
