use Rattle.pliron_opt_sccp.proofs.Applied.{start_done, next_done, can_meet_last}
use Rattle.pliron_opt_sccp.proofs.Stamps.{fallen_none, fallen_both}
use Rattle.pliron_opt_sccp.proofs.constraints.satisfy_all.Goals as goal

pub loop-demand-init : goal.loop-demand-init
loop-demand-init c = (start_done c.args.constraints.now.items c.args.tables.now, fallen_none c.args.tables.now)

pub satisfy-requires : goal.satisfy-requires
satisfy-requires c = can_meet_last c.args.constraints.now.items c.in-Some.demand c.loop-demand.constraints.items c.pop.new.self.items c.args.tables.now c.loop-demand.tables c.requires c.in-Some.ensures.items c.loop-demand.invariant.0

pub loop-demand-preserved : goal.loop-demand-preserved
loop-demand-preserved c = (
  next_done c.args.constraints.now.items c.in-Some.demand c.loop-demand.constraints.items c.pop.new.self.items c.args.tables.now c.loop-demand.tables c.requires c.in-Some.ensures.items c.loop-demand.invariant.0 c.satisfy.new.tables c.satisfy.ensures.applied,
  fallen_both c.args.tables.now c.loop-demand.tables c.satisfy.new.tables c.loop-demand.invariant.1 c.satisfy.ensures.stamped,
)
