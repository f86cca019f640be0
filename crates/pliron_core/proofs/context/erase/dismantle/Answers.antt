use Rattle.std.proofs.Common.{◌<◌, Some, sym, subst}
use Rattle.pliron_core.proofs.DescentLemmas.{IsDescent, descent_start, descent_unnamed, descent_step, descent_end}
use Rattle.pliron_core.proofs.MeasureLemmas.{left_over, descent_falls}
use Rattle.pliron_core.proofs.context.erase.dismantle.Goals as goal
use Rattle.pliron_core.proofs.context.erase.dismantle.Goals.{In-Some}

here : (c : In-Some) → IsDescent c.args.ctx.now.tree c.args.op (Some c.in-Some.key) c.loop-at.ctx.tree
here c = subst (λ o. IsDescent c.args.ctx.now.tree c.args.op o c.loop-at.ctx.tree) c.in-Some.is c.loop-at.invariant

pub loop-at-init : goal.loop-at-init
loop-at-init c = descent_start c.args.ctx.now.tree c.args.op c.well_formed-2.ensures.tree c.requires.live c.requires.free

pub dismantle_step-at-requires-clause-live : goal.dismantle_step-at-requires-clause-live
dismantle_step-at-requires-clause-live c = (here (goal.at.dismantle_step-at-requires-clause-live c).In-Some).place.0

pub dismantle_step-at-requires-clause-unnamed : goal.dismantle_step-at-requires-clause-unnamed
dismantle_step-at-requires-clause-unnamed c = descent_unnamed c.args.ctx.now.tree c.args.op c.well_formed-2.ensures.tree c.requires.live c.requires.free c.loop-at.ctx.tree c.in-Some.key (here (goal.at.dismantle_step-at-requires-clause-unnamed c).In-Some) c.requires.unused

pub loop-at-smaller : goal.loop-at-smaller
loop-at-smaller c =
    let less : left_over c.args.ctx.now.tree c.dismantle_step-at.result c.dismantle_step-at.new.ctx.tree < left_over c.args.ctx.now.tree (Some c.in-Some.key) c.loop-at.ctx.tree = descent_falls c.args.ctx.now.tree c.args.op c.well_formed-2.ensures.tree c.loop-at.ctx.tree c.in-Some.key (here (goal.at.loop-at-smaller c).In-Some) c.dismantle_step-at.result c.dismantle_step-at.new.ctx.tree c.dismantle_step-at.ensures in
    subst (λ o. left_over c.args.ctx.now.tree c.dismantle_step-at.result c.dismantle_step-at.new.ctx.tree < left_over c.args.ctx.now.tree o c.loop-at.ctx.tree) (sym c.in-Some.is) less

pub loop-at-preserved : goal.loop-at-preserved
loop-at-preserved c = descent_step c.args.ctx.now.tree c.args.op c.well_formed-2.ensures.tree c.requires.live c.requires.free c.loop-at.ctx.tree c.in-Some.key (here (goal.at.loop-at-preserved c).In-Some) c.dismantle_step-at.result c.dismantle_step-at.new.ctx.tree c.well_formed-in-Some.ensures.tree c.dismantle_step-at.ensures

pub returns : goal.returns
returns c = descent_end c.args.ctx.now.tree c.args.op c.well_formed-2.ensures.tree c.requires.live c.requires.free c.loop-at.ctx.tree (subst (λ o. IsDescent c.args.ctx.now.tree c.args.op o c.loop-at.ctx.tree) c.in_default.is c.loop-at.invariant)
