use Rattle.std.proofs.Common.{ap, is_some, subst}
use Rattle.pliron_core.specs.Tree.{In, IsLive}
use Rattle.pliron_rewrite_rotation.proofs.LeadingSteps.{in_a, blocks, no_results, childless}
use Rattle.pliron_rewrite_rotation.proofs.LedSteps.{targets_are, led_in}
use Rattle.pliron_rewrite_rotation.proofs.header.lead_in.Goals as goal

pub lead_elsewhere-led-requires-clause-placed : goal.lead_elsewhere-led-requires-clause-placed
lead_elsewhere-led-requires-clause-placed g c =
    let live : IsLive c.args.ctx.now.tree c.args.op = c.is_live.ensures.0 c.if-not-is_live.false in
    ap is_some (in_a g.x c.requires.1.0 c.args.ctx.now.tree c.well_formed-2.ensures.tree c.requires.1.1.1.1.1 c.args.op c.requires.1.1.0 live)

pub lead_elsewhere-led-requires-clause-targets : goal.lead_elsewhere-led-requires-clause-targets
lead_elsewhere-led-requires-clause-targets g c = λ b i.
    let live : IsLive c.args.ctx.now.tree c.args.op = c.is_live.ensures.0 c.if-not-is_live.false in
    blocks g.x c.requires.1.0 c.args.ctx.now.tree c.well_formed-2.ensures.tree c.requires.1.1.1.1.1 c.args.op c.requires.1.1.0 live b
    (subst (In b) (targets_are g.x c.requires.1.0 c.args.ctx.now.tree c.well_formed-2.ensures.tree c.requires.1.1.1.1.1 c.args.op c.requires.1.1.0 live c.args.header c.args.copy c.requires.1.1.1.0 c.requires.1.1.1.1.0 c.in_ok-targets.targets.items c.in_ok-targets.ensures.ok) i)

pub lead_elsewhere-led-requires-clause-no_results : goal.lead_elsewhere-led-requires-clause-no_results
lead_elsewhere-led-requires-clause-no_results g c =
    let live : IsLive c.args.ctx.now.tree c.args.op = c.is_live.ensures.0 c.if-not-is_live.false in
    no_results g.x c.requires.1.0 c.args.ctx.now.tree c.well_formed-2.ensures.tree c.requires.1.1.1.1.1 c.args.op c.requires.1.1.0 live

pub lead_elsewhere-led-requires-clause-no_regions : goal.lead_elsewhere-led-requires-clause-no_regions
lead_elsewhere-led-requires-clause-no_regions g c =
    let live : IsLive c.args.ctx.now.tree c.args.op = c.is_live.ensures.0 c.if-not-is_live.false in
    childless g.x c.requires.1.0 c.args.ctx.now.tree c.well_formed-2.ensures.tree c.requires.1.1.1.1.1 c.args.op c.requires.1.1.0 live

pub returns-clause-leading : goal.returns-clause-leading
returns-clause-leading g c =
    let live : IsLive c.args.ctx.now.tree c.args.op = c.is_live.ensures.0 c.if-not-is_live.false in
    (led_in g.x c.requires.1.0 c.args.ctx.now.tree c.well_formed-2.ensures.tree c.requires.1.1.1.1.1 c.args.op c.requires.1.1.0 live c.args.header c.args.copy c.requires.1.1.1.0 c.requires.1.1.1.1.0 c.in_ok-targets.targets.items c.in_ok-targets.ensures.ok c.lead_elsewhere-led.new.ctx.tree c.well_formed-3.ensures.tree c.in_ok-led.ensures.ok).leading

pub returns-clause-not_live : goal.returns-clause-not_live
returns-clause-not_live g c =
    let live : IsLive c.args.ctx.now.tree c.args.op = c.is_live.ensures.0 c.if-not-is_live.false in
    (led_in g.x c.requires.1.0 c.args.ctx.now.tree c.well_formed-2.ensures.tree c.requires.1.1.1.1.1 c.args.op c.requires.1.1.0 live c.args.header c.args.copy c.requires.1.1.1.0 c.requires.1.1.1.1.0 c.in_ok-targets.targets.items c.in_ok-targets.ensures.ok c.lead_elsewhere-led.new.ctx.tree c.well_formed-3.ensures.tree c.in_ok-led.ensures.ok).gone

pub returns-clause-live_before : goal.returns-clause-live_before
returns-clause-live_before g c =
    let live : IsLive c.args.ctx.now.tree c.args.op = c.is_live.ensures.0 c.if-not-is_live.false in
    (led_in g.x c.requires.1.0 c.args.ctx.now.tree c.well_formed-2.ensures.tree c.requires.1.1.1.1.1 c.args.op c.requires.1.1.0 live c.args.header c.args.copy c.requires.1.1.1.0 c.requires.1.1.1.1.0 c.in_ok-targets.targets.items c.in_ok-targets.ensures.ok c.lead_elsewhere-led.new.ctx.tree c.well_formed-3.ensures.tree c.in_ok-led.ensures.ok).fewer

pub returns-clause-bound : goal.returns-clause-bound
returns-clause-bound g c =
    let live : IsLive c.args.ctx.now.tree c.args.op = c.is_live.ensures.0 c.if-not-is_live.false in
    (led_in g.x c.requires.1.0 c.args.ctx.now.tree c.well_formed-2.ensures.tree c.requires.1.1.1.1.1 c.args.op c.requires.1.1.0 live c.args.header c.args.copy c.requires.1.1.1.0 c.requires.1.1.1.1.0 c.in_ok-targets.targets.items c.in_ok-targets.ensures.ok c.lead_elsewhere-led.new.ctx.tree c.well_formed-3.ensures.tree c.in_ok-led.ensures.ok).bound
