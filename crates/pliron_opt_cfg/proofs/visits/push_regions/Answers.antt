use Rattle.pliron_core.specs.Tree.{regions_of}
use Rattle.pliron_opt_cfg.proofs.ListLemmas.{taken_more}
use Rattle.pliron_opt_cfg.proofs.visits.push_regions.Goals as goal

pub loop-i-preserved : goal.loop-i-preserved
loop-i-preserved c =
    taken_more (regions_of c.args.ctx.now.tree c.args.op) c.loop-i.i c.get_region.result c.args.regions.now.items c.loop-i.regions.items c.push.new.self.items c.get_region.ensures.region c.loop-i.invariant c.in_ok-push.ensures.items
