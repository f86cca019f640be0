use Rattle.pliron_core.specs.Tree.{regions_of}
use Rattle.pliron_laws.specs.Tree.{entry_block, count_arguments}
use Rattle.pliron_role_runs.proofs.ListReads.{map_more}
use Rattle.pliron_role_runs.proofs.counts.all_entry_arguments.Goals as goal

pub loop-i-preserved : goal.loop-i-preserved
loop-i-preserved c =
    let t = c.args.ctx.now.tree in
    map_more (λ r. count_arguments (entry_block t r)) (regions_of t c.args.op) c.loop-i.i c.get_region.result c.num_region_argument.result c.loop-i.counts.items c.push.new.self.items c.get_region.ensures.region c.num_region_argument.ensures c.in_ok-push.ensures.items c.loop-i.invariant
