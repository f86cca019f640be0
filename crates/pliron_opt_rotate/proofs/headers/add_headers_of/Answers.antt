use Rattle.std.proofs.Common.{ap}
use Rattle.pliron_core.specs.Tree.{op_of_slot}
use Rattle.pliron_opt_rotate.proofs.headers.add_headers_of.Goals as goal

pub add_headers-requires : goal.add_headers-requires
add_headers-requires c =
    let w = c.well_formed-2.ensures.tree in
    record {
      tree = w;
      liveness = c.get_region.ensures.liveness;
      holder = c.args.op;
      held = ap op_of_slot (w.joined.regions c.args.op c.loop-i.i c.get_region.result c.get_region.ensures.region);
      edges = c.requires.edges;
    }
