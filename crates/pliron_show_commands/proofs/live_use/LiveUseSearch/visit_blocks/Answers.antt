use Rattle.pliron_graph_traversal.specs.Regions.{IsLawfulRegion}
use Rattle.pliron_show_commands.proofs.live_use.LiveUseSearch.visit_blocks.Goals as goal

pub new-requires : goal.new-requires
new-requires c =
    let law : IsLawfulRegion c.args.ctx.now.tree c.args.region = record {
      tree = c.well_formed-2.ensures.tree;
      liveness = c.requires;
      holder = c.get_parent_op.result;
      held = c.get_parent_op.ensures.parent;
      edges = c.edges_last.ensures.0 c.if-not-edges_last.false;
    } in
    law
