use Rattle.std.proofs.Common.{rules}
use Rattle.pliron_graph_tests.proofs.regions.check_lawful.Goals as goal

pub returns : goal.returns
returns c c' = record {
  tree = search rules;
  liveness = search rules;
  holder = c'.get_parent_op.result;
  held = c'.get_parent_op.ensures.parent;
  edges = c'.edges_last.ensures.0 (search rules);
}
