use Rattle.pliron_show_graphs.proofs.flow_text.may_be_read.Goals as goal

pub returns : goal.returns
returns c = λ e. record {
  tree = c.well_formed-2.ensures.tree;
  liveness = c.requires;
  holder = c.get_parent_op.result;
  held = c.get_parent_op.ensures.parent;
  edges = c.edges_last.ensures.0 e;
}
