use Rattle.std.proofs.Common.{◌∙◌}
use Rattle.pliron_graph_traversal.proofs.MarkLemmas.{zero_pushed}
use Rattle.pliron_graph_traversal.proofs.listed_set.lengthen.Goals as goal

pub loop-table-preserved : goal.loop-table-preserved
loop-table-preserved c = λ k. rw c.in_ok-push.ensures.items (zero_pushed c.loop-table.table.items k ∙ c.loop-table.invariant k)
