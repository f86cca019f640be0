use Rattle.pliron_graph_traversal.proofs.MarkLemmas.{no_marks}
use Rattle.pliron_graph_traversal.proofs.listed_set.NumberSetListedSetU32.empty.Goals as goal

pub invariant_of-result : goal.invariant_of-result
invariant_of-result c = no_marks c.new.result.items c.new-2.result.items c.new.ensures.items c.new-2.ensures.items
