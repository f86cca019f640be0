use Rattle.std.proofs.Common.{◌∙◌}
use Rattle.pliron_graph_components.proofs.pre_sentinels.last_of_sinks.Goals as goal

pub take_sinks-requires-clause-places : goal.take_sinks-requires-clause-places
take_sinks-requires-clause-places g c = c.in_ok-places.ensures.listed ∙ c.deref.ensures.value ∙ c.in_ok-nodes.ensures.list
