use Rattle.pliron_graph_order.proofs.Behind.{behind}
use Rattle.pliron_graph_order.proofs.dominance_goes_by_steps.Goals as goal

pub returns : goal.returns
returns c = behind
