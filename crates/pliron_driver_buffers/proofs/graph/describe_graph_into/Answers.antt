use Rattle.pliron_driver_buffers.proofs.FillLemmas.{fills_by, of_err}
use Rattle.pliron_driver_buffers.proofs.graph.describe_graph_into.Goals as goal

pub returns : goal.returns
returns c =
    fills_by _ _ _ _ c.fill.ensures (λ answer reported. tt) (of_err _ c.answer_of_graph.result c.answer_of_graph.ensures)
