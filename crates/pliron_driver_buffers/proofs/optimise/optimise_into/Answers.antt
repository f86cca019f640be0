use Rattle.pliron_driver_buffers.proofs.FillLemmas.{fills_by, of_ok, of_err}
use Rattle.pliron_driver_buffers.proofs.optimise.optimise_into.Goals as goal

pub returns : goal.returns
returns g c =
    fills_by _ _ _ _ c.fill.ensures (of_ok _ (λ answer. answer.items) c.optimise_by_list.result c.optimise_by_list.ensures.answer)
    (of_err _ c.optimise_by_list.result c.optimise_by_list.ensures.failure)
