use Rattle.std.proofs.Common.{refl, ◌∙◌}
use Rattle.pliron_driver_buffers.specs.Fills.{Fills.Fails}
use Rattle.pliron_driver_buffers.proofs.FillLemmas.{fills_by}
use Rattle.pliron_driver_buffers.proofs.buffer.fill.Goals as goal

pub returns-in-Ok : goal.returns-in-Ok
returns-in-Ok c =
    fills_by _ _ _ _ c.put.ensures (λ bytes e. rw c.in-Ok.is (e ∙ c.deref.ensures.value)) (λ failure never. absurd never)

pub returns-in-Err : goal.returns-in-Err
returns-in-Err c = Fails c.in-Err.failure c.in-Err.is c.put_nothing.ensures.status c.put_nothing.ensures.length refl
