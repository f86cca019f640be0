use Rattle.std.proofs.Common.{◌≡◌, refl, ap, arith}
use Rattle.pliron_driver_buffers.specs.declared.status.CallFailure.TheVariants.{Memory}
use Rattle.pliron_driver_buffers.specs.Fills.{Fills.Fails}
use Rattle.pliron_driver_buffers.proofs.FillLemmas.{fills_by, of_err}
use Rattle.pliron_driver_buffers.proofs.fault.report_fault.Goals as goal

pub returns-in-Ok-Some-clause-fills : goal.returns-in-Ok-Some-clause-fills
returns-in-Ok-Some-clause-fills c =
    fills_by _ _ _ _ c.put.ensures
    (λ expected reported e. let none : c.place_in.result.line ≡ 0 = ap (λ place. place.line) e in absurd (omega (arith, c.place_in.ensures.line, none)))
    (λ failure never. absurd never)

pub returns-in-Ok-None-clause-fills : goal.returns-in-Ok-None-clause-fills
returns-in-Ok-None-clause-fills c =
    fills_by _ _ _ _ c.put-in-Ok-None.ensures (λ expected reported e. reported) (λ failure never. absurd never)

pub returns-in-Err-clause-fills : goal.returns-in-Err-clause-fills
returns-in-Err-clause-fills c =
    Fails c.in-Err.failure (of_err (λ f. f ≡ Memory) c.args.found c.requires.memory c.in-Err.failure c.in-Err.is, refl)
    c.put_nothing.ensures.status c.put_nothing.ensures.length refl
