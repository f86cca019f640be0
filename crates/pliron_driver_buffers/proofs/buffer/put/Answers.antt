use Rattle.std.proofs.Common.{◌++◌, length, drop, refl, ap, arith}
use Rattle.pliron_driver_buffers.specs.Fills.{Fills.Whole, Fills.Short}
use Rattle.pliron_driver_buffers.proofs.buffer.put.Goals as goal

pub returns-then-answer-output : goal.returns-then-answer-output
returns-then-answer-output c = Short c.args.answer.now refl refl refl (omega arith) refl

pub returns : goal.returns
returns c =
    Whole c.args.answer.now refl refl refl (omega arith) (ap (λ l. l ++ drop (length c.args.answer.now) c.args.output.now) c.copy_from_slice.ensures.after)
