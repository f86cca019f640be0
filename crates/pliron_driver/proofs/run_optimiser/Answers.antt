use Rattle.std.proofs.Common.{refl, subst, ap, ◌∙◌}
use Rattle.std.specs.Io.KnownBytes.{Appends}
use Rattle.pliron_driver.specs.Ending.{Ends.Whole, Ends.Part, WritesPart, exit_status}
use Rattle.pliron_driver.proofs.run_optimiser.Goals as goal

pub returns-in-Ok-write_answer : goal.returns-in-Ok-write_answer
returns-in-Ok-write_answer g c =
    Whole _ c.in-Ok.ensures refl (subst (Appends _ _) c.deref.ensures.value c.in-Ok-write_answer.ensures.whole)

pub returns-in-Ok : goal.returns-in-Ok
returns-in-Ok g c =
    Part _ c.in-Ok.ensures (c.report.ensures ∙ ap exit_status c.in-Err-write_answer.ensures.err) (subst (WritesPart _ _) c.deref.ensures.value c.in-Err-write_answer.ensures.part)
