use Rattle.std.specs.Prelude.{IfSome}
use Rattle.pliron_text.specs.Printing.{AreStepsLive, IsStepLive}
use Rattle.pliron_text.proofs.steps.Outline.of.Given as goal

abbrev pub invariant-loop : goal.invariant-loop
invariant-loop l = AreStepsLive l.ctx.tree l.steps.items × IfSome l.next (λ step. IsStepLive l.ctx.tree step)
